-- `at_rest` meets its contract: where it says yes, a turn finds an effect waiting, or nothing at all.
use Rattle.std.proofs.Common.{◌≡◌, ◌≤◌, Bool, None, [], length, sym, ap, ◌∙◌, arith}
use borrow.Author.Tests.{eqb-true, leb-true, not-true}
use Rattle.components.specs.Tables.{entries}
use Rattle.pending.specs.Queue.{events}
use Rattle.settling.specs.Settle.{failed_is}
use Rattle.settling.specs.Parts.{together}
use Rattle.settling.proofs.Views.{none_waits, held-short, left-none, no_length, turn-still, turn_by_lem}
use Rattle.settling.proofs.at_rest.Goals as goal
use Rattle.settling.proofs.at_rest.Goals.{then-w-d, else-w-d}

pub returns-then-is_some : goal.returns-then-is_some
returns-then-is_some c = λ h ch max. turn-still (entries ch) max (together ch c.args.w.now c.args.d.now) cc

pub returns-then-count-eq0 : goal.returns-then-count-eq0
returns-then-count-eq0 c =
    let b = c.args.w.now in
    let d = c.args.d.now in
    let none : d.waiting ≡ None = none_waits d.waiting cc in
    elim c.if-w-d.branch [
      | then-w-d w ↦
          let empty : length (events d.pending) ≤ 0 = omega (arith, eqb-true w.count.result 0 (sym w.value-is ∙ c.if-count-eq0.true)) in
          λ h ch max. turn_by_lem (entries ch) max (together ch b d) None [] [] none (left-none b d (omega (arith, held-short b d, w.if-w-d.true))) (no_length (events d.pending) empty)
          ∙ ap (λ (f : Bool). failed_is f (together ch b d)) (sym (not-true d.failed h))
      | else-w-d w ↦ absurd (omega (arith, leb-true b.sink.effects.len d.next (sym w.value-is ∙ c.if-count-eq0.true)))
    ]
