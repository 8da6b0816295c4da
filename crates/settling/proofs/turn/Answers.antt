-- `turn` meets its contract: by what waits, is left and is queued.
use Rattle.std.proofs.Common.{false, None, [], ◌∷◌, length, sym, ◌∙◌, arith}
use Rattle.components.specs.Tables.{entries}
use Rattle.store.specs.Sink.{held}
use Rattle.pending.specs.Queue.{events, rest}
use Rattle.pending.proofs.Laws.{first-none, first_one}
use Rattle.settling.specs.Settle.{failed_is}
use Rattle.settling.specs.Parts.{together}
use Rattle.settling.proofs.Views.{makes-as, moves-makes, stepped-makes, none_waits, left-none, turn_by_lem}
use Rattle.settling.proofs.turn.Goals as goal

pub hand_next-requires : goal.hand_next-requires
unfolding held
hand_next-requires c = (none_waits c.args.d.now.waiting cc, omega arith, c.requires.room)

pub returns-then-d-count : goal.returns-then-d-count
returns-then-d-count c = c.hand_next.ensures c.args.chain.now c.args.max_retry c.requires

pub returns-in-Some : goal.returns-in-Some
unfolding held
returns-in-Some c =
    let ch = c.args.chain.now in
    let b = c.args.w.now in
    let d = c.args.d.now in
    let e = c.in-Some.event in
    makes-as (stepped-makes c.args.max_retry e c.requires ch.few c.step_in.ensures.0 c.step_in.ensures.1 c.taken.ensures)
    (sym (turn_by_lem (entries ch) c.args.max_retry (together ch b d) None [] (e ∷ rest (events d.pending)) (none_waits d.waiting cc) (left-none b d (omega arith)) (first_one (events d.pending) e (sym c.front.ensures ∙ c.in-Some.is))))

pub returns : goal.returns
unfolding held
returns c =
    let ch = c.args.chain.now in
    let b = c.args.w.now in
    let d = c.args.d.now in
    makes-as (moves-makes (λ es. failed_is false) c.requires (omega arith) (c.rested.ensures (length (held b.sink))))
    (sym (turn_by_lem (entries ch) c.args.max_retry (together ch b d) None [] [] (none_waits d.waiting cc) (left-none b d (omega arith)) (first-none (events d.pending) (sym c.front.ensures ∙ c.in_default.is))))
