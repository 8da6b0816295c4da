-- At first no component is known, and each turn one more: its id has its place.
use Rattle.std.proofs.Common.{arith, length-set, ℕ, ◌≡◌, length, ap, sym, ◌∙◌}
use Rattle.std.proofs.lemmas.List.{length-replicate}
use Rattle.std.proofs.Math.Seq.{take-length}
use Rattle.model.specs.declared.Component.{Component}
use Rattle.components.specs.Chain.{entries_of}
use Rattle.components.proofs.Room.{first-kept}
use Rattle.components.proofs.Fill.{none-known, one_more, shorter}
use Rattle.components.proofs.positions_of.Goals as goal

pub loop-p-init : goal.loop-p-init
loop-p-init c =
    let ch = entries_of c.args.list.now in
    let same = c.into_iter-p-iterator.ensures.into_iter_gives in
    let whole : c.into_iter-p-iterator.result.iter.iter.rest.now ≡ ch =
    rw (same, c.rev-p-items.ensures.source, c.enumerate.ensures.source, c.iter.ensures.rest, c.count-n.ensures.0) (first-kept c.args.list.now) in
    rw whole (
      rw (same, c.rev-p-items.ensures.source) c.enumerate.ensures.count,
      sym (take-length ch),
      length-replicate {A = ℕ} 256 c.count-n.result,
      none-known ch 256 (length ch) c.count-n.result (omega arith) c.count-n.ensures.0,
    )

pub loop-p-preserved : goal.loop-p-preserved
loop-p-preserved c =
    let ch = entries_of c.args.list.now in
    let before = c.loop-p.invariant in
    let turn = c.in-Some.ensures.steps in
    let left = c.next.new.self.iter.iter.rest.now in
    let one = shorter ch c.loop-p.p-iterator.iter.iter.rest.now left c.in-Some.entry.now turn.1.0 before.1 in (
      turn.0 ∙ before.0,
      one.first,
      simp length-set before.2,
      one_more ch 256 (length left) (length c.loop-p.p-iterator.iter.iter.rest.now) c.index.result c.in-Some.p c.loop-p.positions one.inside one.step
          (c.index.ensures.0 ∙ ap (λ (e : Component). e.id.0) (sym one.last)) (omega (arith, turn.1.1, before.0))
          before.2 c.index.ensures.1 before.3,
    )

pub returns : goal.returns
returns c =
    let all = rw c.in-None.ensures.steps.1.0 at c.loop-p.invariant.3 in
    λ i h. omega (arith, all i h)
