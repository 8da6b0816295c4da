-- `gate_cascade` meets its contract: a turn is one gate, at a position of the chain, and after the last turn none is left.
use Rattle.std.proofs.Common.{◌+◌, ◌∙◌, get_or, drop}
use Rattle.components.specs.Tables.{entries, size}
use Rattle.machine.specs.View.{core_of}
use Rattle.machine.proofs.Runs.{leads-next, leads-last}
use Rattle.holds.specs.Acts.{gating, gating_all}
use Rattle.holds.specs.Cascade.{cascade}
use Rattle.holds.proofs.Steps.{gate-next, gate-end}
use Rattle.holds.proofs.Closed.{cascade-within}
use Rattle.holds.proofs.Places.{at_place}
use Rattle.holds.proofs.gate_cascade.Goals as goal

pub gate_at-requires : goal.gate_at-requires
gate_at-requires c =
    let m = c.args.chain.now in
    let e = c.as_slice-q-items.ensures ∙ c.cascade_order-order.ensures.list in
    rw e (cascade-within (entries m) c.args.p c.requires.1 _ (at_place (cascade (entries m) c.args.p) c.loop-q.q-index (rw e at c.loop-q-test.true)))

pub loop-q-preserved : goal.loop-q-preserved
loop-q-preserved c =
    let m = c.args.chain.now in
    let ch = entries m in
    let ps = cascade ch c.args.p in
    let i = c.loop-q.q-index in
    let e = c.as_slice-q-items.ensures ∙ c.cascade_order-order.ensures.list in
    leads-next (gating ch (get_or ps i 0)) (gating_all ch (drop (i + 1) ps)) (rw e at c.gate_at.ensures)
    (gate-next ch (core_of (size m) c.loop-q.w) ps i (rw e at c.loop-q-test.true)) c.loop-q.invariant

pub returns : goal.returns
returns c =
    let m = c.args.chain.now in
    let e = c.as_slice-q-items.ensures ∙ c.cascade_order-order.ensures.list in
    leads-last c.loop-q.invariant
    (gate-end (entries m) (core_of (size m) c.loop-q.w) (cascade (entries m) c.args.p) c.loop-q.q-index (rw e at c.loop-q-test.false))
