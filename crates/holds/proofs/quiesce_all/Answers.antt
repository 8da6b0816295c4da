-- `quiesce_all` meets its contract: the turns one after another.
use Rattle.std.proofs.Common.{length, ◌+◌, ◌∙◌, ap, arith}
use Rattle.components.specs.Chain.{entries_of}
use Rattle.machine.specs.View.{core_of}
use Rattle.holds.specs.Acts.{quieting, quieting_all}
use Rattle.machine.specs.Acts.{Does}
use Rattle.machine.proofs.Laws.{length-statuses, seen-at}
use Rattle.machine.specs.declared.ComponentStatus.{ComponentStatus}
use Rattle.machine.proofs.Runs.{ran-none, ran-is, ran-as, leads-first, leads-next, leads-last}
use Rattle.holds.proofs.Steps.{quiet-on, quiet-off, quiet_left, quiet_next, quiet-last}
use Rattle.holds.proofs.quiesce_all.Goals.{then-w-p, else-w-p}
use Rattle.holds.proofs.quiesce_all.Goals as goal

pub loop-p-init : goal.loop-p-init
loop-p-init g c = leads-first (quiet_left (entries_of (g.L.HasList.list_of c.args.chain.now)) 0)

pub quiet_one-requires : goal.quiet_one-requires
quiet_one-requires g c = (omega arith, rw c.size-p-end.ensures.0 at c.size-p-end.ensures.1, c.loop-p.invariant.sized c.requires)

pub loop-p-preserved : goal.loop-p-preserved
loop-p-preserved g c =
    let ch = entries_of (g.L.HasList.list_of c.args.chain.now) in
    let i = c.loop-p.p in
    let w = c.loop-p.w in
    let n = length ch in
    let now = core_of n w in
    let as_many = length-statuses n w.rot (rw c.size-p-end.ensures.0 at c.size-p-end.ensures.1) (c.loop-p.invariant.sized c.requires) in
    let seen = ap (λ (x : ComponentStatus). x.released) (seen-at n w.rot i as_many (omega arith)) in
    let turn : Does n w (quieting ch i) c.if-w-p.w =
    elim c.if-w-p.branch [
      | then-w-p w ↦ ran-is w.w-is (ran-as (quiet-on ch i now (seen ∙ w.if-w-p.true)) w.quiet_one.ensures)
      | else-w-p w ↦ ran-is w.w-is (ran-as (quiet-off ch i now (seen ∙ w.if-w-p.false)) ran-none)
    ] in leads-next {o = quieting_all ch (core_of n c.args.w.now)} (quieting ch i) (quiet_left ch (i + 1)) turn (quiet_next ch i now (omega arith) (omega arith)) c.loop-p.invariant

pub returns : goal.returns
returns g c =
    let ch = entries_of (g.L.HasList.list_of c.args.chain.now) in
    let w = c.loop-p.w in
    let as_many = length-statuses (length ch) w.rot (rw c.size-p-end.ensures.0 at c.size-p-end.ensures.1) (c.loop-p.invariant.sized c.requires) in
    leads-last {o = quieting_all ch (core_of (length ch) c.args.w.now)} c.loop-p.invariant (quiet-last ch c.loop-p.p (core_of (length ch) w) (omega arith) (omega arith))
