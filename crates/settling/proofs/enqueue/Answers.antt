-- `enqueue` meets its contract: the event fits, or it is lost after a failure, or it is the first failure.
use Prim.Native.Nat.{◌≤◌}
use native.Mathlib.Omega.{arith}
use mathlib.Core.Path.{sym}
use lib.ListN.{length}
use Rattle.pending.specs.Queue.{events}
use Rattle.settling.specs.View.{within}
use Rattle.settling.proofs.Views.{moves-as, enqueue-first}
use Rattle.settling.proofs.enqueue.Goals as goal

pub returns : goal.returns
returns c =
    let d = c.args.d.now in
    let full : 8 ≤ length (events d.pending) = omega arith in
    moves-as c.latch.ensures (λ k es. sym (enqueue-first c.args.event (within k es d) full c.if-d.false))
