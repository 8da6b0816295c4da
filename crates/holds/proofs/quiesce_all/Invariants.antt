-- `quiesce_all`: at each turn, what is left to quiesce leads to what all of it makes.
use lib.ListN.{length}
use Rattle.components.specs.Chain.{entries_of}
use Rattle.machine.specs.View.{core_of}
use Rattle.holds.specs.Acts.{quieting_all}
use Rattle.machine.proofs.Runs.{Leads}
use Rattle.holds.proofs.Steps.{quiet_left}
use Rattle.holds.proofs.quiesce_all.Given as goal

abbrev pub invariant-loop-p : goal.invariant-loop-p
invariant-loop-p g l =
    let ch = entries_of (g.L.HasList.list_of l.chain) in
    Leads (length ch) l.fn.w (quieting_all ch (core_of (length ch) l.fn.w)) l.w (quiet_left ch l.p)
