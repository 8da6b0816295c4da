-- At each turn, the gates that are left lead to what all of them make.
use Rattle.std.proofs.Common.{drop}
use Rattle.components.specs.Tables.{entries, size}
use Rattle.machine.specs.View.{core_of}
use Rattle.machine.proofs.Runs.{Leads}
use Rattle.holds.specs.Acts.{gating_all}
use Rattle.holds.specs.Cascade.{cascade}
use Rattle.holds.proofs.gate_cascade.Given as goal

abbrev pub invariant-loop-q : goal.invariant-loop-q
invariant-loop-q l =
    let ch = entries l.chain in
    let ps = cascade ch l.p in
    Leads (size l.chain) l.fn.w (gating_all ch ps (core_of (size l.chain) l.fn.w)) l.w (gating_all ch (drop l.q-index ps))
