-- `hold` meets its contract where nobody is held, and where one is: a list of none, and of one.
use Rattle.holds.specs.Holds.{gates, gates_say}
use Rattle.components.specs.Tables.{entries, size}
use Rattle.machine.specs.View.{core_of}
use Rattle.machine.proofs.Runs.{ran-as, ran-none}
use Rattle.rot.proofs.Parts.{gating-one}
use Rattle.rot.proofs.hold.Goals as goal

pub returns-in-Nobody : goal.returns-in-Nobody
unfolding gates gates_say
returns-in-Nobody c = rw c.in-Nobody.is ran-none

pub returns-in-Itself : goal.returns-in-Itself
returns-in-Itself c =
    rw c.in-Itself.is
    (ran-as (gating-one (entries c.args.chain.now) c.args.place (core_of (size c.args.chain.now) c.args.w.now)) c.gate_at.ensures)
