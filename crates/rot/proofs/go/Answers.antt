-- `go` meets its contract where nothing comes last.
use Rattle.machine.proofs.Runs.{ran-none}
use Rattle.rot.proofs.go.Goals as goal

pub returns-in-Stay : goal.returns-in-Stay
returns-in-Stay c = rw c.in-Stay.is ran-none
