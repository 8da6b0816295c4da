-- `settle` meets its contract: its parts are settled, and make the machine.
use mathlib.Core.Path.{refl}
use Rattle.settling.specs.View.{view}
use Rattle.settling.proofs.Views.{makes-becomes}
use Rattle.settling.proofs.settle.Goals as goal

pub returns : goal.returns
unfolding view
returns c = makes-becomes _ refl refl c.settle_in.ensures
