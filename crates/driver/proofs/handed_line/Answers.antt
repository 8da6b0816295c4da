-- `handed_line` meets its contract: the X line of the effect, or no line.
use mathlib.Core.Path.{sym, ◌∙◌}
use Rattle.driver.specs.Run.{Effected, transcript}
use Rattle.driver.proofs.Moves.{transcript-one}
use Rattle.driver.proofs.handed_line.Goals as goal

pub returns-in-None : goal.returns-in-None
unfolding transcript
returns-in-None c = rw c.in-None.is c.clear.ensures

pub returns-in-Some : goal.returns-in-Some
returns-in-Some c = rw c.in-Some.is (c.effect_line.ensures ∙ sym (transcript-one (Effected c.in-Some.effect)))
