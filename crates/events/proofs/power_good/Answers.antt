-- `power_good` meets its contract: bytes that are no text are no name.
use Rattle.std.proofs.Common.{refl, ◌∙◌}
use Rattle.fields.proofs.Tables.{no-text}
use Rattle.events.specs.Read.{power_good}
use Rattle.events.proofs.power_good.Goals as goal

pub returns-in_err-as_text : goal.returns-in_err-as_text
unfolding power_good
returns-in_err-as_text c = c.from_residual.ensures ∙ no-text c.args.f.now _ _ refl c.in_err-as_text.ensures
