-- `boot_failed` meets its contract: bytes that are no text are no name.
use Rattle.std.proofs.Common.{refl, ◌∙◌}
use Rattle.fields.proofs.Tables.{no-text}
use Rattle.events.specs.Read.{boot_failed}
use Rattle.events.proofs.boot_failed.Goals as goal

pub returns-in_err-as_text : goal.returns-in_err-as_text
unfolding boot_failed
returns-in_err-as_text c = c.from_residual.ensures ∙ no-text c.args.f.now _ _ refl c.in_err-as_text.ensures
