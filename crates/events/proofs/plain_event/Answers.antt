-- `plain_event` meets its contract: bytes that are no text are no name.
use Rattle.std.proofs.Common.{refl, ◌∙◌}
use Rattle.fields.proofs.Tables.{no-text}
use Rattle.events.specs.Read.{plain_event, failure_event}
use Rattle.events.proofs.plain_event.Goals as goal

pub returns-in_err-as_text : goal.returns-in_err-as_text
unfolding plain_event failure_event
returns-in_err-as_text c =
    let f = c.args.f.now in
    let no = c.in_err-as_text.ensures in
    c.from_residual.ensures ∙ no-text f _ _ refl no ∙ no-text f _ (failure_event f) refl no
