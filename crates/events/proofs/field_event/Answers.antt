-- `field_event` meets its contract: bytes that are no text are no name, of an event with a number either.
use Rattle.std.proofs.Common.{◌≡◌, refl, ◌∙◌, None}
use Rattle.model.specs.Vocabulary.{id_of}
use Rattle.fields.specs.Fields.{number_of}
use Rattle.events.proofs.Cases.{with-number}
use Rattle.fields.proofs.Tables.{no-text}
use Rattle.events.specs.Read.{field_event, id_fields, id_event, fault_event}
use Rattle.events.proofs.field_event.Goals as goal

pub returns-in_err-name : goal.returns-in_err-name
unfolding field_event id_fields id_event fault_event
returns-in_err-name c =
    let f = c.args.name.now in
    let no = c.in_err-name.ensures in
    let i : None ≡ id_fields f c.args.l.now = with-number (λ w. None ≡ w) (number_of 255 c.args.l.now) _ None (λ m q. no-text f _ _ refl no ∙ no-text f _ (fault_event f (id_of m)) refl no) refl in
    c.from_residual.ensures ∙ i ∙ no-text f _ (id_fields f c.args.l.now) refl no
