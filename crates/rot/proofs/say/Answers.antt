-- `say` meets its contract: the report, if there is one, and then the rule's own effects.
use Rattle.std.proofs.Common.{◌≡◌, Bool, true, false, sym, ap, ◌∙◌}
use Rattle.model.specs.declared.Effect.TheVariants.{ReportBootFailed}
use Rattle.store.specs.declared.Sink.{Sink}
use Rattle.store.specs.Sink.{with_effect}
use Rattle.table.specs.Payload.{boot_of}
use Rattle.machine.specs.View.{says}
use Rattle.machine.proofs.Says.{says-append}
use Rattle.rules.specs.Performed.{said, reported}
use Rattle.rot.proofs.say.Goals as goal
use Rattle.rot.proofs.say.Goals.{then-d, else-d}

pub returns : goal.returns
unfolding says
returns c =
    let a = c.args in
    let first : c.if-d.sink ≡ says a.sink.now (reported a.d.reports a.id (boot_of a.event)) =
    elim c.if-d.branch [
      | then-d w ↦ w.sink-is ∙ w.emit.ensures
          ∙ (λ j. with_effect a.sink.now (ReportBootFailed a.id (w.boot_failure-checkpoint.ensures j).checkpoint (w.boot_failure-checkpoint.ensures j).kind))
          ∙ sym (ap (λ (t : Bool). says a.sink.now (reported t a.id (boot_of a.event))) w.if-d.true)
      | else-d w ↦ w.sink-is ∙ sym (ap (λ (t : Bool). says a.sink.now (reported t a.id (boot_of a.event))) w.if-d.false)
    ] in
    let own = said a.d.says a.id a.d.kept.status.retry in
    c.speak.ensures ∙ ap (λ (s : Sink). says s own) first ∙ sym (says-append a.sink.now (reported a.d.reports a.id (boot_of a.event)) own)
