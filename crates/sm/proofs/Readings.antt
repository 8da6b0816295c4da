-- A reading of section 4 that goes wrong: that ReportRecoveryFailed means lockdown. Events queued ahead can reach
-- PreSupervision, where RecoveryFailed is dropped.
use Rattle.std.specs.Prelude.{None, Some}
use mathlib.Core.Path.{◌≡◌, refl}
use mathlib.Core.Bool.{false}
use mathlib.Core.List.{List, [], ◌∷◌}
use Rattle.model.specs.Vocabulary.{id_of, plain_attrs}
use Rattle.components.specs.Chain.{position}
use Rattle.model.specs.declared.Component.{Component}
use Rattle.model.specs.declared.ComponentKind.TheVariants.{Active}
use Rattle.model.specs.declared.FailurePolicy.TheVariants.{Required}
use Rattle.model.specs.declared.State.TheVariants.{Recovering, PreSupervision}
use Rattle.model.specs.declared.Event.TheVariants.{RecoveryUnavailable, Restored, RecoveryFailed}
use Rattle.model.specs.declared.Effect.TheVariants.{ReportRecoveryFailed, ReadFirmware, VerifyFirmware}
use Rattle.machine.specs.Status.{fresh}
use Rattle.holds.specs.Advance.{quiet_says, isolated_ahead}
use Rattle.rot.specs.Step.{step_of}
use Rattle.settling.specs.declared.Reply.TheVariants.{Done, Then}
use Rattle.settling.specs.Settle.{Model, turns, settle}
use Rattle.sm.specs.Calls.{Expected, begin_of, reply_of}

-- One Required component, 7, in its first recovery; max_retry is 2.
abbrev seven : List Component
seven = record { id = id_of 7; attrs = plain_attrs Active Required } ∷ []

abbrev in_recovery : Model
in_recovery = record { core = record { state = Recovering (id_of 7); cursor = 0; statuses = fresh ∷ []; window = false }; waiting = None; left = []; queue = []; failed = false }

-- No recovery is available; while that is reported the component is restored after all.
abbrev reporting : Expected
reporting = begin_of seven 2 in_recovery (RecoveryUnavailable (id_of 7))

abbrev walking : Expected
walking = reply_of seven 2 reporting.machine (Then (Restored (id_of 7)))

abbrev verifying : Expected
verifying = reply_of seven 2 walking.machine Done

abbrev ending : Expected
ending = reply_of seven 2 verifying.machine Done

pub report-is-not-lockdown : (reporting.effect ≡ Some (ReportRecoveryFailed (id_of 7))) × (walking.effect ≡ Some (ReadFirmware (id_of 7))) × (verifying.effect ≡ Some (VerifyFirmware (id_of 7)))
    × (ending.effect ≡ None) × (ending.settled ≡ RecoveryFailed ∷ []) × (ending.machine.core.state ≡ PreSupervision)
unfolding position quiet_says isolated_ahead step_of turns settle begin_of reply_of
report-is-not-lockdown = (refl, refl, refl, refl, refl, refl)
