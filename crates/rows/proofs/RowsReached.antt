-- The machines of the last four rows are such as histories give: each is computed from power-on.
use mathlib.Core.Path.{◌≡◌, refl}
use mathlib.Core.List.{List, [], ◌∷◌}
use Prim.Native.Nat.{ℕ}
use Rattle.model.specs.Vocabulary.{id_of}
use Rattle.model.specs.declared.PowerOnResult.TheVariants.{Provisioned}
use Rattle.model.specs.declared.Event.TheVariants.{PowerGood, VerificationPassed, VerificationFailed, Restored}
use Rattle.components.specs.Chain.{position}
use Rattle.holds.specs.Advance.{isolated_ahead, quiet_says}
use Rattle.rot.specs.Step.{step_of}
use Rattle.settling.specs.declared.Reply.TheVariants.{Done}
use Rattle.settling.specs.Settle.{turns, settle}
use Rattle.sm.specs.Calls.{begin_of, reply_of, start_of}
use Rattle.history.specs.History.{Call, Begin, ReplyTo, machine_after}
use Rattle.rows.specs.Rows.{Question, VerdictOn, RunOf, BeginOn, resting, restoring, exhausting}

-- The machine of a question is what these calls, the newest first, make of a new one.
abbrev pub Reached : List Call → Question → Type 0
Reached ks (VerdictOn cs) = ⊥
Reached ks (RunOf ls) = ⊥
Reached ks (BeginOn ch max c e) = machine_after ch max ks ≡ resting c

abbrev done : Call
done = ReplyTo Done

-- Power-on, and 7 fails.
pub restoring-reached : (max : ℕ) → Reached (done ∷ Begin (VerificationFailed (id_of 7)) ∷ done ∷ done ∷ Begin (PowerGood Provisioned) ∷ []) (restoring max)
unfolding position isolated_ahead quiet_says step_of turns settle begin_of reply_of start_of machine_after
restoring-reached max = refl

-- 1 is released and 2 fails.
abbrev fails : List Call → List Call
fails ks = done ∷ Begin (VerificationFailed (id_of 2)) ∷ done ∷ done ∷ done ∷ Begin (VerificationPassed (id_of 1)) ∷ ks

-- Power-on, 2 fails, is restored, and fails again.
pub exhausting-reached : Reached (fails (done ∷ done ∷ done ∷ Begin (Restored (id_of 2)) ∷ fails (done ∷ done ∷ Begin (PowerGood Provisioned) ∷ []))) exhausting
unfolding position isolated_ahead quiet_says step_of turns settle begin_of reply_of start_of machine_after
exhausting-reached = refl
