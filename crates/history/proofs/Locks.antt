-- Locked is left by nothing, and EffectFailed leads to it from everywhere.
use Rattle.std.specs.Prelude.{Option}
use Rattle.model.specs.declared.ComponentId.{ComponentId}
use mathlib.Core.Path.{◌≡◌, refl, sym, subst, ap}
use mathlib.Core.List.{List, []}
use Prim.Native.Nat.{ℕ}
use native.Mathlib.Omega.{arith}
use Rattle.model.specs.Vocabulary.{pick, named}
use Rattle.components.specs.Chain.{Sound}
use Rattle.model.specs.declared.Component.{Component}
use Rattle.model.specs.declared.State.{State}
use Rattle.model.specs.declared.State.TheVariants.{Locked}
use Rattle.model.specs.declared.Event.{Event}
use Rattle.model.specs.declared.Event.TheVariants.{PowerGood, VerificationPassed, VerificationFailed, ComponentReady, Booted, AttestationChallenge, UpdateRequest, UpdateVerified, UpdateRejected, BootConfirmed, CorruptionDetected, Restored, RecoveryUnavailable, RecoveryFailed, BootFailed, Timeout, CommitTimeout, EffectFailed}
use Rattle.model.proofs.Pick.{pick_p}
use Rattle.machine.specs.View.{Core, Out, stay}
use Rattle.rules.specs.Entry.{enter_locked}
use Rattle.rot.specs.Step.{rule, in_chain, step_of}
use Rattle.history.proofs.Parts.{walking, Inv, Ok, tame-refl, rest_ok, locked-ok}
use Rattle.history.proofs.Rules.{told_state}

abbrev core_in : State → Core → Core
core_in s c = record { state = s; cursor = c.cursor; statuses = c.statuses; window = c.window }

locked-rule : (ch : List Component) (max : ℕ) (c : Core) (e : Event) → rule ch max (core_in Locked c) e ≡ stay (core_in Locked c)
locked-rule ch max c (PowerGood r) = refl
locked-rule ch max c (VerificationPassed i) = refl
locked-rule ch max c (VerificationFailed i) = refl
locked-rule ch max c (ComponentReady i) = refl
locked-rule ch max c (Booted i) = refl
locked-rule ch max c AttestationChallenge = refl
locked-rule ch max c UpdateRequest = refl
locked-rule ch max c UpdateVerified = refl
locked-rule ch max c UpdateRejected = refl
locked-rule ch max c (BootConfirmed i) = refl
locked-rule ch max c (CorruptionDetected i) = refl
locked-rule ch max c (Restored i) = refl
locked-rule ch max c (RecoveryUnavailable i) = refl
locked-rule ch max c RecoveryFailed = refl
locked-rule ch max c (BootFailed i n k) = refl
locked-rule ch max c (Timeout i) = refl
locked-rule ch max c CommitTimeout = refl
locked-rule ch max c EffectFailed = refl

pub locked-step : (ch : List Component) (max : ℕ) (c : Core) (e : Event) → c.state ≡ Locked → (step_of ch max c e).core.state ≡ Locked
unfolding step_of
locked-step ch max c e q =
    subst (λ (s : State). (pick (in_chain ch (named e)) (rule ch max (core_in s c) e) (stay (core_in s c))).core.state ≡ Locked) (sym q)
    (pick_p (λ (o : Out). o.core.state ≡ Locked) (in_chain ch (named e)) (λ t. ap (λ (o : Out). o.core.state) (locked-rule ch max c e)) (λ t. refl))

pub failed-step : (ch : List Component) (max : ℕ) (c : Core) → (step_of ch max c EffectFailed).core.state ≡ Locked
unfolding step_of
failed-step ch max c = told_state (λ (o : Out). o.core.state ≡ Locked) c.state (λ q. refl) (λ q. refl) (λ o q. refl) (λ q. refl) (λ q. refl) (λ i q. refl) (λ q. q)

-- EffectFailed needs nothing of the component under check.
pub failed-ok : (n : ℕ) (ch : List Component) → Sound n ch → (max : ℕ) (c : Core) (old : Option ComponentId) → Inv ch c → Ok ch c.statuses EffectFailed old 4 (step_of ch max c EffectFailed)
unfolding step_of
failed-ok n ch s max c old v =
    told_state (Ok ch c.statuses EffectFailed old 4) c.state (λ q. l) (λ q. l) (λ o q. l) (λ q. l) (λ q. l) (λ i q. l)
    (λ q. rest_ok n ch s EffectFailed old c.statuses c [] 4 v.base (tame-refl c.statuses) (ap walking q) tt (omega arith))
  where
    l : Ok ch c.statuses EffectFailed old 4 (enter_locked c)
    l = locked-ok n ch s EffectFailed old c v.base
