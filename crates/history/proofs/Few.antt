-- A step hands out at most 2 N + 1 effects. `rot` has it for a chain with a component. The definitions do not ask that a
-- list holds as many entries as it says, so the chain may have none; then no event that names a component does anything,
-- and few states are reached.
use Rattle.std.specs.Prelude.{Some}
use mathlib.Core.Path.{◌≡◌, refl, subst}
use mathlib.Core.List.{List, [], ◌∷◌}
use mathlib.Core.Bool.{Bool, true, false}
use Prim.Native.Nat.{ℕ, ◌+◌, ◌*◌, ◌≤◌}
use native.Mathlib.Omega.{arith}
use lib.Dec.{ltb}
use lib.ListN.{length}
use borrow.Author.Tests.{ltb-true}
use Rattle.model.specs.Vocabulary.{named}
use Rattle.components.specs.Chain.{position}
use Rattle.model.specs.declared.ComponentId.{ComponentId}
use Rattle.model.specs.declared.Component.{Component}
use Rattle.model.specs.declared.PowerOnResult.{PowerOnResult}
use Rattle.model.specs.declared.PowerOnResult.TheVariants.{Provisioned, Unprovisioned, SelfVerificationFailed}
use Rattle.model.specs.declared.State.{State}
use Rattle.model.specs.declared.State.TheVariants.{PowerOnReset, PreSupervision, AwaitingReady, Ready, Updating, Recovering, Locked}
use Rattle.model.specs.declared.Event.{Event}
use Rattle.model.specs.declared.Event.TheVariants.{PowerGood, VerificationPassed, VerificationFailed, ComponentReady, Booted, AttestationChallenge, UpdateRequest, UpdateVerified, UpdateRejected, BootConfirmed, CorruptionDetected, Restored, RecoveryUnavailable, RecoveryFailed, BootFailed, Timeout, CommitTimeout, EffectFailed}
use Rattle.model.specs.declared.Effect.{Effect}
use Rattle.model.proofs.Pick.{pick_p}
use Rattle.holds.specs.Advance.{seek, quiet_says}
use Rattle.machine.specs.View.{Core, Out, stay}
use Rattle.rules.specs.Entry.{enter_locked, enter_walk}
use Rattle.rules.specs.Updates.{power}
use Rattle.rot.specs.Step.{rule, in_chain, step_of}
use Rattle.rot.proofs.Bound.{step-bound}
use Rattle.history.proofs.Statuses.{both}
use Rattle.history.proofs.Rules.{told_state}

-- The states that a chain without components reaches.
abbrev idle : State → Bool
idle PowerOnReset = true
idle PreSupervision = true
idle (AwaitingReady o) = false
idle Ready = false
idle Updating = false
idle (Recovering i) = false
idle Locked = true

abbrev Idle : Out → Type 0
Idle o = (idle o.core.state ≡ true) × (length o.said ≤ 1)

nowhere {ℓ} : {A : Type ℓ} (i : ComponentId) → in_chain [] (Some i) ≡ true → A
unfolding position
nowhere i t = absurd (omega (arith, ltb-true 0 0 t))

module _ (c : Core) (h : idle c.state ≡ true) where
  stays : Idle (stay c)
  stays = (h, omega arith)

  locks : Idle (enter_locked c)
  locks = (refl, omega arith)

  walks : Idle (enter_walk [] c)
  unfolding quiet_says
  walks = (refl, pick_p (λ (es : List Effect). length es ≤ 1) (ltb (seek _ 0) 0) (λ t. absurd (omega (arith, ltb-true (seek _ 0) 0 t))) (λ t. omega arith))

  powers : (r : PowerOnResult) → Idle (power [] r c)
  powers Provisioned = walks
  powers Unprovisioned = locks
  powers SelfVerificationFailed = locks

  never {ℓ} : {A : Type ℓ} → (s : State) → c.state ≡ s → idle s ≡ false → A
  never s q f = both (idle s) (subst (λ (r : State). idle r ≡ true) q h) f

  idle-rule : (max : ℕ) (e : Event) → in_chain [] (named e) ≡ true → Idle (rule [] max c e)
  idle-rule max (PowerGood r) t = told_state Idle c.state (λ q. powers r) (λ q. stays) (λ o q. stays) (λ q. stays) (λ q. stays) (λ i q. stays) (λ q. stays)
  idle-rule max (VerificationPassed i) t = nowhere i t
  idle-rule max (VerificationFailed i) t = nowhere i t
  idle-rule max (ComponentReady i) t = nowhere i t
  idle-rule max (Booted i) t = nowhere i t
  idle-rule max AttestationChallenge t =
      told_state Idle c.state (λ q. stays) (λ q. stays) (λ o q. never (AwaitingReady o) q refl) (λ q. never Ready q refl) (λ q. never Updating q refl) (λ i q. never (Recovering i) q refl) (λ q. stays)
  idle-rule max UpdateRequest t =
      told_state Idle c.state (λ q. stays) (λ q. stays) (λ o q. never (AwaitingReady o) q refl) (λ q. never Ready q refl) (λ q. never Updating q refl) (λ i q. never (Recovering i) q refl) (λ q. stays)
  idle-rule max UpdateVerified t = told_state Idle c.state (λ q. stays) (λ q. stays) (λ o q. stays) (λ q. stays) (λ q. never Updating q refl) (λ i q. stays) (λ q. stays)
  idle-rule max UpdateRejected t = told_state Idle c.state (λ q. stays) (λ q. stays) (λ o q. stays) (λ q. stays) (λ q. never Updating q refl) (λ i q. stays) (λ q. stays)
  idle-rule max (BootConfirmed i) t = nowhere i t
  idle-rule max (CorruptionDetected i) t = nowhere i t
  idle-rule max (Restored i) t = nowhere i t
  idle-rule max (RecoveryUnavailable i) t = nowhere i t
  idle-rule max RecoveryFailed t = told_state Idle c.state (λ q. stays) (λ q. stays) (λ o q. stays) (λ q. stays) (λ q. stays) (λ i q. locks) (λ q. stays)
  idle-rule max (BootFailed i n k) t = nowhere i t
  idle-rule max (Timeout i) t = nowhere i t
  idle-rule max CommitTimeout t =
      told_state Idle c.state (λ q. stays) (λ q. stays) (λ o q. stays) (λ q. pick_p Idle c.window (λ w. locks) (λ w. stays)) (λ q. stays) (λ i q. stays) (λ q. stays)
  idle-rule max EffectFailed t = told_state Idle c.state (λ q. locks) (λ q. locks) (λ o q. locks) (λ q. locks) (λ q. locks) (λ i q. locks) (λ q. stays)

  idle-step : (max : ℕ) (e : Event) → Idle (step_of [] max c e)
  unfolding step_of
  idle-step max e = pick_p Idle (in_chain [] (named e)) (λ t. idle-rule max e t) (λ t. stays)

-- A state that the chain reaches: any, if it has a component.
abbrev pub Reached : List Component → State → Type 0
Reached [] s = idle s ≡ true
Reached (x ∷ ch) s = Unit {0}

pub step-reached : (ch : List Component) (max : ℕ) (c : Core) (e : Event) → Reached ch c.state → Reached ch (step_of ch max c e).core.state
step-reached [] max c e h = (idle-step c h max e).0
step-reached (x ∷ ch) max c e h = tt

pub step-few : (ch : List Component) (max : ℕ) (c : Core) (e : Event) → Reached ch c.state → length c.statuses ≡ length ch → length (step_of ch max c e).said ≤ 2 * length ch + 1
step-few [] max c e h z = omega (arith, (idle-step c h max e).1)
step-few (x ∷ ch) max c e h z = step-bound (x ∷ ch) max c e (omega arith) z

pub start-reached : (ch : List Component) → Reached ch PowerOnReset
start-reached [] = refl
start-reached (x ∷ ch) = tt
