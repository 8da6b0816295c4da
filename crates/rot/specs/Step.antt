-- Section 3: the next state and the effects, by event (18 rows) and state (7 columns).
use Rattle.std.specs.Prelude.{Bool, true, List, [], ℕ, ltb, length, Option, None, Some}
use Rattle.model.specs.Vocabulary.{pick, named}
use Rattle.components.specs.Chain.{position}
use Rattle.model.specs.declared.ComponentId.{ComponentId}
use Rattle.model.specs.declared.Component.{Component}
use Rattle.model.specs.declared.State.{State}
use Rattle.model.specs.declared.State.TheVariants.{PowerOnReset, PreSupervision, AwaitingReady, Ready, Updating, Recovering, Locked}
use Rattle.model.specs.declared.Event.{Event}
use Rattle.model.specs.declared.Event.TheVariants.{PowerGood, VerificationPassed, VerificationFailed, ComponentReady, Booted, AttestationChallenge, UpdateRequest, UpdateVerified, UpdateRejected, BootConfirmed, CorruptionDetected, Restored, RecoveryUnavailable, RecoveryFailed, BootFailed, Timeout, CommitTimeout, EffectFailed}
use Rattle.machine.specs.View.{Core, Out, stay}
use Rattle.rules.specs.Entry.{enter_locked, enter_updating}
use Rattle.rules.specs.Updates.{power, confirm, commit_timeout, attest, defer, update_verified, update_rejected}
use Rattle.rules.specs.Walks.{pass, verify_failed, progress, component_ready}
use Rattle.rules.specs.Corruption.{corrupt, move_on, abortion}
use Rattle.rules.specs.Failures.{timeout, boot_failed}
use Rattle.rules.specs.Recovery.{restored, unavailable}

-- One of seven answers, by the state.
abbrev pub by_state {ℓ} : {A : Type ℓ} → State → A → A → (Option ComponentId → A) → A → A → (ComponentId → A) → A → A
by_state PowerOnReset a b c d e f g = a
by_state PreSupervision a b c d e f g = b
by_state (AwaitingReady o) a b c d e f g = c o
by_state Ready a b c d e f g = d
by_state Updating a b c d e f g = e
by_state (Recovering i) a b c d e f g = f i
by_state Locked a b c d e f g = g

-- The 126 pairs. In each row: PowerOnReset, PreSupervision, AwaitingReady, Ready, Updating, Recovering, Locked.
abbrev pub rule : List Component → ℕ → Core → Event → Out
rule ch max c (PowerGood r) = by_state c.state (power ch r c) (stay c) (λ o. stay c) (stay c) (stay c) (λ f. stay c) (stay c)
rule ch max c (VerificationPassed i) = by_state c.state (stay c) (pass ch i c) (λ o. pass ch i c) (stay c) (stay c) (λ f. stay c) (stay c)
rule ch max c (VerificationFailed i) = by_state c.state (stay c) (verify_failed ch i c) (λ o. verify_failed ch i c) (stay c) (stay c) (λ f. stay c) (stay c)
rule ch max c (ComponentReady i) = by_state c.state (stay c) (stay c) (λ o. component_ready ch i o c) (progress ch i c) (progress ch i c) (λ f. progress ch i c) (stay c)
rule ch max c (Booted i) = by_state c.state (stay c) (progress ch i c) (λ o. progress ch i c) (progress ch i c) (progress ch i c) (λ f. progress ch i c) (stay c)
rule ch max c AttestationChallenge = by_state c.state (stay c) (stay c) (λ o. attest c) (attest c) (attest c) (λ f. attest c) (stay c)
rule ch max c UpdateRequest = by_state c.state (stay c) (stay c) (λ o. defer c) (enter_updating c) (defer c) (λ f. defer c) (stay c)
rule ch max c UpdateVerified = by_state c.state (stay c) (stay c) (λ o. stay c) (stay c) (update_verified c) (λ f. stay c) (stay c)
rule ch max c UpdateRejected = by_state c.state (stay c) (stay c) (λ o. stay c) (stay c) (update_rejected c) (λ f. stay c) (stay c)
rule ch max c (BootConfirmed i) = by_state c.state (stay c) (stay c) (λ o. stay c) (confirm i c) (stay c) (λ f. stay c) (stay c)
rule ch max c (CorruptionDetected i) = by_state c.state (stay c) (corrupt ch (move_on ch) [] i c) (λ o. corrupt ch (move_on ch) [] i c) (corrupt ch stay [] i c) (corrupt ch stay abortion i c) (λ f. corrupt ch stay [] i c) (stay c)
rule ch max c (Restored i) = by_state c.state (stay c) (stay c) (λ o. stay c) (stay c) (stay c) (λ f. restored ch max i f c) (stay c)
rule ch max c (RecoveryUnavailable i) = by_state c.state (stay c) (stay c) (λ o. stay c) (stay c) (stay c) (λ f. unavailable ch i f c) (stay c)
rule ch max c RecoveryFailed = by_state c.state (stay c) (stay c) (λ o. stay c) (stay c) (stay c) (λ f. enter_locked c) (stay c)
rule ch max c (BootFailed i n k) = by_state c.state (stay c) (boot_failed ch (move_on ch) [] i n k c) (λ o. boot_failed ch (move_on ch) [] i n k c) (boot_failed ch stay [] i n k c) (boot_failed ch stay [] i n k c) (λ f. boot_failed ch stay [] i n k c) (stay c)
rule ch max c (Timeout i) = by_state c.state (stay c) (timeout ch [] i c) (λ o. timeout ch [] i c) (timeout ch [] i c) (timeout ch [] i c) (λ f. timeout ch [] i c) (stay c)
rule ch max c CommitTimeout = by_state c.state (stay c) (stay c) (λ o. stay c) (commit_timeout c) (stay c) (λ f. stay c) (stay c)
rule ch max c EffectFailed = by_state c.state (enter_locked c) (enter_locked c) (λ o. enter_locked c) (enter_locked c) (enter_locked c) (λ f. enter_locked c) (stay c)

-- An event that names an id outside the chain does nothing.
abbrev pub in_chain : List Component → Option ComponentId → Bool
in_chain ch None = true
in_chain ch (Some i) = ltb (position ch i) (length ch)

unfoldable pub step_of : List Component → ℕ → Core → Event → Out
step_of ch max c e = pick (in_chain ch (named e)) (rule ch max c e) (stay c)
