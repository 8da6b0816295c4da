-- No line holds a byte 10: names, decimals, `-` and tabs are other bytes.
use Rattle.std.specs.Prelude.{Option, None, Some}
use Rattle.model.specs.declared.ComponentId.{ComponentId}
use mathlib.Core.Path.{refl, sym, subst}
use mathlib.Core.List.{List, ◌∷◌}
use Prim.Native.Nat.{ℕ}
use native.Mathlib.Omega.{arith}
use Rattle.model.specs.declared.ComponentKind.{ComponentKind}
use Rattle.model.specs.declared.ComponentKind.TheVariants.{Active, Passive}
use Rattle.model.specs.declared.FailurePolicy.{FailurePolicy}
use Rattle.model.specs.declared.FailurePolicy.TheVariants.{Required, Isolable, Cascading}
use Rattle.model.specs.declared.PowerOnResult.{PowerOnResult}
use Rattle.model.specs.declared.PowerOnResult.TheVariants.{Provisioned, Unprovisioned, SelfVerificationFailed}
use Rattle.model.specs.declared.BootFailureKind.{BootFailureKind}
use Rattle.model.specs.declared.BootFailureKind.TheVariants.{TimedOut, DeviceRetriable, DeviceFatal}
use Rattle.model.specs.declared.Component.{Component}
use Rattle.model.specs.declared.Event.{Event}
use Rattle.model.specs.declared.Event.TheVariants.{PowerGood, VerificationPassed, VerificationFailed, ComponentReady, Booted, AttestationChallenge, UpdateRequest, UpdateVerified, UpdateRejected, BootConfirmed, CorruptionDetected, Restored, RecoveryUnavailable, RecoveryFailed, BootFailed, Timeout, CommitTimeout, EffectFailed}
use Rattle.settling.specs.declared.Reply.{Reply}
use Rattle.settling.specs.declared.Reply.TheVariants.{Done, Then, Failed}
use Rattle.text.specs.Text.{bytes, ◌⇥◌, decimal}
use Rattle.text.specs.Values.{option_text, failure_text}
use Rattle.fields.specs.Fields.{place_of}
use Rattle.fields.proofs.Cut.{Without, without_more, without-decimal, without-both}
use Rattle.events.specs.Grammar.{power_text, event_text}
use Rattle.lines.specs.declared.Row.{Row}
use Rattle.lines.specs.declared.Row.TheVariants.{Retry, Card, Begin, Answer}
use Rattle.lines.specs.Grammar.{kind_text, policy_text, retry_line, card_line, begin_line, answer_line, IsLine}

-- A record, so that the two texts of `_then_` are found from what is known of them.
pub record Unbroken (l : List ℕ) : Type 0 where
  pub none : Without 10 l

name : (l : List ℕ) → Without 10 l → Unbroken l
name l e = record { none = e }

infixr 60 ◌then◌
◌then◌ : {l r : List ℕ} → Unbroken l → Unbroken r → Unbroken (l ⇥ r)
◌then◌ {l} {r} u w = record { none = without-both 10 l (9 ∷ r) u.none (without_more 10 9 r (λ e. omega arith) w.none) }

number : (n : ℕ) → Unbroken (decimal n)
number n = record { none = without-decimal 10 n (omega arith) }

dependency : (d : Option ComponentId) → Unbroken (option_text d)
unfolding place_of
dependency None = name _ refl
dependency (Some i) = number i.0

kind : (k : ComponentKind) → Unbroken (kind_text k)
unfolding place_of
kind Active = name _ refl
kind Passive = name _ refl

policy : (p : FailurePolicy) → Unbroken (policy_text p)
unfolding place_of
policy Required = name _ refl
policy Isolable = name _ refl
policy Cascading = name _ refl

power : (p : PowerOnResult) → Unbroken (power_text p)
unfolding place_of
power Provisioned = name _ refl
power Unprovisioned = name _ refl
power SelfVerificationFailed = name _ refl

failure : (k : BootFailureKind) → Unbroken (failure_text k)
unfolding place_of
failure TimedOut = name _ refl
failure DeviceRetriable = name _ refl
failure DeviceFatal = name _ refl

event : (e : Event) → Unbroken (event_text e)
unfolding event_text place_of
event (PowerGood p) = name (bytes "PowerGood") refl then power p
event (VerificationPassed i) = name (bytes "VerificationPassed") refl then number i.0
event (VerificationFailed i) = name (bytes "VerificationFailed") refl then number i.0
event (ComponentReady i) = name (bytes "ComponentReady") refl then number i.0
event (Booted i) = name (bytes "Booted") refl then number i.0
event AttestationChallenge = name _ refl
event UpdateRequest = name _ refl
event UpdateVerified = name _ refl
event UpdateRejected = name _ refl
event (BootConfirmed i) = name (bytes "BootConfirmed") refl then number i.0
event (CorruptionDetected i) = name (bytes "CorruptionDetected") refl then number i.0
event (Restored i) = name (bytes "Restored") refl then number i.0
event (RecoveryUnavailable i) = name (bytes "RecoveryUnavailable") refl then number i.0
event RecoveryFailed = name _ refl
event (BootFailed i c k) = name (bytes "BootFailed") refl then number i.0 then number c then failure k
event (Timeout i) = name (bytes "Timeout") refl then number i.0
event CommitTimeout = name _ refl
event EffectFailed = name _ refl

retry : (n : ℕ) → Unbroken (retry_line n)
unfolding retry_line place_of
retry n = name (bytes "B") refl then number n

card : (c : Component) → Unbroken (card_line c)
unfolding card_line place_of
card c =
    let a = c.attrs in
    name (bytes "C") refl then number c.id.0 then kind a.kind then policy a.failure_policy then number a.recovery_region.0
    then dependency a.depends_on

begin : (e : Event) → Unbroken (begin_line e)
unfolding begin_line place_of
begin e = name (bytes "E") refl then event e

answer : (a : Reply) → Unbroken (answer_line a)
unfolding answer_line place_of
answer Done = name _ refl
answer Failed = name _ refl
answer (Then e) = name (bytes "R") refl then name (bytes "then") refl then event e

pub unbroken : (l : List ℕ) (r : Option Row) → IsLine l r → Without 10 l
unbroken l (Some (Retry n)) h = subst (Without 10) (sym h.0) (retry n).none
unbroken l (Some (Card c)) h = subst (Without 10) (sym h.0) (card c).none
unbroken l (Some (Begin e)) h = subst (Without 10) (sym h.0) (begin e).none
unbroken l (Some (Answer a)) h = subst (Without 10) (sym h.0) (answer a).none
unbroken l None h = absurd h
