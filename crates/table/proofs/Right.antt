-- The table is what section 3 lists, and names 22 rules: each by one computed test over its 126 entries.
use mathlib.Core.Path.{◌≡◌, ◌∙◌, ap}
use mathlib.Core.Bool.{Bool}
use Prim.Native.Nat.{ℕ, ◌+◌, ◌*◌, ◌/◌, ◌%◌, ◌<◌}
use native.Mathlib.Omega.{arith}
use lib.Dec.{eqb, ltb, eqb→eq, ltb→lt, lit<}
use lib.ListN.{get_or}
use Rattle.model.specs.declared.State.{State}
use Rattle.model.specs.declared.State.TheVariants.{PowerOnReset, PreSupervision, AwaitingReady, Ready, Updating, Recovering, Locked}
use Rattle.model.specs.declared.Event.{Event}
use Rattle.model.specs.declared.Event.TheVariants.{PowerGood, VerificationPassed, VerificationFailed, ComponentReady, Booted, AttestationChallenge, UpdateRequest, UpdateVerified, UpdateRejected, BootConfirmed, CorruptionDetected, Restored, RecoveryUnavailable, RecoveryFailed, BootFailed, Timeout, CommitTimeout, EffectFailed}
use Rattle.table.specs.Table.{state_no, event_no, table, rule_no}
use Rattle.table.specs.Pairs.{listed}
use Rattle.table.proofs.Every.{at}

right : ℕ → ℕ → Bool
right k x = eqb x (listed (k / 18) (k % 18))

small : ℕ → ℕ → Bool
small k x = ltb x 22

-- The place of a pair in the table.
place : {s e : ℕ} → s < 7 → e < 18 → s * 18 + e < 126
place hs he = omega arith

pub table-listed : (s e : ℕ) → s < 7 → e < 18 → get_or table (s * 18 + e) 0 ≡ listed s e
unfolding table right
table-listed s e hs he =
    let row : (s * 18 + e) / 18 ≡ s = omega arith in
    let column : (s * 18 + e) % 18 ≡ e = omega arith in
    eqb→eq (get_or table (s * 18 + e) 0) (listed ((s * 18 + e) / 18) ((s * 18 + e) % 18)) (at right table tt (s * 18 + e) (place hs he))
    ∙ ap (λ (k : ℕ). listed k ((s * 18 + e) % 18)) row
    ∙ ap (listed s) column

pub table_below : (s e : ℕ) → s < 7 → e < 18 → get_or table (s * 18 + e) 0 < 22
unfolding table small
table_below s e hs he = ltb→lt (get_or table (s * 18 + e) 0) 22 (at small table tt (s * 18 + e) (place hs he))

pub state-below : (s : State) → state_no s < 7
state-below PowerOnReset = lit< tt
state-below PreSupervision = lit< tt
state-below (AwaitingReady o) = lit< tt
state-below Ready = lit< tt
state-below Updating = lit< tt
state-below (Recovering i) = lit< tt
state-below Locked = lit< tt

pub event-below : (e : Event) → event_no e < 18
event-below (PowerGood r) = lit< tt
event-below (VerificationPassed i) = lit< tt
event-below (VerificationFailed i) = lit< tt
event-below (ComponentReady i) = lit< tt
event-below (Booted i) = lit< tt
event-below AttestationChallenge = lit< tt
event-below UpdateRequest = lit< tt
event-below UpdateVerified = lit< tt
event-below UpdateRejected = lit< tt
event-below (BootConfirmed i) = lit< tt
event-below (CorruptionDetected i) = lit< tt
event-below (Restored i) = lit< tt
event-below (RecoveryUnavailable i) = lit< tt
event-below RecoveryFailed = lit< tt
event-below (BootFailed i n k) = lit< tt
event-below (Timeout i) = lit< tt
event-below CommitTimeout = lit< tt
event-below EffectFailed = lit< tt

pub rule-listed : (s : State) (e : Event) → rule_no s e ≡ listed (state_no s) (event_no e)
unfolding rule_no
rule-listed s e = table-listed (state_no s) (event_no e) (state-below s) (event-below e)

pub rule-below : (s : State) (e : Event) → rule_no s e < 22
unfolding rule_no
rule-below s e = table_below (state_no s) (event_no e) (state-below s) (event-below e)
