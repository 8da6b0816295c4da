-- Section 3: the 126 pairs of state and event as numbers of rules, 7 rows of 18.
use Rattle.std.specs.Prelude.{List, [], ◌∷◌, ℕ, ◌+◌, ◌*◌, get_or}
use Rattle.model.specs.declared.State.{State}
use Rattle.model.specs.declared.State.TheVariants.{PowerOnReset, PreSupervision, AwaitingReady, Ready, Updating, Recovering, Locked}
use Rattle.model.specs.declared.Event.{Event}
use Rattle.model.specs.declared.Event.TheVariants.{PowerGood, VerificationPassed, VerificationFailed, ComponentReady, Booted, AttestationChallenge, UpdateRequest, UpdateVerified, UpdateRejected, BootConfirmed, CorruptionDetected, Restored, RecoveryUnavailable, RecoveryFailed, BootFailed, Timeout, CommitTimeout, EffectFailed}

-- The rows, in the order in which the source declares the states.
abbrev pub state_no : State → ℕ
state_no PowerOnReset = 0
state_no PreSupervision = 1
state_no (AwaitingReady o) = 2
state_no Ready = 3
state_no Updating = 4
state_no (Recovering i) = 5
state_no Locked = 6

-- The columns, in the order in which the source declares the events.
abbrev pub event_no : Event → ℕ
event_no (PowerGood r) = 0
event_no (VerificationPassed i) = 1
event_no (VerificationFailed i) = 2
event_no (ComponentReady i) = 3
event_no (Booted i) = 4
event_no AttestationChallenge = 5
event_no UpdateRequest = 6
event_no UpdateVerified = 7
event_no UpdateRejected = 8
event_no (BootConfirmed i) = 9
event_no (CorruptionDetected i) = 10
event_no (Restored i) = 11
event_no (RecoveryUnavailable i) = 12
event_no RecoveryFailed = 13
event_no (BootFailed i n k) = 14
event_no (Timeout i) = 15
event_no CommitTimeout = 16
event_no EffectFailed = 17

-- 0 nothing, 1 power, 2 verification passed, 3 verification failed, 4 ready in AwaitingReady, 5 boot progress, 6 attest,
-- 7 update, 8 defer, 9 update verified, 10 update rejected, 11 boot confirmed, 12 corruption in a walk, 13 corruption,
-- 14 corruption in Updating, 15 restored, 16 recovery unavailable, 17 lock, 18 boot failed in a walk, 19 boot failed,
-- 20 timeout, 21 commit timeout.
unfoldable pub table : List ℕ
table =
    1 ∷ 0 ∷ 0 ∷ 0 ∷ 0 ∷ 0 ∷ 0 ∷ 0 ∷ 0 ∷ 0 ∷ 0 ∷ 0 ∷ 0 ∷ 0 ∷ 0 ∷ 0 ∷ 0 ∷ 17
    ∷ 0 ∷ 2 ∷ 3 ∷ 0 ∷ 5 ∷ 0 ∷ 0 ∷ 0 ∷ 0 ∷ 0 ∷ 12 ∷ 0 ∷ 0 ∷ 0 ∷ 18 ∷ 20 ∷ 0 ∷ 17
    ∷ 0 ∷ 2 ∷ 3 ∷ 4 ∷ 5 ∷ 6 ∷ 8 ∷ 0 ∷ 0 ∷ 0 ∷ 12 ∷ 0 ∷ 0 ∷ 0 ∷ 18 ∷ 20 ∷ 0 ∷ 17
    ∷ 0 ∷ 0 ∷ 0 ∷ 5 ∷ 5 ∷ 6 ∷ 7 ∷ 0 ∷ 0 ∷ 11 ∷ 13 ∷ 0 ∷ 0 ∷ 0 ∷ 19 ∷ 20 ∷ 21 ∷ 17
    ∷ 0 ∷ 0 ∷ 0 ∷ 5 ∷ 5 ∷ 6 ∷ 8 ∷ 9 ∷ 10 ∷ 0 ∷ 14 ∷ 0 ∷ 0 ∷ 0 ∷ 19 ∷ 20 ∷ 0 ∷ 17
    ∷ 0 ∷ 0 ∷ 0 ∷ 5 ∷ 5 ∷ 6 ∷ 8 ∷ 0 ∷ 0 ∷ 0 ∷ 13 ∷ 15 ∷ 16 ∷ 17 ∷ 19 ∷ 20 ∷ 0 ∷ 17
    ∷ 0 ∷ 0 ∷ 0 ∷ 0 ∷ 0 ∷ 0 ∷ 0 ∷ 0 ∷ 0 ∷ 0 ∷ 0 ∷ 0 ∷ 0 ∷ 0 ∷ 0 ∷ 0 ∷ 0 ∷ 0
    ∷ []

unfoldable pub rule_no : State → Event → ℕ
rule_no s e = get_or table (state_no s * 18 + event_no e) 0
