-- What the rules read of an event besides its component: the result of PowerGood, and the checkpoint and kind of
-- BootFailed. Of any other event these are fixed values, which no rule looks at.
use Rattle.model.specs.declared.PowerOnResult.{PowerOnResult}
use Rattle.model.specs.declared.PowerOnResult.TheVariants.{Unprovisioned}
use Rattle.model.specs.declared.BootFailureKind.TheVariants.{TimedOut}
use Rattle.model.specs.declared.Event.{Event}
use Rattle.model.specs.declared.Event.TheVariants.{PowerGood, VerificationPassed, VerificationFailed, ComponentReady, Booted, AttestationChallenge, UpdateRequest, UpdateVerified, UpdateRejected, BootConfirmed, CorruptionDetected, Restored, RecoveryUnavailable, RecoveryFailed, BootFailed, Timeout, CommitTimeout, EffectFailed}
use Rattle.table.specs.declared.BootFailure.{BootFailure}

abbrev pub power_of : Event → PowerOnResult
power_of (PowerGood r) = r
power_of (VerificationPassed i) = Unprovisioned
power_of (VerificationFailed i) = Unprovisioned
power_of (ComponentReady i) = Unprovisioned
power_of (Booted i) = Unprovisioned
power_of AttestationChallenge = Unprovisioned
power_of UpdateRequest = Unprovisioned
power_of UpdateVerified = Unprovisioned
power_of UpdateRejected = Unprovisioned
power_of (BootConfirmed i) = Unprovisioned
power_of (CorruptionDetected i) = Unprovisioned
power_of (Restored i) = Unprovisioned
power_of (RecoveryUnavailable i) = Unprovisioned
power_of RecoveryFailed = Unprovisioned
power_of (BootFailed i n k) = Unprovisioned
power_of (Timeout i) = Unprovisioned
power_of CommitTimeout = Unprovisioned
power_of EffectFailed = Unprovisioned

-- No boot failure.
abbrev pub no_failure : BootFailure
no_failure = record { checkpoint = 0; kind = TimedOut }

abbrev pub boot_of : Event → BootFailure
boot_of (PowerGood r) = no_failure
boot_of (VerificationPassed i) = no_failure
boot_of (VerificationFailed i) = no_failure
boot_of (ComponentReady i) = no_failure
boot_of (Booted i) = no_failure
boot_of AttestationChallenge = no_failure
boot_of UpdateRequest = no_failure
boot_of UpdateVerified = no_failure
boot_of UpdateRejected = no_failure
boot_of (BootConfirmed i) = no_failure
boot_of (CorruptionDetected i) = no_failure
boot_of (Restored i) = no_failure
boot_of (RecoveryUnavailable i) = no_failure
boot_of RecoveryFailed = no_failure
boot_of (BootFailed i n k) = record { checkpoint = n; kind = k }
boot_of (Timeout i) = no_failure
boot_of CommitTimeout = no_failure
boot_of EffectFailed = no_failure
