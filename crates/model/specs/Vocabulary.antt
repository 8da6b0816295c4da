-- Words of section 1: numbers as ids, attributes, the component that an event names.
use Rattle.std.specs.Prelude.{ℕ, Bool, true, false, Option, None, Some}
use Rattle.model.specs.declared.ComponentId.{ComponentId}
use Rattle.model.specs.declared.RegionId.{RegionId}
use Rattle.model.specs.declared.ComponentKind.{ComponentKind}
use Rattle.model.specs.declared.FailurePolicy.{FailurePolicy}
use Rattle.model.specs.declared.ComponentAttrs.{ComponentAttrs}
use Rattle.model.specs.declared.Event.{Event}
use Rattle.model.specs.declared.Event.TheVariants.{PowerGood, VerificationPassed, VerificationFailed, ComponentReady, Booted, AttestationChallenge, UpdateRequest, UpdateVerified, UpdateRejected, BootConfirmed, CorruptionDetected, Restored, RecoveryUnavailable, RecoveryFailed, BootFailed, Timeout, CommitTimeout, EffectFailed}

-- A choice by a test.
abbrev pub pick {ℓ} : {A : Type ℓ} → Bool → A → A → A
pick true a b = a
pick false a b = b

abbrev pub id_of : ℕ → ComponentId
id_of n = record { 0 = n }

abbrev pub region_of : ℕ → RegionId
region_of n = record { 0 = n }

-- A component with recovery region 0 and no dependency.
abbrev pub plain_attrs : ComponentKind → FailurePolicy → ComponentAttrs
plain_attrs k p = record { kind = k; failure_policy = p; recovery_region = region_of 0; depends_on = None }

abbrev pub in_region : RegionId → ComponentAttrs → ComponentAttrs
in_region r a = record { kind = a.kind; failure_policy = a.failure_policy; recovery_region = r; depends_on = a.depends_on }

abbrev pub depending_on : ComponentId → ComponentAttrs → ComponentAttrs
depending_on d a = record { kind = a.kind; failure_policy = a.failure_policy; recovery_region = a.recovery_region; depends_on = Some d }

-- The component that an event names, if it names one.
abbrev pub named : Event → Option ComponentId
named (PowerGood r) = None
named (VerificationPassed i) = Some i
named (VerificationFailed i) = Some i
named (ComponentReady i) = Some i
named (Booted i) = Some i
named AttestationChallenge = None
named UpdateRequest = None
named UpdateVerified = None
named UpdateRejected = None
named (BootConfirmed i) = Some i
named (CorruptionDetected i) = Some i
named (Restored i) = Some i
named (RecoveryUnavailable i) = Some i
named RecoveryFailed = None
named (BootFailed i n k) = Some i
named (Timeout i) = Some i
named CommitTimeout = None
named EffectFailed = None
