-- What each rule decides, over numbers. That performing it is the rule of section 3 is proved (proofs/Right.antt).
use Rattle.std.specs.Prelude.{Bool, true, false, List, [], ◌∷◌, ℕ, eqb, ltb, get_or, Option, None, Some}
use Rattle.model.specs.Vocabulary.{pick}
use Rattle.model.specs.declared.ComponentId.{ComponentId}
use Rattle.model.specs.declared.FailurePolicy.{FailurePolicy}
use Rattle.model.specs.declared.FailurePolicy.TheVariants.{Required, Isolable, Cascading}
use Rattle.model.specs.declared.PowerOnResult.{PowerOnResult}
use Rattle.model.specs.declared.PowerOnResult.TheVariants.{Provisioned, Unprovisioned, SelfVerificationFailed}
use Rattle.model.specs.declared.BootFailureKind.{BootFailureKind}
use Rattle.model.specs.declared.State.TheVariants.{AwaitingReady, Updating, Recovering, Locked}
use Rattle.model.specs.declared.Event.{Event}
use Rattle.components.specs.Chain.{same_id}
use Rattle.store.specs.Stored.{off}
use Rattle.table.specs.Payload.{power_of, boot_of}
use Rattle.machine.specs.Status.{bump}
use Rattle.rules.specs.Walks.{released_in, awaited}
use Rattle.rules.specs.Failures.{by_kind}
use Rattle.rules.specs.Cases.{recovering}
use Rattle.rules.specs.declared.Situation.{Situation}
use Rattle.rules.specs.declared.Situation.TheVariants.{Walking, Updated, Elsewhere}
use Rattle.rules.specs.declared.Facts.{Facts}
use Rattle.rules.specs.declared.Kept.{Kept}
use Rattle.rules.specs.declared.Says.{Says}
use Rattle.rules.specs.declared.Says.TheVariants.{Nothing, Lockdown, Attestation, Deferral, Update, Activation, Discard, Commit, Release, Recovery, Preemption, RecoveryFailure}
use Rattle.rules.specs.declared.Hold.{Hold}
use Rattle.rules.specs.declared.Hold.TheVariants.{Nobody, Itself, Cascade}
use Rattle.rules.specs.declared.Next.{Next}
use Rattle.rules.specs.declared.Next.TheVariants.{Stay, Onward, MoveOn, Walk, Ready}
use Rattle.rules.specs.declared.Decision.{Decision}
use Rattle.rules.specs.Changes.{state_to, window_to, retry_to, booted_to, goes_on, stays, holds, walks}

-- ---- power, attestation and updates

abbrev pub locks : Kept → Decision
locks k = stays (state_to Locked k) Lockdown

abbrev pub powers : Kept → PowerOnResult → Decision
powers k Provisioned = walks k
powers k Unprovisioned = locks k
powers k SelfVerificationFailed = locks k

abbrev pub attests : Kept → Decision
attests k = stays k Attestation

abbrev pub defers : Kept → Decision
defers k = stays k Deferral

abbrev pub updates : Kept → Decision
updates k = stays (state_to Updating (window_to false k)) Update

abbrev pub verifies : Kept → Decision
verifies k = goes_on (window_to true k) Activation Ready

abbrev pub rejects : Kept → Decision
rejects k = goes_on k Discard Ready

abbrev pub confirms : Kept → Decision
confirms k = stays (window_to false k) Commit

abbrev pub commit_times_out : Kept → Decision
commit_times_out k = pick k.window (locks k) (stays k Nothing)

-- ---- verdicts on firmware, and boot progress

abbrev pub released_to : Facts → Kept → Kept
released_to f k = record { state = released_in k.state f.kind f.id; window = k.window; status = record { retry = 0; awaiting_boot = true; released = true } }

abbrev pub passes : Facts → Kept → Decision
passes f k = pick (eqb f.place f.cursor) (goes_on (released_to f k) Release Onward) (stays k Nothing)

abbrev pub progresses : Kept → Decision
progresses k = stays (booted_to k) Nothing

-- Is i the component that is waited for, or restored?
abbrev pub is_own : Option ComponentId → ComponentId → Bool
is_own None i = false
is_own (Some j) i = same_id i j

abbrev pub ends_wait : Facts → Kept → Decision
ends_wait f k = pick (ltb f.cursor f.n) (stays (state_to (AwaitingReady None) k) Nothing) (goes_on k Nothing Ready)

abbrev pub readies : Facts → Kept → Option ComponentId → Decision
readies f k o = pick (is_own o f.id) (ends_wait f (booted_to k)) (progresses k)

-- ---- corruption and failures

-- The effects of a recovery: an update that it preempts is discarded and answered before.
abbrev pub recover_says : Situation → Says
recover_says Walking = Recovery
recover_says Updated = Preemption
recover_says Elsewhere = Recovery

abbrev pub recovers : Facts → Kept → Situation → Decision
recovers f k s = stays (record { state = Recovering f.id; window = false; status = off k.status }) (recover_says s)

abbrev pub fails_verification : Facts → Kept → Decision
fails_verification f k = pick f.isolated (stays k Nothing) (recovers f k Elsewhere)

abbrev pub following : Situation → Next
following Walking = MoveOn
following Updated = Stay
following Elsewhere = Stay

-- Whom a policy gates when its component fails.
abbrev pub held_by : FailurePolicy → Hold
held_by Required = Nobody
held_by Isolable = Itself
held_by Cascading = Cascade

-- Where nobody is held, r; else a gate of k, and x.
abbrev pub gate_or : Hold → Decision → Kept → Next → Decision
gate_or Nobody r k x = r
gate_or Itself r k x = holds k Itself x
gate_or Cascade r k x = holds k Cascade x

abbrev pub corrupts : Facts → Kept → Situation → Decision
corrupts f k s = pick f.isolated (goes_on k Nothing (following s)) (gate_or (held_by f.policy) (recovers f k s) k (following s))

abbrev pub times_out : Facts → Kept → Decision
times_out f k = pick k.status.awaiting_boot (recovers f k Elsewhere) (stays k Nothing)

abbrev pub failed_by : Facts → Kept → BootFailureKind → Situation → Decision
failed_by f k x s = by_kind x (recovers f k s) (corrupts f k s)

-- A decision with the report of a boot failure before its own effects.
abbrev pub reporting : Decision → Decision
reporting d = record { kept = d.kept; reports = true; says = d.says; hold = d.hold; next = d.next }

abbrev pub fails_boot : Facts → Kept → BootFailureKind → Situation → Decision
fails_boot f k x s = pick k.status.awaiting_boot (reporting (failed_by f k x s)) (stays k Nothing)

-- ---- recovery

abbrev pub exhausts : Facts → Kept → Decision
exhausts f k = gate_or (held_by f.policy) (stays k RecoveryFailure) (retry_to 0 k) Walk

abbrev pub retries : Facts → Kept → Decision
retries f k = pick (ltb (bump k.status.retry) f.max_retry)
    (walks (retry_to (bump k.status.retry) k))
    (exhausts f (retry_to (bump k.status.retry) k))

abbrev pub restores : Facts → Kept → Option ComponentId → Decision
restores f k o = pick (is_own o f.id) (retries f k) (stays k Nothing)

abbrev pub gives_up : Facts → Kept → Option ComponentId → Decision
gives_up f k o = pick (is_own o f.id) (exhausts f k) (stays k Nothing)

-- ---- by the numbers of the table

unfoldable pub decisions : Facts → Kept → Event → List Decision
decisions f k e =
    stays k Nothing
    ∷ powers k (power_of e)
    ∷ passes f k
    ∷ fails_verification f k
    ∷ readies f k (awaited k.state)
    ∷ progresses k
    ∷ attests k
    ∷ updates k
    ∷ defers k
    ∷ verifies k
    ∷ rejects k
    ∷ confirms k
    ∷ corrupts f k Walking
    ∷ corrupts f k Elsewhere
    ∷ corrupts f k Updated
    ∷ restores f k (recovering k.state)
    ∷ gives_up f k (recovering k.state)
    ∷ locks k
    ∷ fails_boot f k (boot_of e).kind Walking
    ∷ fails_boot f k (boot_of e).kind Elsewhere
    ∷ times_out f k
    ∷ commit_times_out k
    ∷ []

-- The rule of number x, and nothing where there is none.
abbrev pub decided : Facts → Kept → Event → ℕ → Decision
decided f k e x = get_or (decisions f k e) x (stays k Nothing)
