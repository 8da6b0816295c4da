-- The first effect of a step, if there is one, is no Emit. So a turn that takes an event from the queue leaves nothing to
-- hand out, or something that the next turn hands out: it cannot queue events for ever.
-- The rules are made of few parts. Each part hands out nothing or begins with a fixed effect, and of two parts in a row
-- only the first that is not empty counts. The one Emit in the rules comes after a report.
use Rattle.std.specs.Prelude.{Option, None, Some}
use mathlib.Core.Path.{◌≡◌, refl}
use mathlib.Core.List.{List, [], ◌∷◌, ◌++◌, map}
use Prim.Native.Nat.{ℕ, suc}
use lib.Dec.{eqb, ltb}
use lib.ListN.{length}
use Rattle.model.specs.Vocabulary.{named}
use Rattle.components.specs.Chain.{position, same_id}
use Rattle.model.specs.declared.ComponentId.{ComponentId}
use Rattle.model.specs.declared.Component.{Component}
use Rattle.model.specs.declared.PowerOnResult.{PowerOnResult}
use Rattle.model.specs.declared.PowerOnResult.TheVariants.{Provisioned, Unprovisioned, SelfVerificationFailed}
use Rattle.model.specs.declared.BootFailureKind.{BootFailureKind}
use Rattle.model.specs.declared.State.{State}
use Rattle.model.specs.declared.Event.{Event}
use Rattle.model.specs.declared.Event.TheVariants.{PowerGood, VerificationPassed, VerificationFailed, ComponentReady, Booted, AttestationChallenge, UpdateRequest, UpdateVerified, UpdateRejected, BootConfirmed, CorruptionDetected, Restored, RecoveryUnavailable, RecoveryFailed, BootFailed, Timeout, CommitTimeout, EffectFailed}
use Rattle.model.specs.declared.Effect.{Effect}
use Rattle.model.proofs.Pick.{pick_p}
use Rattle.components.specs.Links.{policy_at}
use Rattle.holds.specs.Cascade.{cascade}
use Rattle.machine.specs.declared.ComponentStatus.{ComponentStatus}
use Rattle.machine.specs.Status.{status_at, iso, bump}
use Rattle.holds.specs.Holds.{gate, gate_says, gates, gates_say}
use Rattle.holds.specs.Advance.{seek, verify_says, quiet_says, quiesced}
use Rattle.machine.specs.View.{Core, Out, stay, after, statuses_are}
use Rattle.rules.specs.Entry.{enter_recovering, enter_walk, onward}
use Rattle.rules.specs.Walks.{pass, verify_failed, component_ready}
use Rattle.rules.specs.Corruption.{gate_then, recover, corrupt, move_on, abortion}
use Rattle.rules.specs.Failures.{timeout, boot_failed}
use Rattle.rules.specs.Recovery.{restored, unavailable, retry_at, start_over, exhausted}
use Rattle.rules.specs.Updates.{power, commit_timeout}
use Rattle.rot.specs.Step.{rule, in_chain, step_of}
use Rattle.rot.proofs.Choice.{by_policy_p, by_state_p}
use Rattle.pending.specs.Queue.{emits}

-- The first effect, if any, queues no event.
abbrev pub Opens : List Effect → Type 0
Opens [] = Unit {0}
Opens (x ∷ xs) = emits x ≡ None

-- The same of an outcome's effects.
abbrev Good : Out → Type 0
Good o = Opens o.said

append-opens : (es fs : List Effect) → Opens es → Opens fs → Opens (es ++ fs)
append-opens [] fs h k = k
append-opens (x ∷ xs) fs h k = h

after-opens : (es : List Effect) (o : Out) → Opens es → Good o → Good (after es o)
after-opens es o h k = append-opens es o.said h k

module _ (ch : List Component) where
  -- ---- The parts
  gate-opens : (st : List ComponentStatus) (p : ℕ) → Opens (gate_says ch st p)
  gate-opens st p = pick_p Opens (iso (status_at st p)) (λ t. tt) (λ t. refl)

  gates-open : (st : List ComponentStatus) (ps : List ℕ) → Opens (gates_say ch st ps)
  unfolding gates_say
  gates-open st [] = tt
  gates-open st (p ∷ ps) = append-opens (gate_says ch st p) (gates_say ch (gate st p) ps) (gate-opens st p) (gates-open (gate st p) ps)

  verify-opens : (p : ℕ) → Opens (verify_says ch p)
  verify-opens p = pick_p Opens (ltb p (length ch)) (λ t. refl) (λ t. tt)

  quiet-opens : (cs : List Component) (st : List ComponentStatus) → Opens (quiet_says cs st)
  unfolding quiet_says
  quiet-opens [] st = tt
  quiet-opens (c ∷ cs) [] = tt
  quiet-opens (c ∷ cs) (s ∷ st) = pick_p Opens s.released (λ t. refl) (λ t. quiet-opens cs st)

  walk-opens : (c : Core) → Good (enter_walk ch c)
  walk-opens c =
      let p : ℕ = seek (map quiesced c.statuses) 0 in
      append-opens (quiet_says ch c.statuses) (verify_says ch p) (quiet-opens ch c.statuses) (verify-opens p)

  onward-opens : (p : ℕ) (s : State) (c : Core) → Good (onward ch p s c)
  onward-opens p s c = pick_p Good (ltb (seek c.statuses p) (length ch)) (λ t. verify-opens (seek c.statuses p)) (λ t. tt)

  move-opens : (c : Core) → Good (move_on ch c)
  move-opens c = pick_p Good (iso (status_at c.statuses c.cursor)) (λ t. onward-opens (suc c.cursor) c.state c) (λ t. tt)

  recover-opens : (es : List Effect) (i : ComponentId) (c : Core) → Opens es → Good (recover ch es i c)
  recover-opens es i c h = after-opens es (enter_recovering ch i c) h refl

  then-opens : (ps : List ℕ) (k : Core → Out) (c : Core) → ((d : Core) → Good (k d)) → Good (gate_then ch ps k c)
  then-opens ps k c h =
      let d : Core = statuses_are (gates c.statuses ps) c in
      after-opens (gates_say ch c.statuses ps) (k d) (gates-open c.statuses ps) (h d)

  -- ---- The rules
  powers : (r : PowerOnResult) (c : Core) → Good (power ch r c)
  powers Provisioned c = walk-opens c
  powers Unprovisioned c = refl
  powers SelfVerificationFailed c = refl

  -- The release comes first.
  passes : (i : ComponentId) (c : Core) → Good (pass ch i c)
  passes i c = pick_p Good (eqb (position ch i) c.cursor) (λ t. refl) (λ t. tt)

  fails : (i : ComponentId) (c : Core) → Good (verify_failed ch i c)
  fails i c = pick_p Good (iso (status_at c.statuses (position ch i))) (λ t. tt) (λ t. refl)

  readies : (i : ComponentId) (o : Option ComponentId) (c : Core) → Good (component_ready ch i o c)
  readies i None c = tt
  readies i (Some j) c = pick_p Good (same_id j i) (λ t. pick_p Good (ltb c.cursor (length ch)) (λ u. tt) (λ u. tt)) (λ t. tt)

  corrupts : (k : Core → Out) → ((d : Core) → Good (k d)) → (es : List Effect) → Opens es → (i : ComponentId) (c : Core) → Good (corrupt ch k es i c)
  corrupts k g es h i c =
      pick_p Good (iso (status_at c.statuses (position ch i)))
      (λ t. g c)
      (λ t. by_policy_p Good (policy_at ch (position ch i))
      (recover-opens es i c h)
      (then-opens (position ch i ∷ []) k c g)
      (then-opens (cascade ch (position ch i)) k c g))

  times : (i : ComponentId) (c : Core) → Good (timeout ch [] i c)
  times i c = pick_p Good (status_at c.statuses (position ch i)).awaiting_boot (λ t. refl) (λ t. tt)

  -- The report comes first.
  boot-fails : (k : Core → Out) (i : ComponentId) (n : ℕ) (f : BootFailureKind) (c : Core) → Good (boot_failed ch k [] i n f c)
  boot-fails k i n f c = pick_p Good (status_at c.statuses (position ch i)).awaiting_boot (λ t. refl) (λ t. tt)

  over-opens : (i : ComponentId) (c : Core) → Good (start_over ch i c)
  over-opens i c = walk-opens (retry_at ch i 0 c)

  -- Here is the Emit, after its report.
  exhausts : (i : ComponentId) (c : Core) → Good (exhausted ch i c)
  exhausts i c =
      by_policy_p Good (policy_at ch (position ch i))
      refl
      (then-opens (position ch i ∷ []) (start_over ch i) c (over-opens i))
      (then-opens (cascade ch (position ch i)) (start_over ch i) c (over-opens i))

  restores : (max : ℕ) (i f : ComponentId) (c : Core) → Good (restored ch max i f c)
  restores max i f c =
      let n : ℕ = bump (status_at c.statuses (position ch i)).retry in
      pick_p Good (same_id i f)
      (λ t. pick_p Good (ltb n max) (λ u. walk-opens (retry_at ch i n c)) (λ u. exhausts i (retry_at ch i n c)))
      (λ t. tt)

  unavails : (i f : ComponentId) (c : Core) → Good (unavailable ch i f c)
  unavails i f c = pick_p Good (same_id i f) (λ t. exhausts i c) (λ t. tt)

  window-out : (c : Core) → Good (commit_timeout c)
  window-out c = pick_p Good c.window (λ t. refl) (λ t. tt)

  -- ---- The table, in its order
  rule-opens : (max : ℕ) (c : Core) (e : Event) → Good (rule ch max c e)
  rule-opens max c (PowerGood r) = by_state_p Good c.state (powers r c) tt (λ o. tt) tt tt (λ f. tt) tt
  rule-opens max c (VerificationPassed i) = by_state_p Good c.state tt (passes i c) (λ o. passes i c) tt tt (λ f. tt) tt
  rule-opens max c (VerificationFailed i) = by_state_p Good c.state tt (fails i c) (λ o. fails i c) tt tt (λ f. tt) tt
  rule-opens max c (ComponentReady i) = by_state_p Good c.state tt tt (λ o. readies i o c) tt tt (λ f. tt) tt
  rule-opens max c (Booted i) = by_state_p Good c.state tt tt (λ o. tt) tt tt (λ f. tt) tt
  rule-opens max c AttestationChallenge = by_state_p Good c.state tt tt (λ o. refl) refl refl (λ f. refl) tt
  rule-opens max c UpdateRequest = by_state_p Good c.state tt tt (λ o. refl) refl refl (λ f. refl) tt
  rule-opens max c UpdateVerified = by_state_p Good c.state tt tt (λ o. tt) tt refl (λ f. tt) tt
  rule-opens max c UpdateRejected = by_state_p Good c.state tt tt (λ o. tt) tt refl (λ f. tt) tt
  rule-opens max c (BootConfirmed i) = by_state_p Good c.state tt tt (λ o. tt) refl tt (λ f. tt) tt
  rule-opens max c (CorruptionDetected i) =
      let moves : Good (corrupt ch (move_on ch) [] i c) = corrupts (move_on ch) move-opens [] tt i c in
      let holds : Good (corrupt ch stay [] i c) = corrupts stay (λ d. tt) [] tt i c in
      by_state_p Good c.state tt moves (λ o. moves) holds (corrupts stay (λ d. tt) abortion refl i c) (λ f. holds) tt
  rule-opens max c (Restored i) = by_state_p Good c.state tt tt (λ o. tt) tt tt (λ f. restores max i f c) tt
  rule-opens max c (RecoveryUnavailable i) = by_state_p Good c.state tt tt (λ o. tt) tt tt (λ f. unavails i f c) tt
  rule-opens max c RecoveryFailed = by_state_p Good c.state tt tt (λ o. tt) tt tt (λ f. refl) tt
  rule-opens max c (BootFailed i n k) =
      let moves : Good (boot_failed ch (move_on ch) [] i n k c) = boot-fails (move_on ch) i n k c in
      let holds : Good (boot_failed ch stay [] i n k c) = boot-fails stay i n k c in
      by_state_p Good c.state tt moves (λ o. moves) holds holds (λ f. holds) tt
  rule-opens max c (Timeout i) =
      let x : Good (timeout ch [] i c) = times i c in
      by_state_p Good c.state tt x (λ o. x) x x (λ f. x) tt
  rule-opens max c CommitTimeout = by_state_p Good c.state tt tt (λ o. tt) (window-out c) tt (λ f. tt) tt
  rule-opens max c EffectFailed = by_state_p Good c.state refl refl (λ o. refl) refl refl (λ f. refl) tt

pub step-opens : (ch : List Component) (max : ℕ) (c : Core) (e : Event) → Opens (step_of ch max c e).said
unfolding step_of
step-opens ch max c e = pick_p Good (in_chain ch (named e)) (λ t. rule-opens ch max c e) (λ t. tt)
