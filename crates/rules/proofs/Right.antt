-- Performing what a rule decides is the rule of section 3, for every chain, machine and component.
use Rattle.std.specs.Prelude.{Option, None, Some, get_or, eqb, ltb}
use mathlib.Core.Path.{◌≡◌, refl, sym, ap, ◌∙◌}
use mathlib.Core.Bool.{Bool, true, false}
use mathlib.Core.List.{List, [], ◌∷◌, ◌++◌, map}
use Prim.Native.Nat.{ℕ, zero, suc, ◌+◌}
use native.Mathlib.Omega.{arith}
use lib.ListN.{length, set}
use borrow.Author.Tests.{eq-eqb, ne_eqb, eqb-true}
use Rattle.model.specs.Vocabulary.{pick}
use Rattle.model.specs.declared.ComponentId.{ComponentId}
use Rattle.model.specs.declared.Component.{Component}
use Rattle.model.specs.declared.State.TheVariants.{AwaitingReady}
use Rattle.model.specs.declared.FailurePolicy.{FailurePolicy}
use Rattle.model.specs.declared.FailurePolicy.TheVariants.{Required, Isolable, Cascading}
use Rattle.model.specs.declared.PowerOnResult.{PowerOnResult}
use Rattle.model.specs.declared.PowerOnResult.TheVariants.{Provisioned, Unprovisioned, SelfVerificationFailed}
use Rattle.model.specs.declared.BootFailureKind.{BootFailureKind}
use Rattle.model.specs.declared.BootFailureKind.TheVariants.{TimedOut, DeviceRetriable, DeviceFatal}
use Rattle.model.specs.declared.Event.{Event}
use Rattle.model.specs.declared.Effect.{Effect}
use Rattle.model.specs.declared.Effect.TheVariants.{ReportBootFailed}
use Rattle.components.specs.Chain.{position, same_id}
use Rattle.components.specs.Links.{policy_at}
use Rattle.table.specs.Payload.{power_of, boot_of}
use Rattle.machine.specs.declared.ComponentStatus.{ComponentStatus}
use Rattle.machine.specs.Status.{fresh, status_at, touch, retry_is, bump}
use Rattle.machine.specs.View.{Core, Out, stay, after, in_state, statuses_are}
use Rattle.holds.specs.Cascade.{cascade}
use Rattle.holds.specs.Holds.{gates, gates_say}
use Rattle.rules.specs.Entry.{enter_locked, enter_walk, enter_ready, enter_updating}
use Rattle.rules.specs.Updates.{power, confirm, commit_timeout, attest, defer, update_verified, update_rejected}
use Rattle.rules.specs.Walks.{pass, no_wait, verify_failed, progress, component_ready, awaited}
use Rattle.rules.specs.Corruption.{by_policy, corrupt, recover, gate_then}
use Rattle.rules.specs.Failures.{by_kind, timeout, boot_failed}
use Rattle.rules.specs.Recovery.{retry_at, start_over, give_up, exhausted}
use Rattle.rules.specs.Cases.{before, recovering, restored_in, unavailable_in}
use Rattle.rules.specs.Numbered.{numbered, numbered_by}
use Rattle.rules.specs.declared.Situation.{Situation}
use Rattle.rules.specs.declared.Situation.TheVariants.{Walking, Updated, Elsewhere}
use Rattle.rules.specs.declared.Facts.{Facts}
use Rattle.rules.specs.declared.Kept.{Kept}
use Rattle.rules.specs.declared.Says.TheVariants.{Nothing, RecoveryFailure}
use Rattle.rules.specs.declared.Next.TheVariants.{Walk}
use Rattle.rules.specs.declared.Decision.{Decision}
use Rattle.rules.specs.Changes.{retry_to, booted_to, stays}
use Rattle.rules.specs.Decided.{locks, powers, attests, defers, updates, verifies, rejects, confirms, commit_times_out, passes, fails_verification, progresses, ends_wait, readies, recovers, following, held_by, gate_or, corrupts, times_out, failed_by, reporting, fails_boot, exhausts, restores, gives_up, decisions, decided}
use Rattle.rules.specs.Performed.{performed, said, reported, keeping, gated, nexts, facts_of, kept_in}
use Rattle.rules.proofs.Commute.{counted-twice, counted-gates, counted-says}
use Rattle.rules.proofs.Fresh.{fresh-failed}
use lib.Seq.{set-get_or}

-- A choice of decisions is performed as the choice of what each comes to.
picked : {A B : Type 0} (g : A → B) (t : Bool) {a b : A} {x y : B} → (t ≡ true → g a ≡ x) → (t ≡ false → g b ≡ y) → g (pick t a b) ≡ pick t x y
picked g true h k = h refl
picked g false h k = k refl

same-either : (a b : ℕ) → eqb a b ≡ eqb b a
same-either a b = by (eqb b a) refl
  where
    by : (t : Bool) → eqb b a ≡ t → eqb a b ≡ t
    by true e = eq-eqb a b (sym (eqb-true b a e))
    by false e = ne_eqb a b (λ q. let z : ◌≡◌ {A = ℕ} 0 1 = cc (eq-eqb b a (sym q)) in omega arith)

get_or-map : {A B : Type 0} (g : A → B) (l : List A) (x : ℕ) (d : A) → g (get_or l x d) ≡ get_or (map g l) x (g d)
get_or-map g [] x d = refl
get_or-map g (a ∷ l) zero d = refl
get_or-map g (a ∷ l) (suc x) d = get_or-map g l x d

module _ (ch : List Component) (max : ℕ) (i : ComponentId) (e : Event) (c : Core) where
  -- The position, what a rule is given, and what its decision comes to.
  abbrev p : ℕ
  p = position ch i

  abbrev f : Facts
  f = facts_of ch max i p c

  abbrev k : Kept
  k = kept_in p c

  abbrev does : Decision → Out
  does d = performed ch p i e d c

  -- What is put back as it was changes nothing.
  same : statuses_are (set c.statuses p (status_at c.statuses p)) c ≡ c
  same = ap (λ (st : List ComponentStatus). statuses_are st c) (set-get_or c.statuses p fresh)

  stays-right : does (stays k Nothing) ≡ stay c
  unfolding performed gates gates_say
  stays-right = ap stay same

  -- ---- power, attestation and updates
  locks-right : does (locks k) ≡ enter_locked c
  unfolding performed gates gates_say
  locks-right = ap enter_locked same

  power-right : (r : PowerOnResult) → does (powers k r) ≡ power ch r c
  unfolding performed gates gates_say
  power-right Provisioned = ap (enter_walk ch) same
  power-right Unprovisioned = locks-right
  power-right SelfVerificationFailed = locks-right

  attests-right : does (attests k) ≡ attest c
  unfolding performed gates gates_say
  attests-right = ap attest same

  defers-right : does (defers k) ≡ defer c
  unfolding performed gates gates_say
  defers-right = ap defer same

  updates-right : does (updates k) ≡ enter_updating c
  unfolding performed gates gates_say
  updates-right = ap enter_updating same

  verifies-right : does (verifies k) ≡ update_verified c
  unfolding performed gates gates_say
  verifies-right = ap update_verified same

  rejects-right : does (rejects k) ≡ update_rejected c
  unfolding performed gates gates_say
  rejects-right = ap update_rejected same

  confirms-right : does (confirms k) ≡ confirm i c
  unfolding performed gates gates_say
  confirms-right = ap (confirm i) same

  commit-right : does (commit_times_out k) ≡ commit_timeout c
  commit-right = picked does c.window (λ _. locks-right) (λ _. stays-right)

  -- ---- verdicts on firmware, and boot progress
  pass-right : does (passes f k) ≡ pass ch i c
  unfolding performed gates gates_say
  pass-right = picked does (eqb p c.cursor) (λ _. refl) (λ _. stays-right)

  progress-right : does (progresses k) ≡ progress ch i c
  unfolding performed gates gates_say
  progress-right = refl

  -- What comes of a wait that ends.
  abbrev waited : Out
  waited = pick (ltb c.cursor (length ch)) (stay (in_state (AwaitingReady None) (no_wait ch i c))) (enter_ready (no_wait ch i c))

  wait-right : does (ends_wait f (booted_to k)) ≡ waited
  unfolding performed gates gates_say
  wait-right = picked does (ltb c.cursor (length ch)) (λ _. refl) (λ _. refl)

  ready-right : (o : Option ComponentId) → does (readies f k o) ≡ component_ready ch i o c
  unfolding performed gates gates_say
  ready-right None = refl
  ready-right (Some j) =
      picked does (same_id i j) {a = ends_wait f (booted_to k)} {b = progresses k} {x = waited} {y = progress ch i c} (λ _. wait-right) (λ _. refl)
      ∙ ap (λ (t : Bool). pick t waited (progress ch i c)) (same-either i.0 j.0)

  -- ---- corruption and failures
  recovers-right : (s : Situation) → does (recovers f k s) ≡ recover ch (before s) i c
  unfolding performed gates gates_say
  recovers-right Walking = refl
  recovers-right Updated = refl
  recovers-right Elsewhere = refl

  fails-right : does (fails_verification f k) ≡ verify_failed ch i c
  fails-right = picked does f.isolated (λ _. stays-right) (λ _. recovers-right Elsewhere)

  corrupts-right : (s : Situation) → does (corrupts f k s) ≡ corrupt ch (nexts (following s) ch p) (before s) i c
  unfolding performed gates gates_say
  corrupts-right s = picked does f.isolated (λ _. ap (nexts (following s) ch p) same) (λ _. by (policy_at ch p))
    where
      by : (x : FailurePolicy) → does (gate_or (held_by x) (recovers f k s) k (following s))
          ≡ by_policy x (recover ch (before s) i c) (gate_then ch (p ∷ []) (nexts (following s) ch p) c) (gate_then ch (cascade ch p) (nexts (following s) ch p) c)
      by Required = recovers-right s
      by Isolable = ap (gate_then ch (p ∷ []) (nexts (following s) ch p)) same
      by Cascading = ap (gate_then ch (cascade ch p) (nexts (following s) ch p)) same

  timeout-right : does (times_out f k) ≡ timeout ch [] i c
  timeout-right = picked does k.status.awaiting_boot (λ _. recovers-right Elsewhere) (λ _. stays-right)

  -- The report comes before all that the decision comes to.
  abbrev first : Effect
  first = ReportBootFailed i (boot_of e).checkpoint (boot_of e).kind

  reporting-right : (d : Decision) → d.reports ≡ false → does (reporting d) ≡ after (first ∷ []) (does d)
  unfolding performed
  reporting-right d fresh = sym (ap (λ (r : Bool). after (first ∷ []) (after (reported r i (boot_of e) ++ said d.says i d.kept.status.retry) (gate_then ch (gated d.hold ch p) (nexts d.next ch p) (keeping p d.kept c)))) fresh)

  failed-right : (s : Situation) → does (fails_boot f k (boot_of e).kind s) ≡ boot_failed ch (nexts (following s) ch p) (before s) i (boot_of e).checkpoint (boot_of e).kind c
  failed-right s =
      picked does k.status.awaiting_boot
      (λ _. reporting-right (failed_by f k (boot_of e).kind s) (fresh-failed f k (boot_of e).kind s) ∙ ap (after (first ∷ [])) (by (boot_of e).kind))
      (λ _. stays-right)
    where
      by : (x : BootFailureKind) → does (failed_by f k x s) ≡ by_kind x (recover ch (before s) i c) (corrupt ch (nexts (following s) ch p) (before s) i c)
      by TimedOut = recovers-right s
      by DeviceRetriable = recovers-right s
      by DeviceFatal = corrupts-right s

  -- ---- recovery

  -- The decision stores the count 0 before the gate, the rule after it.
  over-right : (n : ℕ) (ps : List ℕ) → gate_then ch ps (enter_walk ch) (retry_at ch i 0 c) ≡ gate_then ch ps (start_over ch i) (retry_at ch i n c)
  over-right n ps = λ j. after (says j) (enter_walk ch (statuses_are (left j) c))
    where
      says : gates_say ch (touch (retry_is 0) c.statuses p) ps ≡ gates_say ch (touch (retry_is n) c.statuses p) ps
      says = counted-says 0 ch c.statuses p ps ∙ sym (counted-says n ch c.statuses p ps)

      left : gates (touch (retry_is 0) c.statuses p) ps ≡ touch (retry_is 0) (gates (touch (retry_is n) c.statuses p) ps) p
      left = ap (λ (l : List ComponentStatus). gates l ps) (sym (counted-twice 0 n c.statuses p)) ∙ counted-gates 0 (touch (retry_is n) c.statuses p) p ps

  exhausts-right : (n : ℕ) → does (exhausts f (retry_to n k)) ≡ exhausted ch i (retry_at ch i n c)
  unfolding performed gates gates_say
  exhausts-right n = by (policy_at ch p)
    where
      by : (x : FailurePolicy) → does (gate_or (held_by x) (stays (retry_to n k) RecoveryFailure) (retry_to 0 k) Walk)
          ≡ by_policy x (give_up i (retry_at ch i n c)) (gate_then ch (p ∷ []) (start_over ch i) (retry_at ch i n c)) (gate_then ch (cascade ch p) (start_over ch i) (retry_at ch i n c))
      by Required = refl
      by Isolable = over-right n (p ∷ [])
      by Cascading = over-right n (cascade ch p)

  restores-right : (o : Option ComponentId) → does (restores f k o) ≡ restored_in ch max i o c
  unfolding performed gates gates_say
  restores-right None = stays-right
  restores-right (Some j) = picked does (same_id i j)
      (λ _. picked does (ltb (bump k.status.retry) max) (λ _. refl) (λ _. exhausts-right (bump k.status.retry)))
      (λ _. stays-right)

  gives-up-right : (o : Option ComponentId) → does (gives_up f k o) ≡ unavailable_in ch i o c
  gives-up-right None = stays-right
  gives-up-right (Some j) = picked does (same_id i j) (λ _. exhausts-right k.status.retry ∙ ap (exhausted ch i) same) (λ _. stays-right)

  -- ---- by the numbers of the table
  all-right : map does (decisions f k e) ≡ numbered ch max e i c
  unfolding decisions numbered
  all-right = λ j.
      stays-right j
      ∷ power-right (power_of e) j
      ∷ pass-right j
      ∷ fails-right j
      ∷ ready-right (awaited c.state) j
      ∷ progress-right j
      ∷ attests-right j
      ∷ updates-right j
      ∷ defers-right j
      ∷ verifies-right j
      ∷ rejects-right j
      ∷ confirms-right j
      ∷ corrupts-right Walking j
      ∷ corrupts-right Elsewhere j
      ∷ corrupts-right Updated j
      ∷ restores-right (recovering c.state) j
      ∷ gives-up-right (recovering c.state) j
      ∷ locks-right j
      ∷ failed-right Walking j
      ∷ failed-right Elsewhere j
      ∷ timeout-right j
      ∷ commit-right j
      ∷ []

  pub decided-right : (x : ℕ) → does (decided f k e x) ≡ numbered_by ch max e i x c
  decided-right x = get_or-map does (decisions f k e) x (stays k Nothing) ∙ (λ j. get_or (all-right j) x (stays-right j))
