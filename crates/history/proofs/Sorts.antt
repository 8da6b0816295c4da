-- What is asked of an effect when it is computed, by the few sorts of effects that demand 3 tells apart; and that the gates,
-- quiescing and the walk compute such effects.
use Rattle.std.specs.Prelude.{Option, None, Some}
use mathlib.Core.Path.{◌≡◌, refl, sym, subst, ap, ◌∙◌}
use mathlib.Core.List.Memᴰ
use mathlib.Core.List.{List, [], ◌∷◌, ◌++◌}
use mathlib.Core.Bool.{true, false}
use Prim.Native.Nat.{ℕ, ◌≤◌, ◌<◌}
use native.Mathlib.Omega.{arith}
use lib.Dec.{ltb}
use lib.ListN.{length}
use borrow.Author.Tests.{ltb-true, lt-ltb}
use Rattle.components.specs.Chain.{position, id_at, Sound}
use Rattle.model.specs.declared.ComponentId.{ComponentId}
use Rattle.model.specs.declared.Component.{Component}
use Rattle.model.specs.declared.Event.{Event}
use Rattle.model.specs.declared.Event.TheVariants.{VerificationPassed}
use Rattle.model.specs.declared.Effect.{Effect}
use Rattle.model.specs.declared.Effect.TheVariants.{ReadFirmware, VerifyFirmware, ReleaseReset, AssertReset, SignAttestation, AuthenticateUpdate, StageUpdate, ActivateUpdate, DiscardStaged, CommitSvnFloor, RecoverComponent, ReportIsolated, ReportRecoveryFailed, ReportBootFailed, ReportUpdateDeferred, ReportUpdateAborted, LatchLockdown, Emit}
use Rattle.model.proofs.Pick.{pick_p}
use Rattle.components.proofs.Lookup.{own-place}
use Rattle.pending.specs.Queue.{emits}
use Rattle.holds.proofs.Below.{Within}
use Rattle.machine.specs.declared.ComponentStatus.{ComponentStatus}
use Rattle.holds.specs.Holds.{gate, gate_says, gates, gates_say}
use Rattle.holds.specs.Advance.{verify_says, quiet_says}
use Rattle.rot.proofs.Weight.{gate-length}
use Rattle.history.specs.Demand.{Serves, verifies, releases, recovers}
use Rattle.history.proofs.Statuses.{iso_at, Mono, gate-self, gates-keep}

pub data Sort : Type 0 where
  Verifies : ComponentId → Sort
  Releases : ComponentId → Sort
  Recovers : ComponentId → Sort
  Isolates : ComponentId → Sort
  Other : Sort

abbrev pub sort_of : Effect → Sort
sort_of (ReadFirmware i) = Other
sort_of (VerifyFirmware i) = Verifies i
sort_of (ReleaseReset i) = Releases i
sort_of (AssertReset i) = Other
sort_of SignAttestation = Other
sort_of AuthenticateUpdate = Other
sort_of StageUpdate = Other
sort_of ActivateUpdate = Other
sort_of DiscardStaged = Other
sort_of (CommitSvnFloor i) = Other
sort_of (RecoverComponent i n) = Recovers i
sort_of (ReportIsolated i) = Isolates i
sort_of (ReportRecoveryFailed i) = Other
sort_of (ReportBootFailed i n k) = Other
sort_of ReportUpdateDeferred = Other
sort_of ReportUpdateAborted = Other
sort_of LatchLockdown = Other
sort_of (Emit e) = Other

no-event {ℓ} : {A : Type ℓ} (e : Event) → None ≡ Some e → A
no-event e q = let z : ◌≡◌ {A = ℕ} 0 1 = cc in absurd (omega arith)

-- What is queued is none of them.
pub queued-other : (x : Effect) (e : Event) → emits x ≡ Some e → sort_of x ≡ Other
queued-other (ReadFirmware i) e q = refl
queued-other (VerifyFirmware i) e q = no-event e q
queued-other (ReleaseReset i) e q = no-event e q
queued-other (AssertReset i) e q = refl
queued-other SignAttestation e q = refl
queued-other AuthenticateUpdate e q = refl
queued-other StageUpdate e q = refl
queued-other ActivateUpdate e q = refl
queued-other DiscardStaged e q = refl
queued-other (CommitSvnFloor i) e q = refl
queued-other (RecoverComponent i n) e q = no-event e q
queued-other (ReportIsolated i) e q = no-event e q
queued-other (ReportRecoveryFailed i) e q = refl
queued-other (ReportBootFailed i n k) e q = refl
queued-other ReportUpdateDeferred e q = refl
queued-other ReportUpdateAborted e q = refl
queued-other LatchLockdown e q = refl
queued-other (Emit f) e q = refl

-- The component under check after an effect: what the latest VerifyFirmware named, if no ReleaseReset came since.
abbrev pub checked_by : Sort → Option ComponentId → Option ComponentId
checked_by (Verifies i) old = Some i
checked_by (Releases i) old = None
checked_by (Recovers i) old = old
checked_by (Isolates i) old = old
checked_by Other old = old

abbrev pub checked : Effect → Option ComponentId → Option ComponentId
checked x old = checked_by (sort_of x) old

-- What is asked of an effect, with the statuses after the step, the event, and the component under check before it.
abbrev pub FineBy : List Component → List ComponentStatus → Event → Option ComponentId → Sort → Type 0
FineBy ch st e old (Verifies i) = iso_at st (position ch i) ≡ false
FineBy ch st e old (Releases i) = (iso_at st (position ch i) ≡ false) × (e ≡ VerificationPassed i) × (old ≡ Some i)
FineBy ch st e old (Recovers i) = iso_at st (position ch i) ≡ false
FineBy ch st e old (Isolates i) = iso_at st (position ch i) ≡ true
FineBy ch st e old Other = Unit {0}

abbrev pub Fine : List Component → List ComponentStatus → Event → Option ComponentId → Effect → Type 0
Fine ch st e old x = FineBy ch st e old (sort_of x)

-- What an effect serves is not Isolated.
pub serves-free : (ch : List Component) (st : List ComponentStatus) (e : Event) (old : Option ComponentId) {i : ComponentId} {x : Effect} → Serves i x → Fine ch st e old x → iso_at st (position ch i) ≡ false
serves-free ch st e old verifies f = f
serves-free ch st e old releases f = f.0
serves-free ch st e old (recovers n) f = f

-- ---- Lists of effects

abbrev pub Said : List Component → List ComponentStatus → Event → Option ComponentId → List Effect → Type 0
Said ch st e old [] = Unit {0}
Said ch st e old (x ∷ xs) = Fine ch st e old x × Said ch st e (checked x old) xs

-- The component under check after some effects.
abbrev pub last : Option ComponentId → List Effect → Option ComponentId
last old [] = old
last old (x ∷ xs) = last (checked x old) xs

pub said-append : (ch : List Component) (st : List ComponentStatus) (e : Event) (old : Option ComponentId) (xs ys : List Effect)
    → Said ch st e old xs → Said ch st e (last old xs) ys → Said ch st e old (xs ++ ys)
said-append ch st e old [] ys h k = k
said-append ch st e old (x ∷ xs) ys h k = (h.0, said-append ch st e (checked x old) xs ys h.1 k)

pub last-append : (old : Option ComponentId) (xs ys : List Effect) → last old (xs ++ ys) ≡ last (last old xs) ys
last-append old [] ys = refl
last-append old (x ∷ xs) ys = last-append (checked x old) xs ys

-- ---- The gates

module _ (n : ℕ) (ch : List Component) (s : Sound n ch) (e : Event) where
  gate-said : (st su : List ComponentStatus) (old : Option ComponentId) (p : ℕ) → p < length ch → iso_at su p ≡ true → Said ch su e old (gate_says ch st p)
  gate-said st su old p b h =
      pick_p (Said ch su e old) (iso_at st p) (λ t. tt)
      (λ t. (tt, (subst (λ (k : ℕ). iso_at su k ≡ true) (sym (own-place n ch s p b)) h, tt)))

  pub gates-said : (st su : List ComponentStatus) (old : Option ComponentId) (ps : List ℕ) → length st ≡ length ch → Within (length ch) ps → Mono (gates st ps) su → Said ch su e old (gates_say ch st ps)
  unfolding gates gates_say
  gates-said st su old [] z w h = tt
  gates-said st su old (p ∷ ps) z w h =
      said-append ch su e old (gate_says ch st p) (gates_say ch (gate st p) ps)
      (gate-said st su old p (w p (Memᴰ.head refl)) (h p (gates-keep (gate st p) ps p (gate-self st p (subst (λ (m : ℕ). p < m) (sym z) (w p (Memᴰ.head refl)))))))
      (gates-said (gate st p) su (last old (gate_says ch st p)) ps (gate-length st p ∙ z) (λ q m. w q (Memᴰ.tail m)) h)

  -- ---- The walk

  pub verify-said : (st : List ComponentStatus) (old : Option ComponentId) (p : ℕ) → iso_at st p ≡ false → Said ch st e old (verify_says ch p)
  verify-said st old p f =
      pick_p (Said ch st e old) (ltb p (length ch))
      (λ t. (tt, (subst (λ (k : ℕ). iso_at st k ≡ false) (sym (own-place n ch s p (ltb-true p (length ch) t))) f, tt)))
      (λ t. tt)

gate-last : (ch : List Component) (st : List ComponentStatus) (old : Option ComponentId) (p : ℕ) → last old (gate_says ch st p) ≡ old
gate-last ch st old p = pick_p (λ (es : List Effect). last old es ≡ old) (iso_at st p) (λ t. refl) (λ t. refl)

pub gates-last : (ch : List Component) (st : List ComponentStatus) (old : Option ComponentId) (ps : List ℕ) → last old (gates_say ch st ps) ≡ old
unfolding gates_say
gates-last ch st old [] = refl
gates-last ch st old (p ∷ ps) =
    last-append old (gate_says ch st p) (gates_say ch (gate st p) ps)
    ∙ ap (λ (o : Option ComponentId). last o (gates_say ch (gate st p) ps)) (gate-last ch st old p)
    ∙ gates-last ch (gate st p) old ps

pub verify-last : (ch : List Component) (old : Option ComponentId) (p : ℕ) → p < length ch → last old (verify_says ch p) ≡ Some (id_at ch p)
verify-last ch old p b = rw (lt-ltb p (length ch) b)

pub verify-two : (ch : List Component) (p : ℕ) → length (verify_says ch p) ≤ 2
verify-two ch p = pick_p (λ (es : List Effect). length es ≤ 2) (ltb p (length ch)) (λ t. omega arith) (λ t. omega arith)

-- ---- Quiescing

pub quiet-said : (ch : List Component) (su : List ComponentStatus) (e : Event) (old : Option ComponentId) (cs : List Component) (st : List ComponentStatus) → Said ch su e old (quiet_says cs st)
unfolding quiet_says
quiet-said ch su e old [] st = tt
quiet-said ch su e old (c ∷ cs) [] = tt
quiet-said ch su e old (c ∷ cs) (s ∷ st) = pick_p (Said ch su e old) s.released (λ t. (tt, quiet-said ch su e old cs st)) (λ t. quiet-said ch su e old cs st)

pub quiet-last : (old : Option ComponentId) (cs : List Component) (st : List ComponentStatus) → last old (quiet_says cs st) ≡ old
unfolding quiet_says
quiet-last old [] st = refl
quiet-last old (c ∷ cs) [] = refl
quiet-last old (c ∷ cs) (s ∷ st) = pick_p (λ (es : List Effect). last old es ≡ old) s.released (λ t. quiet-last old cs st) (λ t. quiet-last old cs st)
