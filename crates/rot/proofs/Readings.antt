-- Two readings of section 2 that go wrong, each as a law that says how it is.
use mathlib.Core.Path.{◌≡◌, refl, sym, ap, ◌∙◌, subst}
use mathlib.Core.Bool.{true, false, true≢false}
use mathlib.Core.List.Memᴰ
use mathlib.Core.List.{List, [], ◌∷◌, ◌++◌, map, Memᴰ}
use mathlib.Core.Logic.{⊎_elim}
use Prim.Native.Nat.{ℕ, zero, suc, ◌<◌}
use native.Mathlib.Omega.{arith}
use lib.ListN.{length, get_or, get_or-map}
use lib.Seq.{get_or-set_same, get_or-set_other}
use lib.Dec.{eqb, ltb}
use borrow.Author.Tests.{eqb-true, eqb-false}
use Rattle.components.specs.Chain.{position, id_at, Sound}
use Rattle.components.proofs.Lookup.{position-holds}
use Rattle.model.proofs.Pick.{pick_p}
use Rattle.model.specs.declared.Component.{Component}
use Rattle.model.specs.declared.ComponentId.{ComponentId}
use Rattle.model.specs.declared.FailurePolicy.TheVariants.{Isolable}
use Rattle.model.specs.declared.Effect.{Effect}
use Rattle.model.specs.declared.Effect.TheVariants.{AssertReset, ReportIsolated, ReadFirmware, VerifyFirmware}
use Rattle.components.specs.Links.{parent, policy_at}
use Rattle.holds.specs.Cascade.{cascade}
use Rattle.holds.proofs.Below.{by-test, in-cons}
use Rattle.holds.proofs.Closed.{cascade-closed}
use Rattle.machine.specs.declared.ComponentStatus.{ComponentStatus}
use Rattle.machine.specs.Status.{status_at, iso, fresh, touch, retry_is}
use Rattle.holds.specs.Holds.{isolate, gate, gate_says, gates, gates_say}
use Rattle.holds.specs.Advance.{seek, verify_says, quiet_says, quiesced}
use Rattle.machine.specs.View.{Core, Out, stay, statuses_are}
use Rattle.rules.specs.Corruption.{gate_then, corrupt, move_on}
use Rattle.rules.specs.Recovery.{start_over, exhausted, retry_at}
use Rattle.rot.proofs.Weight.{gate-length, quiesced-iso}

-- ---- the gate at one position
gate-own : (st : List ComponentStatus) (p : ℕ) → p < length st → iso (status_at (gate st p) p) ≡ true
gate-own st p h =
    pick_p (λ (l : List ComponentStatus). iso (status_at l p) ≡ true) (iso (status_at st p)) (λ t. t)
    (λ t. ap iso (get_or-set_same st p (isolate (status_at st p)) fresh h))

gate-other : (st : List ComponentStatus) (p y : ℕ) → (y ≡ p → ⊥) → status_at (gate st p) y ≡ status_at st y
gate-other st p y n =
    pick_p (λ (l : List ComponentStatus). status_at l y ≡ status_at st y) (iso (status_at st p)) (λ t. refl)
    (λ t. get_or-set_other st p y (isolate (status_at st p)) fresh n)

gate-keeps : (st : List ComponentStatus) (p y : ℕ) → iso (status_at st y) ≡ true → iso (status_at (gate st p) y) ≡ true
gate-keeps st p y e =
    pick_p (λ (l : List ComponentStatus). iso (status_at l y) ≡ true) (iso (status_at st p)) (λ t. e)
    (λ t.
    by-test (eqb y p)
    (λ u. absurd (true≢false (sym e ∙ ap (λ (k : ℕ). iso (status_at st k)) (eqb-true y p u) ∙ t)))
    (λ u. ap iso (get_or-set_other st p y (isolate (status_at st p)) fresh (eqb-false y p u)) ∙ e))

gate-reports : (ch : List Component) (st : List ComponentStatus) (p : ℕ) → iso (status_at st p) ≡ false → Memᴰ (ReportIsolated (id_at ch p)) (gate_says ch st p)
gate-reports ch st p e = pick_p (Memᴰ (ReportIsolated (id_at ch p))) (iso (status_at st p)) (λ t. absurd (true≢false (sym t ∙ e))) (λ t. Memᴰ.tail (Memᴰ.head refl))

-- ---- the gate at each position of a list
gates-keep : (st : List ComponentStatus) (ps : List ℕ) (y : ℕ) → iso (status_at st y) ≡ true → iso (status_at (gates st ps) y) ≡ true
unfolding gates
gates-keep st [] y e = e
gates-keep st (p ∷ ps) y e = gates-keep (gate st p) ps y (gate-keeps st p y e)

gates-isolate : (st : List ComponentStatus) (ps : List ℕ) (y : ℕ) → y < length st → Memᴰ y ps → iso (status_at (gates st ps) y) ≡ true
unfolding gates
gates-isolate st [] y h m = absurd (Memᴰ.not-nil m)
gates-isolate st (p ∷ ps) y h m =
    in-cons
    (λ q. gates-keep (gate st p) ps y (subst (λ (k : ℕ). iso (status_at (gate st k) y) ≡ true) q (gate-own st y h)))
    (λ k. gates-isolate (gate st p) ps y (omega (arith, gate-length st p)) k)
    m

gates-report : (ch : List Component) (st : List ComponentStatus) (ps : List ℕ) (y : ℕ) → iso (status_at st y) ≡ false → Memᴰ y ps → Memᴰ (ReportIsolated (id_at ch y)) (gates_say ch st ps)
unfolding gates_say
gates-report ch st [] y e m = absurd (Memᴰ.not-nil m)
gates-report ch st (p ∷ ps) y e m =
    by-test (eqb y p)
    (λ t.
    let q : y ≡ p = eqb-true y p t in
    Memᴰ.append_left (gates_say ch (gate st p) ps) (subst (λ (k : ℕ). Memᴰ (ReportIsolated (id_at ch y)) (gate_says ch st k)) q (gate-reports ch st y e)))
    (λ t.
    let n = eqb-false y p t in
    Memᴰ.append_right (gate_says ch st p) (gates-report ch (gate st p) ps y (ap iso (gate-other st p y n) ∙ e) (in-cons (λ q. absurd (n q)) (λ k. k) m)))

-- ---- the laws
-- A cascade does not stop at a component that is Isolated already: a dependent of it that is not is Isolated after the
-- cascade, and reported by it.
pub cascade-passes-isolated : (k : ℕ) (ch : List Component) (s : Sound k ch) (st : List ComponentStatus) → length st ≡ length ch
    → (p x y : ℕ) → p < length ch → Memᴰ x (cascade ch p) → iso (status_at st x) ≡ true → y < length ch → parent ch y ≡ x → iso (status_at st y) ≡ false
    → (iso (status_at (gates st (cascade ch p)) y) ≡ true) × Memᴰ (ReportIsolated (id_at ch y)) (gates_say ch st (cascade ch p))
cascade-passes-isolated k ch s st l p x y hp m held hy d e =
    let in-it = cascade-closed k ch s p hp x y m hy d in
    (gates-isolate st (cascade ch p) y (omega arith) in-it, gates-report ch st (cascade ch p) y e in-it)

-- Isolating an Isolable component leaves every other as it is, its dependents among them.
pub isolable-leaves-dependents : (ch : List Component) (es : List Effect) (i : ComponentId) (c : Core) → policy_at ch (position ch i) ≡ Isolable
    → (y : ℕ) → (y ≡ position ch i → ⊥) → status_at (corrupt ch stay es i c).core.statuses y ≡ status_at c.statuses y
unfolding gates
isolable-leaves-dependents ch es i c q y n =
    pick_p (λ (o : Out). status_at o.core.statuses y ≡ status_at c.statuses y) (iso (status_at c.statuses (position ch i))) (λ t. refl)
    (λ t. rw q (gate-other c.statuses (position ch i) y n))

-- ---- The same where a walk goes on or starts over, which changes retries and flags of the others.

-- Whoever is reported as isolated satisfies P.
abbrev Told : (ComponentId → Type 0) → List Effect → Type 0
Told P es = (j : ComponentId) → Memᴰ (ReportIsolated j) es → P j

module _ (P : ComponentId → Type 0) where
  told-nil : Told P []
  told-nil j m = absurd (Memᴰ.not-nil m)

  told-cons : (x : Effect) (xs : List Effect) → ((j : ComponentId) → ReportIsolated j ≡ x → P j) → Told P xs → Told P (x ∷ xs)
  told-cons x xs f g j m = ⊎_elim (f j) (g j) (Memᴰ.cases_cons m)

  told-append : (xs ys : List Effect) → Told P xs → Told P ys → Told P (xs ++ ys)
  told-append xs ys f g j m = ⊎_elim (f j) (g j) (Memᴰ.append_cases xs m)

  verify-told : (ch : List Component) (p : ℕ) → Told P (verify_says ch p)
  verify-told ch p =
      pick_p (Told P) (ltb p (length ch))
      (λ t. told-cons (ReadFirmware (id_at ch p)) _ (λ j e. cc)
      (told-cons (VerifyFirmware (id_at ch p)) [] (λ j e. cc) told-nil))
      (λ t. told-nil)

  quiet_told : (ch : List Component) (st : List ComponentStatus) → Told P (quiet_says ch st)
  unfolding quiet_says
  quiet_told [] st = told-nil
  quiet_told (c ∷ cs) [] = told-nil
  quiet_told (c ∷ cs) (s ∷ ss) =
      pick_p (Told P) s.released
      (λ t. told-cons (AssertReset c.id) (quiet_says cs ss) (λ j e. cc) (quiet_told cs ss))
      (λ t. quiet_told cs ss)

  -- An outcome that isolates nobody.
  record Still (c : Core) (o : Out) : Type 0 where
    same : (y : ℕ) → iso (status_at o.core.statuses y) ≡ iso (status_at c.statuses y)
    told : Told P o.said

  map_same : (g : ComponentStatus → ComponentStatus) → g fresh ≡ fresh → ((s : ComponentStatus) → iso (g s) ≡ iso s)
      → (st : List ComponentStatus) (y : ℕ) → iso (status_at (map g st) y) ≡ iso (status_at st y)
  map_same g f h st y =
      ap iso (ap (λ (d : ComponentStatus). get_or (map g st) y d) (sym f) ∙ get_or-map g st y fresh) ∙ h (status_at st y)

  retry-same : (n : ℕ) (st : List ComponentStatus) (p y : ℕ) → iso (status_at (touch (retry_is n) st p) y) ≡ iso (status_at st y)
  retry-same n [] p y = refl
  retry-same n (s ∷ st) zero zero = refl
  retry-same n (s ∷ st) zero (suc y) = refl
  retry-same n (s ∷ st) (suc p) zero = refl
  retry-same n (s ∷ st) (suc p) (suc y) = retry-same n st p y

  still-stay : (c : Core) → Still c (stay c)
  still-stay c = record { same = λ y. refl; told = told-nil }

  still-move : (ch : List Component) (c : Core) → Still c (move_on ch c)
  still-move ch c =
      let q : ℕ = seek c.statuses (suc c.cursor) in
      pick_p (Still c) (iso (status_at c.statuses c.cursor))
      (λ t. pick_p (Still c) (ltb q (length ch))
      (λ u. record { same = λ y. refl; told = verify-told ch q })
      (λ u. record { same = map_same (retry_is 0) refl (λ s. refl) c.statuses; told = told-nil }))
      (λ t. still-stay c)

  still-over : (ch : List Component) (i : ComponentId) (c : Core) → Still c (start_over ch i c)
  still-over ch i c =
      let st : List ComponentStatus = (retry_at ch i 0 c).statuses in
      let q : ℕ = seek (map quiesced st) 0 in
      record {
        same = λ y. map_same quiesced refl quiesced-iso st y ∙ retry-same 0 c.statuses (position ch i) y;
        told = told-append (quiet_says ch st) (verify_says ch q) (quiet_told ch st) (verify-told ch q);
      }

-- An outcome that isolates nobody but i, and reports nobody else.
pub record Spares (ch : List Component) (i : ComponentId) (c : Core) (o : Out) : Type 0 where
  pub others : (y : ℕ) → (y ≡ position ch i → ⊥) → iso (status_at o.core.statuses y) ≡ iso (status_at c.statuses y)
  pub named : (j : ComponentId) → Memᴰ (ReportIsolated j) o.said → j ≡ i

module _ (ch : List Component) (i : ComponentId) (h : position ch i < length ch)
    (q : policy_at ch (position ch i) ≡ Isolable) where
  abbrev Own : ComponentId → Type 0
  Own j = j ≡ i

  gate-told : (st : List ComponentStatus) → Told Own (gate_says ch st (position ch i))
  gate-told st =
      pick_p (Told Own) (iso (status_at st (position ch i))) (λ t. told-nil Own)
      (λ t. told-cons Own (AssertReset (id_at ch (position ch i))) _ (λ j e. cc)
      (told-cons Own (ReportIsolated (id_at ch (position ch i))) []
      (λ j e. let z : j ≡ id_at ch (position ch i) = cc in z ∙ position-holds ch i h)
      (told-nil Own)))

  spares-gate : (k : Core → Out) (c : Core) → ((d : Core) → Still Own d (k d))
      → Spares ch i c (gate_then ch (position ch i ∷ []) k c)
  unfolding gates gates_say
  spares-gate k c f =
      let d : Core = statuses_are (gate c.statuses (position ch i)) c in
      let es : List Effect = gate_says ch c.statuses (position ch i) in
      let gated : Told Own (es ++ []) = told-append Own es [] (gate-told c.statuses) (told-nil Own) in
      record {
        others = λ y n. (f d).same y ∙ ap iso (gate-other c.statuses (position ch i) y n);
        named = told-append Own (es ++ []) (k d).said gated (f d).told;
      }

  spares-corrupt : (k : Core → Out) (es : List Effect) (c : Core) → ((d : Core) → Still Own d (k d))
      → Spares ch i c (corrupt ch k es i c)
  spares-corrupt k es c f =
      pick_p (Spares ch i c) (iso (status_at c.statuses (position ch i)))
      (λ t. record { others = λ y n. (f c).same y; named = (f c).told })
      (λ t. rw q (spares-gate k c f))

  -- Corruption of an Isolable component: where the state stays,
  pub isolable-alone : (es : List Effect) (c : Core) → Spares ch i c (corrupt ch stay es i c)
  isolable-alone es c = spares-corrupt stay es c (still-stay Own)

  -- in the two walking states,
  pub isolable-alone-walking : (es : List Effect) (c : Core) → Spares ch i c (corrupt ch (move_on ch) es i c)
  isolable-alone-walking es c = spares-corrupt (move_on ch) es c (still-move Own ch)

  -- and where its recovery is exhausted.
  pub isolable-alone-exhausted : (c : Core) → Spares ch i c (exhausted ch i c)
  isolable-alone-exhausted c = rw q (spares-gate (start_over ch i) c (still-over Own ch i))
