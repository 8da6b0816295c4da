-- A list is accepted exactly where it is sound: the theorem `accepted`.
use Rattle.std.specs.Prelude.{Option, None, Some, Ok, Err}
use Prim.Native.Nat.{ℕ, zero, suc, ◌+◌, ◌≤◌, ◌<◌}
use mathlib.Core.Path.{◌≡◌, refl, sym, ap}
use mathlib.Core.Logic.{◌↔◌}
use mathlib.Core.Bool.{Bool, true, false}
use mathlib.Core.List.{List, [], ◌∷◌}
use native.Mathlib.Nat.{add-zero, zero-add}
use native.Mathlib.Omega.{arith}
use lib.ListN.{length}
use lib.Dec.{eqb, ltb}
use borrow.Author.Tests.{ne_eqb, lt-ltb, le-ltb, eqb-false, ltb-true, ltb-false}
use Rattle.model.specs.declared.ComponentId.{ComponentId}
use Rattle.model.specs.declared.Component.{Component}
use Rattle.components.specs.declared.ChainError.{ChainError}
use Rattle.components.specs.declared.ChainError.TheVariants.{Empty, TooLong, DuplicateId, UnknownDependency, ForwardDependency}
use Rattle.model.specs.Vocabulary.{pick}
use Rattle.components.specs.Chain.{position, new_test, link_test, new_ids, links, at, id_at, depends_at, or_else, first_from, first, verdict_of, refuses, Sound, Verdict, no_refusal}
use Rattle.components.proofs.Lookup.{position-holds, position-least, own-place, parent-earlier}

-- A refusal is no acceptance.
never {ℓ} : {A : Type ℓ} (e : ChainError) → Err e ≡ no_refusal → A
never e q = let z : ◌≡◌ {A = ℕ} 0 1 = cc in absurd (omega arith)

or-else : (v w : Verdict) → or_else v w ≡ no_refusal → (v ≡ no_refusal) × (w ≡ no_refusal)
or-else (Ok u) w e = (refl, e)
or-else (Err x) w e = never x e

-- Where a choice between a refusal and a verdict accepts, the test failed and the verdict accepts.
refused-first : (t : Bool) (x : ChainError) (w : Verdict) → pick t (Err x) w ≡ no_refusal → (t ≡ false) × (w ≡ no_refusal)
refused-first true x w e = never x e
refused-first false x w e = (refl, e)

-- ---- a question put to one entry after the other
module _ (t : ℕ → Component → Verdict) where
  asked-all : (ch : List Component) (p : ℕ) → first_from t p ch ≡ no_refusal → (k : ℕ) → k < length ch → t (p + k) (at ch k) ≡ no_refusal
  unfolding first_from
  asked-all [] p e k h = absurd (omega arith)
  asked-all (c ∷ cs) p e zero h = rw add-zero (or-else (t p c) (first_from t (p + 1) cs) e).0
  asked-all (c ∷ cs) p e (suc k) h =
      let s : p + suc k ≡ p + 1 + k = omega arith in
      rw s (asked-all cs (p + 1) (or-else (t p c) (first_from t (p + 1) cs) e).1 k (omega arith))

  asked-if : (ch : List Component) (p : ℕ) → ((k : ℕ) → k < length ch → t (p + k) (at ch k) ≡ no_refusal) → first_from t p ch ≡ no_refusal
  unfolding first_from
  asked-if [] p f = refl
  asked-if (c ∷ cs) p f = rw (rw add-zero at (f 0 (omega arith))) (asked-if cs (p + 1) (λ k h. let s : p + suc k ≡ p + 1 + k = omega arith in rw s at (f (suc k) (omega arith))))

  all-entries : (ch : List Component) → first ch t ≡ no_refusal → (k : ℕ) → k < length ch → t k (at ch k) ≡ no_refusal
  all-entries ch e k h = rw zero-add at (asked-all ch 0 e k h)

  each-entry : (ch : List Component) → ((k : ℕ) → k < length ch → t k (at ch k) ≡ no_refusal) → first ch t ≡ no_refusal
  each-entry ch f = asked-if ch 0 (λ k h. rw zero-add (f k h))

-- ---- what the questions say of one entry
module _ (ch : List Component) (p : ℕ) (id : ComponentId) where
  new-only : new_test ch p id ≡ no_refusal → p ≤ position ch id
  new-only e = ltb-false (position ch id) p (refused-first (ltb (position ch id) p) (DuplicateId id) no_refusal e).0

  new-if : p ≤ position ch id → new_test ch p id ≡ no_refusal
  new-if h = rw (le-ltb (position ch id) p h)

  link-only : (d : ComponentId) → link_test ch p id (Some d) ≡ no_refusal → (position ch d < length ch) × (position ch d < p)
  link-only d = by_tests (ltb (position ch d) (length ch)) (ltb (position ch d) p) refl refl
    where
      by_tests : (a b : Bool) → ltb (position ch d) (length ch) ≡ a → ltb (position ch d) p ≡ b
          → pick a (pick b no_refusal (Err (ForwardDependency id d))) (Err (UnknownDependency id d)) ≡ no_refusal
          → (position ch d < length ch) × (position ch d < p)
      by_tests true true s t e = (ltb-true (position ch d) (length ch) s, ltb-true (position ch d) p t)
      by_tests true false s t e = never (ForwardDependency id d) e
      by_tests false b s t e = never (UnknownDependency id d) e

  link-if : (d : ComponentId) → position ch d < length ch → position ch d < p → link_test ch p id (Some d) ≡ no_refusal
  link-if d l h = rw (lt-ltb (position ch d) (length ch) l, lt-ltb (position ch d) p h)

-- ---- the theorem
module _ (n : ℕ) (ch : List Component) where
  apart : first ch (new_ids ch) ≡ no_refusal → (i j : ℕ) → i < j → j < length ch → id_at ch i ≡ id_at ch j → ⊥
  apart e i j l h q =
      let a = new-only ch j (id_at ch j) (all-entries (new_ids ch) ch e j h) in
      let b = position-least ch (id_at ch j) i (omega arith) q in
      omega arith

  distinct : first ch (new_ids ch) ≡ no_refusal → (i j : ℕ) → i < length ch → j < length ch → id_at ch i ≡ id_at ch j → i ≡ j
  distinct e i j hi hj q = by_tests (ltb i j) (ltb j i) refl refl
    where
      by_tests : (a b : Bool) → ltb i j ≡ a → ltb j i ≡ b → i ≡ j
      by_tests true b s t = absurd (apart e i j (ltb-true i j s) hj q)
      by_tests false true s t = absurd (apart e j i (ltb-true j i t) hi (sym q))
      by_tests false false s t = omega (arith, ltb-false i j s, ltb-false j i t)

  ordered : first ch (links ch) ≡ no_refusal → (i : ℕ) (d : ComponentId) → i < length ch → depends_at ch i ≡ Some d → (j : ℕ) × (j < i) × (id_at ch j ≡ d)
  ordered e i d h q =
      let l : link_test ch i (id_at ch i) (Some d) ≡ no_refusal = rw q at (all-entries (links ch) ch e i h) in
      let o = link-only ch i (id_at ch i) d l in
      (position ch d, o.1, position-holds ch d o.0)

  only-sound : verdict_of n ch ≡ no_refusal → Sound n ch
  only-sound e =
      let a = refused-first (eqb n 0) Empty (pick (ltb 255 n) (Err TooLong) (or_else (first ch (new_ids ch)) (first ch (links ch)))) e in
      let b = refused-first (ltb 255 n) TooLong (or_else (first ch (new_ids ch)) (first ch (links ch))) a.1 in
      let c = or-else (first ch (new_ids ch)) (first ch (links ch)) b.1 in
      record {
        some = omega (arith, eqb-false n 0 a.0);
        few = ltb-false 255 n b.0;
        distinct = distinct c.0;
        ordered = ordered c.1;
      }

  new-entry : Sound n ch → (k : ℕ) → k < length ch → new_test ch k (id_at ch k) ≡ no_refusal
  new-entry s k h = new-if ch k (id_at ch k) (omega (arith, own-place n ch s k h))

  linked-entry : Sound n ch → (k : ℕ) → k < length ch → link_test ch k (id_at ch k) (depends_at ch k) ≡ no_refusal
  linked-entry s k h = by_cases (depends_at ch k) refl
    where
      by_cases : (o : Option ComponentId) → depends_at ch k ≡ o → link_test ch k (id_at ch k) o ≡ no_refusal
      by_cases None q = refl
      by_cases (Some d) q =
          let l = parent-earlier n ch s k h d q in
          link-if ch k (id_at ch k) d (omega arith) l

  if-sound : Sound n ch → verdict_of n ch ≡ no_refusal
  if-sound s =
      let z : n ≡ 0 → ⊥ = λ q. omega (arith, s.some) in
      rw (ne_eqb n 0 z, le-ltb 255 n s.few, each-entry (new_ids ch) ch (new-entry s)) (each-entry (links ch) ch (linked-entry s))

  -- A list of n entries is accepted exactly where it is not empty, has at most 255 entries, its ids are distinct, and
  -- each dependency stands strictly earlier.
  pub accepted : (verdict_of n ch ≡ no_refusal) ↔ Sound n ch
  accepted = (only-sound, if-sound)

  not-refused : (v : Verdict) → refuses v ≡ false → v ≡ no_refusal
  not-refused (Ok u) e = refl
  not-refused (Err x) e = cc

  -- The same where the verdict is tested.
  pub accepted-sound : refuses (verdict_of n ch) ≡ false → Sound n ch
  accepted-sound e = only-sound (not-refused (verdict_of n ch) e)

  pub sound-accepted : Sound n ch → refuses (verdict_of n ch) ≡ false
  sound-accepted s = ap refuses (if-sound s)
