-- A cascade stays within the chain, holds its root and is closed under direct dependents: each level stands later than the one before, so that as many levels as there are components reach the end.
use Rattle.std.specs.Prelude.{Option, None, Some}
use Rattle.model.specs.declared.ComponentId.{ComponentId}
use mathlib.Core.Path.{◌≡◌, refl, sym, ◌∙◌, ap}
use mathlib.Core.Logic.{◌⊎◌, inl, inr, ⊎_elim}
use mathlib.Core.List.Memᴰ
use mathlib.Core.List.{List, [], ◌∷◌, Memᴰ}
use Prim.Native.Nat.{ℕ, zero, suc, ◌+◌, ◌≤◌, ◌<◌}
use native.Mathlib.Omega.{arith}
use lib.Dec.{eqb}
use lib.ListN.{length}
use borrow.Author.Tests.{eqb-true, eqb-false}
use Rattle.model.specs.declared.Component.{Component}
use Rattle.components.specs.Chain.{depends_at, Sound}
use Rattle.model.proofs.Pick.{pick_p}
use Rattle.components.proofs.Lookup.{parent-earlier}
use Rattle.components.specs.Links.{place, parent}
use Rattle.holds.specs.Cascade.{below, children_in, children_of, spread, cascade}
use Rattle.holds.proofs.Below.{Within, in-cons, in-append, within-one, below-has, below-within}

-- ---- direct dependents: those in the list that depend on h, and no others
module _ (ch : List Component) where
  children-have : (h y : ℕ) (ps : List ℕ) → Memᴰ y ps → parent ch y ≡ h → Memᴰ y (children_in ch h ps)
  unfolding children_in
  children-have h y [] m e = m
  children-have h y (p ∷ ps) m e =
      pick_p (Memᴰ y) (eqb (parent ch p) h)
      (λ t. in-cons Memᴰ.head (λ k. Memᴰ.tail (children-have h y ps k e)) m)
      (λ t. in-cons (λ q. absurd (eqb-false (parent ch p) h t (ap (parent ch) (sym q) ∙ e))) (λ k. children-have h y ps k e) m)

  children-only : (h y : ℕ) (ps : List ℕ) → Memᴰ y (children_in ch h ps) → Memᴰ y ps × (parent ch y ≡ h)
  unfolding children_in
  children-only h y [] = λ m. absurd (Memᴰ.not-nil m)
  children-only h y (p ∷ ps) =
      pick_p (λ (l : List ℕ). Memᴰ y l → Memᴰ y (p ∷ ps) × (parent ch y ≡ h)) (eqb (parent ch p) h)
      (λ t m. in-cons (λ q. (Memᴰ.head q, ap (parent ch) q ∙ eqb-true (parent ch p) h t)) (λ k. later (children-only h y ps k)) m)
      (λ t m. later (children-only h y ps m))
    where
      later : Memᴰ y ps × (parent ch y ≡ h) → Memᴰ y (p ∷ ps) × (parent ch y ≡ h)
      later k = (Memᴰ.tail k.0, k.1)

  level-has : (x y : ℕ) (hs : List ℕ) → Memᴰ x hs → y < length ch → parent ch y ≡ x → Memᴰ y (children_of ch hs)
  unfolding children_of
  level-has x y [] m b e = absurd (Memᴰ.not-nil m)
  level-has x y (h ∷ hs) m b e =
      in-cons
      (λ q. Memᴰ.append_left (children_of ch hs) (children-have h y (below (length ch)) (below-has (length ch) y b) (e ∙ q)))
      (λ k. Memᴰ.append_right (children_in ch h (below (length ch))) (level-has x y hs k b e)) m

  -- A position of the next level is in the chain, and its dependency in this level.
  pub level-only : (y : ℕ) (hs : List ℕ) → Memᴰ y (children_of ch hs) → (y < length ch) × Memᴰ (parent ch y) hs
  unfolding children_of
  level-only y [] m = absurd (Memᴰ.not-nil m)
  level-only y (h ∷ hs) m =
      in-append (children_in ch h (below (length ch)))
      (λ k. here (children-only h y (below (length ch)) k))
      (λ k. later (level-only y hs k)) m
    where
      here : Memᴰ y (below (length ch)) × (parent ch y ≡ h) → (y < length ch) × Memᴰ (parent ch y) (h ∷ hs)
      here k = (below-within (length ch) y k.0, Memᴰ.head k.1)

      later : (y < length ch) × Memᴰ (parent ch y) hs → (y < length ch) × Memᴰ (parent ch y) (h ∷ hs)
      later k = (k.0, Memᴰ.tail k.1)

  pub level-within : (hs : List ℕ) → Within (length ch) (children_of ch hs)
  level-within hs z m = (level-only z hs m).0

  -- ---- levels
  spread-has : (x n : ℕ) (hs : List ℕ) → Memᴰ x hs → Memᴰ x (spread ch n hs)
  unfolding spread
  spread-has x zero hs m = m
  spread-has x (suc n) hs m = Memᴰ.append_left (spread ch n (children_of ch hs)) m

  spread-within : (n : ℕ) (hs : List ℕ) → Within (length ch) hs → Within (length ch) (spread ch n hs)
  unfolding spread
  spread-within zero hs w q m = w q m
  spread-within (suc n) hs w q m = in-append hs (w q) (spread-within n (children_of ch hs) (level-within hs) q) m

  -- Every position in a cascade is one of the chain.
  pub cascade-within : (p : ℕ) → p < length ch → Within (length ch) (cascade ch p)
  unfolding cascade
  cascade-within p b = spread-within _ (p ∷ []) (within-one (length ch) p b)

  -- What is reached is reached from its dependency.
  spread-from : (x n : ℕ) (hs : List ℕ) → Memᴰ x (spread ch n hs) → Memᴰ x hs ⊎ Memᴰ (parent ch x) (spread ch n hs)
  unfolding spread
  spread-from x zero hs m = inl m
  spread-from x (suc n) hs m =
      in-append hs inl
      (λ c.
      ⊎_elim
      (λ d. inr (Memᴰ.append_left (spread ch n (children_of ch hs)) (level-only x hs d).1))
      (λ d. inr (Memᴰ.append_right hs d))
      (spread-from x n (children_of ch hs) c)) m

-- A list of positions of the chain, all among its last n.
abbrev pub Late : List Component → ℕ → List ℕ → Type 0
Late ch n l = (z : ℕ) → Memᴰ z l → (z < length ch) × (length ch ≤ z + n)

module _ (k : ℕ) (ch : List Component) (s : Sound k ch) where
  -- In a sound chain a dependency that is in the chain stands strictly earlier.
  pub parent-before : (y : ℕ) → y < length ch → parent ch y < length ch → parent ch y < y
  parent-before y b h = by_cases (depends_at ch y) refl
    where
      by_cases : (o : Option ComponentId) → depends_at ch y ≡ o → parent ch y < y
      by_cases None e = let q : parent ch y ≡ length ch = ap (place ch) e in absurd (omega arith)
      by_cases (Some d) e = let q = ap (place ch) e in omega (arith, q, parent-earlier k ch s y b d e)

  -- The next level stands later by one.
  pub level-late : (n : ℕ) (hs : List ℕ) → Late ch (suc n) hs → Late ch n (children_of ch hs)
  level-late n hs d z m =
      let c = level-only ch z hs m in
      let e = d (parent ch z) c.1 in
      (c.0, omega (arith, e.1, parent-before z c.0 e.0))

  -- For a list among the last n, n levels are enough.
  spread-closed : (n : ℕ) (hs : List ℕ) → Late ch n hs → (y : ℕ) → y < length ch → Memᴰ (parent ch y) (spread ch n hs) → Memᴰ y (spread ch n hs)
  unfolding spread
  spread-closed zero hs d y b m = let e = d (parent ch y) m in absurd (omega (arith, e.0, e.1))
  spread-closed (suc n) hs d y b m =
      Memᴰ.append_right hs
      (in-append hs
      (λ c. spread-has ch y n (children_of ch hs) (level-has ch (parent ch y) y hs c b refl))
      (spread-closed n (children_of ch hs) (level-late n hs d) y b) m)

  module _ (p : ℕ) (b : p < length ch) where
    pub root-late : Late ch (length ch) (p ∷ [])
    root-late z m = (within-one (length ch) p b z m, omega arith)

    -- The root is in it.
    pub cascade-root : Memᴰ p (cascade ch p)
    unfolding cascade
    cascade-root = spread-has ch p _ (p ∷ []) (Memᴰ.head refl)

    -- With a component it holds each that depends on it directly.
    pub cascade-closed : (x y : ℕ) → Memᴰ x (cascade ch p) → y < length ch → parent ch y ≡ x → Memᴰ y (cascade ch p)
    unfolding cascade
    cascade-closed x y m h e = spread-closed _ (p ∷ []) root-late y h (Memᴰ.cast e m)

    -- Each but the root is in it because what it depends on is.
    pub cascade-from : (x : ℕ) → Memᴰ x (cascade ch p) → (x ≡ p) ⊎ Memᴰ (parent ch x) (cascade ch p)
    unfolding cascade
    cascade-from x m = ⊎_elim (λ c. inl (Memᴰ.eq_of_singleton c)) inr (spread-from ch x _ (p ∷ []) m)
