-- No position stands twice in a cascade, so that it is no longer than the chain: a position is reached only from its one dependency, at most as often as that one, and the root from nothing.
use mathlib.Core.Path.{◌≡◌, refl, sym, ◌∙◌, ap}
use mathlib.Core.Bool.{Bool, true, false}
use mathlib.Core.List.Memᴰ
use mathlib.Core.List.{List, [], ◌∷◌, ◌++◌, Memᴰ}
use Prim.Native.Nat.{ℕ, zero, suc, ◌+◌, ◌≤◌, ◌<◌}
use native.Mathlib.Omega.{arith}
use lib.Dec.{eqb}
use lib.ListN.{length, get_or}
use borrow.Author.Tests.{eqb-true, eqb-false, eq-eqb}
use Rattle.model.specs.declared.Component.{Component}
use Rattle.model.specs.Vocabulary.{pick}
use Rattle.components.specs.Chain.{Sound}
use Rattle.model.proofs.Pick.{pick_p}
use Rattle.components.specs.Links.{parent}
use Rattle.holds.specs.Cascade.{below, children_in, children_of, spread, cascade}
use Rattle.holds.proofs.Below.{by-test, Within, in-append, within-one, below-within}
use Rattle.holds.proofs.Closed.{level-only, level-within, parent-before, cascade-within}

abbrev one : Bool → ℕ
one t = pick t 1 0

-- How often a number stands in a list.
unfoldable pub times : ℕ → List ℕ → ℕ
times y [] = 0
times y (x ∷ xs) = one (eqb x y) + times y xs

times-append : (y : ℕ) (s t : List ℕ) → times y (s ++ t) ≡ times y s + times y t
unfolding times
times-append y [] t = omega arith
times-append y (x ∷ s) t = omega (arith, times-append y s t)

at_most_one : (t : Bool) → one t ≤ 1
at_most_one true = omega arith
at_most_one false = omega arith

-- A number that no element equals does not stand in the list.
times_none : (y : ℕ) (l : List ℕ) → ((z : ℕ) → Memᴰ z l → z ≡ y → ⊥) → times y l ≡ 0
unfolding times
times_none y [] h = refl
times_none y (x ∷ l) h =
    pick_p (λ (n : ℕ). n + times y l ≡ 0) (eqb x y)
    (λ t. absurd (h x (Memᴰ.head refl) (eqb-true x y t)))
    (λ t. omega (arith, times_none y l (λ z m. h z (Memᴰ.tail m))))

-- ---- a list of numbers below n in which none stands twice has at most n elements
unfoldable sum : ℕ → (ℕ → ℕ) → ℕ
sum zero f = 0
sum (suc n) f = sum n f + f n

sum-grows : (n : ℕ) (f g : ℕ → ℕ) → ((y : ℕ) → f y ≤ g y) → sum n f ≤ sum n g
unfolding sum
sum-grows zero f g h = omega arith
sum-grows (suc n) f g h = omega (arith, sum-grows n f g h, h n)

sum_ones : (n : ℕ) (f : ℕ → ℕ) → ((y : ℕ) → f y ≤ 1) → sum n f ≤ n
unfolding sum
sum_ones zero f h = omega arith
sum_ones (suc n) f h = omega (arith, sum_ones n f h, h n)

sum_more : (n x : ℕ) (f : ℕ → ℕ) → x < n → suc (sum n f) ≤ sum n (λ y. one (eqb x y) + f y)
unfolding sum
sum_more zero x f h = absurd (omega arith)
sum_more (suc n) x f h =
    by-test (eqb x n)
    (λ t. rw t (omega (arith, sum-grows n f (λ y. one (eqb x y) + f y) (λ y. omega arith))))
    (λ t. let d = eqb-false x n t in omega (arith, sum_more n x f (omega arith)))

length-sum : (n : ℕ) (l : List ℕ) → Within n l → length l ≤ sum n (λ y. times y l)
unfolding times
length-sum n [] w = omega arith
length-sum n (x ∷ l) w =
    omega (
      arith,
      length-sum n l (λ z m. w z (Memᴰ.tail m)),
      sum_more n x (λ y. times y l) (w x (Memᴰ.head refl)),
    )

-- ---- where no number stands twice, no two places hold the same
times-at : (l : List ℕ) (j : ℕ) → j < length l → 1 ≤ times (get_or l j 0) l
unfolding times
times-at [] j h = absurd (omega arith)
times-at (x ∷ l) zero h = rw (eq-eqb x x refl) (omega arith)
times-at (x ∷ l) (suc j) h = omega (arith, times-at l j (omega arith))

not-again : (x : ℕ) (l : List ℕ) → times x (x ∷ l) ≤ 1 → (j : ℕ) → j < length l → x ≡ get_or l j 0 → ⊥
unfolding times
not-again x l u j h e =
    let a : one (eqb x x) ≡ 1 = rw (eq-eqb x x refl) in
    let b : 1 ≤ times x l = rw (sym e) at (times-at l j h) in
    omega arith

places-apart : (l : List ℕ) → ((y : ℕ) → times y l ≤ 1) → (i j : ℕ) → i < length l → j < length l → get_or l i 0 ≡ get_or l j 0 → i ≡ j
unfolding times
places-apart [] u i j a b e = absurd (omega arith)
places-apart (x ∷ l) u zero zero a b e = refl
places-apart (x ∷ l) u zero (suc j) a b e = absurd (not-again x l (u x) j (omega arith) e)
places-apart (x ∷ l) u (suc i) zero a b e = absurd (not-again x l (u x) i (omega arith) (sym e))
places-apart (x ∷ l) u (suc i) (suc j) a b e = ap suc (places-apart l (λ y. omega (arith, u y)) i j (omega arith) (omega arith) e)

times_below : (y n : ℕ) → times y (below n) ≤ 1
unfolding below times
times_below y zero = omega arith
times_below y (suc n) =
    by-test (eqb n y)
    (λ t. let q : n ≡ y = eqb-true n y t in
    omega (
      arith,
      times-append y (below n) (n ∷ []),
      times_none y (below n) (λ z m e. omega (arith, below-within n z m)),
      at_most_one (eqb n y),
    ))
    (λ t. let e : one (eqb n y) ≡ 0 = rw t in omega (arith, times-append y (below n) (n ∷ []), times_below y n))

-- ---- a position is reached at most as often as what it depends on
module _ (ch : List Component) where
  times-children : (y h : ℕ) (ps : List ℕ) → times y (children_in ch h ps) ≤ times y ps
  unfolding children_in times
  times-children y h [] = omega arith
  times-children y h (p ∷ ps) =
      pick_p (λ (l : List ℕ). times y l ≤ one (eqb p y) + times y ps) (eqb (parent ch p) h)
      (λ t. omega (arith, times-children y h ps))
      (λ t. omega (arith, times-children y h ps))

  times-stranger : (y h : ℕ) (ps : List ℕ) → (parent ch y ≡ h → ⊥) → times y (children_in ch h ps) ≡ 0
  unfolding children_in times
  times-stranger y h [] k = refl
  times-stranger y h (p ∷ ps) k =
      pick_p (λ (l : List ℕ). times y l ≡ 0) (eqb (parent ch p) h)
      (λ t.
      pick_p (λ (n : ℕ). n + times y (children_in ch h ps) ≡ 0) (eqb p y)
      (λ u. absurd (k (ap (parent ch) (sym (eqb-true p y u)) ∙ eqb-true (parent ch p) h t)))
      (λ u. omega (arith, times-stranger y h ps k)))
      (λ t. times-stranger y h ps k)

  times-child : (y h : ℕ) → times y (children_in ch h (below (length ch))) ≤ one (eqb h (parent ch y))
  times-child y h =
      pick_p (λ (n : ℕ). times y (children_in ch h (below (length ch))) ≤ n) (eqb h (parent ch y))
      (λ t. omega (arith, times-children y h (below (length ch)), times_below y (length ch)))
      (λ t. omega (arith, times-stranger y h (below (length ch)) (λ q. eqb-false h (parent ch y) t (sym q))))

  times-level : (y : ℕ) (hs : List ℕ) → times y (children_of ch hs) ≤ times (parent ch y) hs
  unfolding children_of times
  times-level y [] = omega arith
  times-level y (h ∷ hs) =
      omega (
        arith,
        times-append y (children_in ch h (below (length ch))) (children_of ch hs),
        times-child y h,
        times-level y hs,
      )

  times-spread : (y n : ℕ) (hs : List ℕ) → times y (spread ch n (children_of ch hs)) ≤ times (parent ch y) (spread ch n hs)
  unfolding spread
  times-spread y zero hs = times-level y hs
  times-spread y (suc n) hs =
      omega (
        arith,
        times-append y (children_of ch hs) (spread ch n (children_of ch (children_of ch hs))),
        times-append (parent ch y) hs (spread ch n (children_of ch hs)),
        times-level y hs,
        times-spread y n (children_of ch hs),
      )

-- ---- and so at most once
module _ (k : ℕ) (ch : List Component) (s : Sound k ch) where
  -- Whatever is reached from positions at or after p stands after p.
  level-after : (p : ℕ) (hs : List ℕ) → Within (length ch) hs → ((z : ℕ) → Memᴰ z hs → p ≤ z) → (z : ℕ) → Memᴰ z (children_of ch hs) → p < z
  level-after p hs w h z m =
      let c = level-only ch z hs m in
      omega (arith, h (parent ch z) c.1, parent-before k ch s z c.0 (w (parent ch z) c.1))

  spread-after : (p n : ℕ) (hs : List ℕ) → Within (length ch) hs → ((z : ℕ) → Memᴰ z hs → p < z) → (z : ℕ) → Memᴰ z (spread ch n hs) → p < z
  unfolding spread
  spread-after p zero hs w h z m = h z m
  spread-after p (suc n) hs w h z m =
      in-append hs (h z)
      (spread-after p n (children_of ch hs) (level-within ch hs) (level-after p hs w (λ x l. let a = h x l in omega arith)) z) m

  spread-once : (p : ℕ) → p < length ch → (n y : ℕ) → times y (spread ch n (p ∷ [])) ≤ 1
  unfolding spread times
  spread-once p b zero y = omega (arith, at_most_one (eqb p y))
  spread-once p b (suc n) y =
      by-test (eqb p y)
      (λ t. let q : p ≡ y = eqb-true p y t in
      omega (arith, at_most_one (eqb p y), times_none y (spread ch n (children_of ch (p ∷ []))) (λ z m e. omega (arith, later z m))))
      (λ t. let e : one (eqb p y) ≡ 0 = rw t in omega (arith, times-spread ch y n (p ∷ []), spread-once p b n (parent ch y)))
    where
      later : (z : ℕ) → Memᴰ z (spread ch n (children_of ch (p ∷ []))) → p < z
      later =
          spread-after p n (children_of ch (p ∷ [])) (level-within ch (p ∷ []))
          (level-after p (p ∷ []) (within-one (length ch) p b) (λ z l. let r : z ≡ p = Memᴰ.eq_of_singleton l in omega arith))

  module _ (p : ℕ) (b : p < length ch) where
    -- Each position stands in a cascade at most once,
    pub cascade-times : (y : ℕ) → times y (cascade ch p) ≤ 1
    unfolding cascade
    cascade-times = spread-once p b _

    -- which is to say that no two places hold the same,
    pub cascade-once : (i j : ℕ) → i < length (cascade ch p) → j < length (cascade ch p) → get_or (cascade ch p) i 0 ≡ get_or (cascade ch p) j 0 → i ≡ j
    cascade-once = places-apart (cascade ch p) cascade-times

    -- and it is no longer than the chain.
    pub cascade-length : length (cascade ch p) ≤ length ch
    cascade-length =
        omega (
          arith,
          length-sum (length ch) (cascade ch p) (cascade-within ch p b),
          sum_ones (length ch) (λ y. times y (cascade ch p)) cascade-times,
        )
