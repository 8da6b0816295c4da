-- Membership by cases, and the numbers below n: each of them stands in `below n`, and nothing else.
use mathlib.Core.Path.{◌≡◌, refl}
use mathlib.Core.Logic.{⊎_elim}
use mathlib.Core.Bool.{Bool, true, false}
use mathlib.Core.List.Memᴰ
use mathlib.Core.List.{List, [], ◌∷◌, ◌++◌, Memᴰ}
use Prim.Native.Nat.{ℕ, zero, suc, ◌<◌}
use native.Mathlib.Omega.{arith}
use lib.Dec.{eqb}
use borrow.Author.Tests.{eqb-true, eqb-false}
use Rattle.holds.specs.Cascade.{below}

pub by-test {ℓ} : {A : Type ℓ} (t : Bool) → (t ≡ true → A) → (t ≡ false → A) → A
by-test true f g = f refl
by-test false f g = g refl

-- Every position of a list is below n.
abbrev pub Within : ℕ → List ℕ → Type 0
Within n ps = (q : ℕ) → Memᴰ q ps → q < n

pub in-cons {ℓ} : {C : Type ℓ} {a b : ℕ} {l : List ℕ} → (a ≡ b → C) → (Memᴰ a l → C) → Memᴰ a (b ∷ l) → C
in-cons f g m = ⊎_elim f g (Memᴰ.cases_cons m)

pub in-append {ℓ} : {C : Type ℓ} {a : ℕ} (s : List ℕ) {t : List ℕ} → (Memᴰ a s → C) → (Memᴰ a t → C) → Memᴰ a (s ++ t) → C
in-append s f g m = ⊎_elim f g (Memᴰ.append_cases s m)

pub within-one : (n p : ℕ) → p < n → Within n (p ∷ [])
within-one n p h q m = let e : q ≡ p = Memᴰ.eq_of_singleton m in omega arith

pub below-has : (n i : ℕ) → i < n → Memᴰ i (below n)
unfolding below
below-has zero i h = absurd (omega arith)
below-has (suc n) i h =
    by-test (eqb i n)
    (λ t. Memᴰ.append_right (below n) (Memᴰ.head (eqb-true i n t)))
    (λ t. let d = eqb-false i n t in Memᴰ.append_left (n ∷ []) (below-has n i (omega arith)))

pub below-within : (n : ℕ) → Within n (below n)
unfolding below
below-within zero q m = absurd (Memᴰ.not-nil m)
below-within (suc n) q m =
    in-append (below n)
    (λ k. let h = below-within n q k in omega arith)
    (λ k. let e : q ≡ n = Memᴰ.eq_of_singleton k in omega arith) m
