-- A text that begins with one, two or three digits and a byte that ends them begins with the decimal of the number that these give.
use mathlib.Core.Path.{◌≡◌, refl, sym, ap, ◌∙◌}
use mathlib.Core.List.{List, [], ◌∷◌, ◌++◌}
use Prim.Native.Nat.{ℕ, ◌+◌, ◌*◌, ◌/◌, ◌%◌, ◌<◌}
use native.Mathlib.Omega.{arith}
use Rattle.text.specs.Text.{decimal}
use Rattle.text.proofs.Decimal.{one-digit, more-digits}

one : (n : ℕ) → n < 10 → decimal n ≡ (48 + n) ∷ []
one n h = let e : n % 10 ≡ n = omega arith in sym (one-digit n h) ∙ ap (λ (d : ℕ). (48 + d) ∷ []) e

more : (n m d : ℕ) → n ≡ m * 10 + d → 0 < m → d < 10 → n < 256 → decimal n ≡ decimal m ++ (48 + d) ∷ []
more n m d e h f g =
    let p : n / 10 ≡ m = omega arith in
    let q : n % 10 ≡ d = omega arith in
    sym (more-digits n (omega arith) (omega arith)) ∙ (λ j. decimal (p j) ++ (48 + q j) ∷ [])

two : (a b : ℕ) → 0 < a → a < 10 → b < 10 → decimal (a * 10 + b) ≡ (48 + a) ∷ (48 + b) ∷ []
two a b f g h = more (a * 10 + b) a b refl f h (omega arith) ∙ ap (λ (t : List ℕ). t ++ (48 + b) ∷ []) (one a g)

module _ {l l₁ r : List ℕ} {a : ℕ} (f : a < 10) (p : l ≡ (48 + a) ∷ l₁) where
  pub ended-one : {z : ℕ} → l₁ ≡ z ∷ r → l ≡ decimal a ++ z ∷ r
  ended-one q = rw (one a f) (p ∙ ap (λ (t : List ℕ). (48 + a) ∷ t) q)

module _ {l l₁ l₂ : List ℕ} {a b : ℕ} (s : 0 < a) (f : a < 10) (g : b < 10) (p : l ≡ (48 + a) ∷ l₁) (q : l₁ ≡ (48 + b) ∷ l₂) where
  both : l ≡ (48 + a) ∷ (48 + b) ∷ l₂
  both = p ∙ ap (λ (t : List ℕ). (48 + a) ∷ t) q

  pub ended-two : {z : ℕ} {r : List ℕ} → l₂ ≡ z ∷ r → l ≡ decimal (a * 10 + b) ++ z ∷ r
  ended-two {z} {r} e = rw (two a b s f g) (both ∙ ap (λ (t : List ℕ). (48 + a) ∷ (48 + b) ∷ t) e)

  pub ended-three : {z : ℕ} {l₃ r : List ℕ} {c n : ℕ} → c < 10 → n < 256 → n ≡ (a * 10 + b) * 10 + c → l₂ ≡ (48 + c) ∷ l₃ → l₃ ≡ z ∷ r → l ≡ decimal n ++ z ∷ r
  ended-three {z} {l₃} {r} {c} {n} h i e t u =
      rw (more n (a * 10 + b) c e (omega arith) h i, two a b s f g)
      (both ∙ ap (λ (x : List ℕ). (48 + a) ∷ (48 + b) ∷ x) (t ∙ ap (λ (x : List ℕ). (48 + c) ∷ x) u))
