-- A text and a name, byte by byte, as a match on byte strings compares them.
use mathlib.Core.Path.{◌≡◌, refl}
use mathlib.Core.Bool.{Bool, true, false}
use mathlib.Core.Logic.{◌⊎◌, inl, inr}
use mathlib.Core.List.{List, [], ◌∷◌}
use Prim.Native.Nat.{ℕ, suc, ◌≤◌, ◌<◌}
use native.Mathlib.Omega.{arith}
use borrow.Author.Tests.{ltb-true, ltb-false, eqb-true, eqb-false}
use lib.Dec.{ltb, eqb}
use lib.ListN.{length, drop, get_or, drop_of_length-le}
use lib.Seq.{drop-cons}
use Rattle.model.specs.Vocabulary.{pick}
use Rattle.fields.specs.Fields.{same_bytes}

-- From place k on the text f is the name n, and it ends there.
abbrev pub Spells : List ℕ → ℕ → List ℕ → Type 0
Spells f k [] = length f ≡ k
Spells f k (x ∷ n) = (get_or f k 0 ≡ x) × Spells f (suc k) n

spells-long : (f n : List ℕ) (k : ℕ) → Spells f k n → k ≤ length f
spells-long f [] k h = omega arith
spells-long f (x ∷ n) k h = omega (arith, spells-long f n (suc k) h.1)

abbrev Told : Bool → Type 0 → Type 0
Told t P = ((t ≡ true) × P) ⊎ ((t ≡ false) × (P → ⊥))

step : (t : Bool) (f n : List ℕ) (k x : ℕ) → eqb (get_or f k 0) x ≡ t → Told (same_bytes (drop (suc k) f) n) (Spells f (suc k) n)
    → Told (pick t (same_bytes (drop (suc k) f) n) false) (Spells f k (x ∷ n))
step true f n k x e (inl h) = inl (h.0, (eqb-true _ _ e, h.1))
step true f n k x e (inr h) = inr (h.0, λ s. h.1 s.1)
step false f n k x e h = inr (refl, λ s. eqb-false _ _ e s.0)

told-from : (n f : List ℕ) (k : ℕ) (t : Bool) → ltb k (length f) ≡ t → k ≤ length f → Told (same_bytes (drop k f) n) (Spells f k n)
unfolding same_bytes
told-from [] f k true e h =
    let g : k < length f = ltb-true _ _ e in
    rw (drop-cons f k 0) (inr (refl, λ s. omega arith))
told-from [] f k false e h =
    let g : length f ≤ k = ltb-false _ _ e in
    rw (drop_of_length-le f g) (inl (refl, omega arith))
told-from (x ∷ n) f k true e h =
    let g : k < length f = ltb-true _ _ e in
    rw (drop-cons f k 0) (step _ f n k x refl (told-from n f (suc k) _ refl (omega arith)))
told-from (x ∷ n) f k false e h =
    let g : length f ≤ k = ltb-false _ _ e in
    rw (drop_of_length-le f g) (inr (refl, λ s. omega (arith, spells-long f n (suc k) s.1)))

-- The test of a table's name for a text, with what is known of the text's bytes then.
pub told : (f n : List ℕ) → ((same_bytes f n ≡ true) × Spells f 0 n) ⊎ ((same_bytes f n ≡ false) × (Spells f 0 n → ⊥))
told f n = told-from n f 0 _ refl (omega arith)
