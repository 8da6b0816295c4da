-- A text looked through from place i on, by the byte at i: the place of a byte, and whether two texts are the same.
use mathlib.Core.Path.{◌≡◌, refl, sym, ap, ◌∙◌}
use mathlib.Core.List.{List, [], ◌∷◌}
use Prim.Native.Nat.{ℕ, suc, ◌≤◌}
use native.Mathlib.Omega.{arith}
use lib.Dec.{eqb, ltb}
use lib.ListN.{length}
use Rattle.model.proofs.Pick.{pick_p}
use Rattle.model.proofs.Found.{place-step, as-found, found-or}
use Rattle.std.specs.Prelude.{Option, unwrap_or}
use Rattle.std.specs.List.{position, position_or_len}
use Rattle.std.specs.Bool.{Decides}
use Rattle.std.proofs.lemmas.List.Recursion.{is_position_or_len}
use Rattle.std.proofs.lemmas.Slice.Eq.{IsBytesEq, compares_Decides}
use Rattle.std.proofs.Common.{rules}
use Rattle.fields.specs.Fields.{place_of, same_bytes}

pub place-le : (b : ℕ) (l : List ℕ) → place_of b l ≤ length l
unfolding place_of
place-le b [] = omega arith
place-le b (x ∷ l) = pick_p (λ (n : ℕ). n ≤ suc (length l)) (eqb x b) (λ e. omega arith) (λ e. omega (arith, place-le b l))

pub place-bound : (b n : ℕ) (l : List ℕ) → n ≡ place_of b l → n ≤ length l
place-bound b n l e = omega (arith, place-le b l)

-- What `position` gives, or the length.
pub place-position : (b : ℕ) (l : List ℕ) → unwrap_or (position (λ x. eqb x b) l) (length l) ≡ place_of b l
unfolding place_of
place-position b l =
    let e : position_or_len (λ x. eqb x b) l ≡ place_of b l = sym (is_position_or_len (place_of b) (λ x. eqb x b) refl (λ x m. place-step (eqb x b) (place_of b m)) l) in
    let n : ℕ = position_or_len (λ x. eqb x b) l in
    ap (λ (o : Option ℕ). unwrap_or o (length l)) (as-found (ltb n (length l)) n) ∙ found-or _ (length l) n refl (omega (arith, e, place-le b l)) ∙ e

-- Texts are the same where they are equal.
heads : IsBytesEq same_bytes
unfolding same_bytes
heads = search rules

pub same-Decides : (l m : List ℕ) → Decides (same_bytes l m) (l ≡ m)
same-Decides = compares_Decides same_bytes heads
