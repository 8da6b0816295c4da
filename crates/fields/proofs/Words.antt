-- Texts whose parts of eight bytes are the same are the same, and such parts are compared as numbers.
use mathlib.Core.Path.{◌≡◌, sym, ap, ◌∙◌, subst}
use mathlib.Core.List.{List, ◌++◌}
use Prim.Native.Nat.{ℕ, ◌+◌, ◌-◌, ◌<◌, ◌≤◌}
use native.Mathlib.Omega.{arith}
use lib.Dec.{eqb}
use lib.ListN.{length, take, drop, get_or, length-drop}
use Rattle.std.specs.Bool.{Decides}
use Rattle.std.specs.Int.{w64, to_le_bytes, from_le_bytes}
use Rattle.std.proofs.lemmas.Bool.Decides.{Decides-eqb}
use Rattle.std.proofs.lemmas.List.{take-append-drop, drop-drop, take_all}
use Rattle.std.proofs.lemmas.Nat.{le_bytes_8}

pub glued : (n : ℕ) (a b : List ℕ) → take n a ≡ take n b → drop n a ≡ drop n b → a ≡ b
glued n a b p q = sym (take-append-drop n a) ∙ (λ j. p j ++ q j) ∙ take-append-drop n b

-- The first and the last w of at most 2 w bytes are the same.
pub ends : (w : ℕ) (a b : List ℕ) → length a ≡ length b → w ≤ length a → length a ≤ w + w → take w a ≡ take w b
    → take w (drop (length a - w) a) ≡ take w (drop (length a - w) b) → a ≡ b
ends w a b e h g p q =
    let n = length a - w in
    let last : (l : List ℕ) → length l ≡ length a → take w (drop n l) ≡ drop n l = λ l f. take_all w (drop n l) (omega (arith, length-drop n l)) in
    let back : drop n a ≡ drop n b = sym (last a (omega arith)) ∙ q ∙ last b (omega arith) in
    let k = w - n in
    let sum : n + k ≡ w = omega arith in
    glued w a b p (subst (λ (m : ℕ). drop m a ≡ drop m b) sum (sym (drop-drop k n a) ∙ ap (drop k) back ∙ drop-drop k n b))

pub word : (x y : List ℕ) (m n : ℕ) → length x ≡ 8 → ((i : ℕ) → get_or x i 0 < 256) → length y ≡ 8 → ((i : ℕ) → get_or y i 0 < 256)
    → m ≡ from_le_bytes w64 x → n ≡ from_le_bytes w64 y → Decides (eqb m n) (x ≡ y)
word x y m n f g h k s t = (
  λ e. sym (le_bytes_8 x m f g s) ∙ ap (to_le_bytes w64) ((Decides-eqb m n).0 e) ∙ le_bytes_8 y n h k t,
  λ e. (Decides-eqb m n).1 (s ∙ ap (from_le_bytes w64) e ∙ sym t),
)
