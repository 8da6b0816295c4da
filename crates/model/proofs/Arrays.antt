-- The length of an array of structs, from the length of what it is stored as.
use Prim.Native.Nat.{ℕ}
use mathlib.Core.Path.{◌≡◌, sym, ◌∙◌}
use mathlib.Core.List.{List, map}
use lib.ListN.{length, length-map}

pub unmap {ℓ ℓ'} : {A : Type ℓ} {B : Type ℓ'} (f : A → B) (l : List A) (n : ℕ) → length (map f l) ≡ n → length l ≡ n
unmap f l n e = sym (length-map l f) ∙ e
