-- A list cut into n rows of w: entry j of row i is the list's entry i * w + j.
use mathlib.Core.Path.{◌≡◌, ◌∙◌}
use mathlib.Core.List.{List, [], ◌∷◌}
use Prim.Native.Nat.{ℕ, zero, suc, ◌+◌, ◌*◌, ◌<◌}
use native.Mathlib.Nat.{zero-mul, zero-add, suc-mul, le_of_suc-le-suc, not-suc-le-zero}
use native.Mathlib.Omega.{arith}
use lib.ListN.{get_or, take, drop}
use lib.Seq.{get_or-take, get_or-drop}

abbrev pub rows : ℕ → ℕ → List ℕ → List (List ℕ)
rows zero w l = []
rows (suc n) w l = take w l ∷ rows n w (drop w l)

pub at_row : (n w : ℕ) (l : List ℕ) (i j : ℕ) → i < n → j < w → get_or (get_or (rows n w l) i []) j 0 ≡ get_or l (i * w + j) 0
at_row zero w l i j hi hj = absurd (not-suc-le-zero hi)
at_row (suc n) w l zero j hi hj = rw (get_or-take, zero-mul, zero-add)
at_row (suc n) w l (suc i) j hi hj =
    let place : w + (i * w + j) ≡ suc i * w + j = rw suc-mul (omega arith) in
    at_row n w (drop w l) i j (le_of_suc-le-suc hi) hj ∙ rw (get_or-drop, place)
