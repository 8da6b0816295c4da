-- The array and the list: what stands at each place of an order that lists a cascade.
use mathlib.Core.Path.{◌≡◌, refl, sym}
use mathlib.Core.List.{List, [], ◌∷◌, Memᴰ}
use Prim.Native.Nat.{ℕ, zero, suc, ◌<◌}
use native.Mathlib.Omega.{arith}
use lib.ListN.{length, get_or}
use lib.Seq.{get_or-take}
use Rattle.holds.specs.declared.Order.{Order}
use Rattle.holds.specs.Order.{listed}

-- What stands at a place stands in the list.
pub at_place : (l : List ℕ) (i : ℕ) → i < length l → Memᴰ (get_or l i 0) l
at_place [] i h = absurd (omega arith)
at_place (x ∷ l) zero h = Memᴰ.head refl
at_place (x ∷ l) (suc i) h = Memᴰ.tail (at_place l i (omega arith))

-- An element of the array that counts is that of the list.
pub listed_at : (o : Order) (i : ℕ) → i < o.places.len → get_or o.places.items i 0 ≡ get_or (listed o) i 0
listed_at o i h = sym (get_or-take o.places.len o.places.items i 0 h)
