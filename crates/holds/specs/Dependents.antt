-- What the code compares, and what an order is to hold.
use Rattle.std.specs.Prelude.{ℕ, ◌≡◌, List, [], ◌∷◌, eqb, length, get_or}
use Rattle.model.specs.Vocabulary.{pick}
use Rattle.holds.specs.declared.Order.{Order}
use Rattle.holds.specs.Order.{listed}

-- Those of a list of positions for which a table of dependency positions has h.
unfoldable pub dependents : List ℕ → ℕ → List ℕ → List ℕ
dependents t h [] = []
dependents t h (p ∷ ps) = pick (eqb (get_or t p 0) h) (p ∷ dependents t h ps) (dependents t h ps)

-- The order lists l, and counts what it lists.
pub record Lists (l : List ℕ) (r : Order) : Type 0 where
  pub list : listed r ≡ l
  pub count : r.places.len ≡ length (listed r)
