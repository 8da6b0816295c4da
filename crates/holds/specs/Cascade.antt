-- Section 2: the order in which a cascade gates.
use Rattle.std.specs.Prelude.{List, [], ◌∷◌, ◌++◌, ℕ, zero, suc, eqb, length}
use Rattle.model.specs.declared.Component.{Component}
use Rattle.model.specs.Vocabulary.{pick}
use Rattle.components.specs.Links.{parent}

-- 0, 1 .. n - 1.
unfoldable pub below : ℕ → List ℕ
below zero = []
below (suc n) = below n ++ (n ∷ [])

-- Those of a list of positions whose components depend directly on the one at h.
unfoldable pub children_in : List Component → ℕ → List ℕ → List ℕ
children_in ch h [] = []
children_in ch h (p ∷ ps) = pick (eqb (parent ch p) h) (p ∷ children_in ch h ps) (children_in ch h ps)

-- The direct dependents of each of a list, in chain order.
unfoldable pub children_of : List Component → List ℕ → List ℕ
children_of ch [] = []
children_of ch (h ∷ hs) = children_in ch h (below (length ch)) ++ children_of ch hs

-- Breadth first: a list, then its direct dependents, then theirs, for n more levels.
unfoldable pub spread : List Component → ℕ → List ℕ → List ℕ
spread ch zero hs = hs
spread ch (suc n) hs = hs ++ spread ch n (children_of ch hs)

-- The order in which a cascade from the root p gates. It passes through components already Isolated: isolation has
-- no part in it.
unfoldable pub cascade : List Component → ℕ → List ℕ
cascade ch p = spread ch (length ch) (p ∷ [])
