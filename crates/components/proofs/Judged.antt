-- The verdict by the tests that the code makes. The law asks for the test in the definition's own terms, so that a test of the
-- code which is another one does not fit it.
use mathlib.Core.Path.{◌≡◌, refl}
use mathlib.Core.List.{List}
use Prim.Native.Nat.{ℕ, ◌≤◌}
use borrow.Author.Tests.{ne_eqb, le-ltb}
use Rattle.components.specs.Chain.{new_ids, links, or_else, first, verdict_of}
use Rattle.model.specs.declared.Component.{Component}

-- questions 3 to 6 of a list of n entries, of which ch are kept
module _ (n : ℕ) (ch : List Component) (some : n ≡ 0 → ⊥) where
  pub few_enough : n ≤ 255 → or_else (first ch (new_ids ch)) (first ch (links ch)) ≡ verdict_of n ch
  few_enough h = rw (ne_eqb n 0 some, le-ltb 255 n h) refl
