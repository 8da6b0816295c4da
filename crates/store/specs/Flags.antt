-- The isolated positions as a list of bools, one for each position, and what is asked of such a list.
use Rattle.std.specs.Prelude.{Bool, true, false, List, [], ◌∷◌, ◌++◌, ℕ, zero, suc, ◌+◌, ◌/◌, ◌%◌, eqb, ltb, take, drop}
use Rattle.model.specs.Vocabulary.{pick}
use Rattle.store.specs.declared.Isolated.{Isolated}

-- the k lowest binary digits of w, lowest first: true where the digit is 1
unfoldable pub digits : ℕ → ℕ → List Bool
digits zero w = []
digits (suc k) w = eqb (w % 2) 1 ∷ digits k (w / 2)

-- the k digits of each word, word after word: position p is digit p mod k of word p / k
unfoldable pub flags_of : ℕ → List ℕ → List Bool
flags_of k [] = []
flags_of k (w ∷ ws) = digits k w ++ flags_of k ws

-- the flag of each position, 64 of them to a word: true where the position is isolated
unfoldable pub flags : Isolated → List Bool
flags s = flags_of 64 s.words

-- how many stand isolated at the head of a list, before the first that does not or before its end
unfoldable pub isolated_ahead : List Bool → ℕ
isolated_ahead [] = 0
isolated_ahead (true ∷ l) = suc (isolated_ahead l)
isolated_ahead (false ∷ l) = 0

-- the first position from `from` on and below n that is not isolated, or n where there is none: past the list's end nothing is isolated
unfoldable pub next_free : List Bool → ℕ → ℕ → ℕ
next_free l from n = pick (ltb from n) (from + isolated_ahead (drop from (take n l))) n

-- how many of a list's flags are true
unfoldable pub trues : List Bool → ℕ
trues [] = 0
trues (true ∷ l) = suc (trues l)
trues (false ∷ l) = trues l
