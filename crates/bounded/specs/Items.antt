-- A list in an array: its items, the empty one, and one item more.
use Rattle.std.specs.Prelude.{ℕ, ◌+◌, List, ltb, take, set, replicate}
use Rattle.model.specs.Vocabulary.{pick}
use Rattle.bounded.specs.declared.Bounded.{Bounded}

-- The items, in order: the first len of the array.
abbrev pub items_of : {T : Type 0} {N : ℕ} → Bounded T N → List T
items_of b = take b.len b.items

-- The list with no item.
abbrev pub no_items : {T : Type 0} {N : ℕ} → T → Bounded T N
no_items {T} {N} filler = record { items = replicate N filler; len = 0 }

-- The list with one item more where there is room for it, and else the list itself.
unfoldable pub appended : {T : Type 0} {N : ℕ} → Bounded T N → T → Bounded T N
appended {T} {N} b x = pick (ltb b.len N) (record { items = set b.items b.len x; len = b.len + 1 }) b
