-- A table that is filled by a rule.
use Rattle.std.specs.Prelude.{ℕ, ◌<◌, ◌≡◌, List, get_or}
use Rattle.model.specs.declared.Component.{Component}
use Rattle.model.specs.Vocabulary.{id_of}
use Rattle.components.specs.Chain.{position}

-- The first n places hold what the rule gives.
abbrev pub Filled : (ℕ → ℕ) → ℕ → List ℕ → Type 0
Filled f n table = (i : ℕ) → i < n → get_or table i 0 ≡ f i

-- A table by id: where each id has its first entry.
abbrev pub ById : List Component → List ℕ → Type 0
ById ch table = Filled (λ (i : ℕ). position ch (id_of i)) 256 table
