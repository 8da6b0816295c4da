-- The chain as a list, and whether it is accepted.
use Rattle.std.specs.Prelude.{ℕ, ◌≡◌, false, List, length}
use Rattle.model.specs.declared.Component.{Component}
use Rattle.components.specs.Chain.{entries_of, verdict_of, refuses}
use Rattle.components.specs.declared.Chain.{Chain}

abbrev pub entries : Chain → List Component
entries c = entries_of c.list

-- The number of components.
abbrev pub size : Chain → ℕ
size chain = length (entries chain)

-- Questions 2 to 6 refuse nothing in it.
abbrev pub Accepted : Chain → Type 0
Accepted c = refuses (verdict_of c.list.len (entries c)) ≡ false
