-- What a component's entry says, by its position: kind, policy, and where its dependency stands.
use Rattle.std.specs.Prelude.{ℕ, List, length, Option, None, Some}
use Rattle.model.specs.declared.ComponentId.{ComponentId}
use Rattle.model.specs.declared.Component.{Component}
use Rattle.model.specs.declared.ComponentKind.{ComponentKind}
use Rattle.model.specs.declared.FailurePolicy.{FailurePolicy}
use Rattle.components.specs.Chain.{position, at, depends_at}

abbrev pub kind_at : List Component → ℕ → ComponentKind
kind_at ch p = (at ch p).attrs.kind

abbrev pub policy_at : List Component → ℕ → FailurePolicy
policy_at ch p = (at ch p).attrs.failure_policy

-- The position that an optional id names, and the length of the chain if it names none.
abbrev pub place : List Component → Option ComponentId → ℕ
place ch None = length ch
place ch (Some id) = position ch id

-- The position of what the component at p depends on.
abbrev pub parent : List Component → ℕ → ℕ
parent ch p = place ch (depends_at ch p)
