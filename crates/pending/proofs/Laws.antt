-- The queue's array of eight places against the list that it holds.
use Rattle.std.proofs.Common.{◌≡◌, ℕ, min, List, [], ◌∷◌, length, Some, None}
use Rattle.model.specs.declared.Event.{Event}
use Rattle.bounded.proofs.Laws.{items-length}
use Rattle.pending.specs.declared.Pending.{Pending}
use Rattle.pending.specs.Queue.{events, first_of, rest}

-- The front of a list tells its shape.
pub first-none : (es : List Event) → first_of es ≡ None → es ≡ []
first-none [] h = cc
first-none (e ∷ es) h = cc

pub first_one : (es : List Event) (e : Event) → first_of es ≡ Some e → es ≡ e ∷ rest es
first_one [] e h = cc
first_one (x ∷ es) e h = cc

pub events-length : (q : Pending) → length q.entries.items ≡ 8 → length (events q) ≡ min q.entries.len 8
unfolding events
events-length q full = items-length q.entries full
