-- The loop's invariant: every position from `from` on that is passed is isolated.
use Rattle.std.proofs.Common.{◌≡◌, ℕ, ◌-◌, ◌≤◌, ◌<◌, true, false, get_or}
use Rattle.store.specs.Flags.{flags_of}
use Rattle.store.proofs.Isolated.next_free.Given as goal

abbrev pub invariant-loop-p : goal.invariant-loop-p
invariant-loop-p l = (l.from ≤ l.p) × ((i : ℕ) → l.from ≤ i → i < l.p → get_or (flags_of 64 l.self.words) i false ≡ true)

abbrev pub decreases-loop-p : goal.decreases-loop-p
decreases-loop-p l = l.n - l.p
