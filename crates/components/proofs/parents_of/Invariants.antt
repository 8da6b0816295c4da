-- Before the turn of `p` the table is filled up to `p`.
use Rattle.std.proofs.Common.{◌≡◌, length}
use Rattle.components.specs.Chain.{entries_of}
use Rattle.components.specs.Links.{parent}
use Rattle.components.specs.Filled.{Filled}
use Rattle.components.proofs.parents_of.Given as goal

abbrev pub invariant-loop-p : goal.invariant-loop-p
invariant-loop-p l = (length l.parents ≡ 255) × Filled (parent (entries_of l.list)) l.p l.parents
