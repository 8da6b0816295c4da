-- Before each turn the components that are left are the first ones, and the table is that of the others.
use Rattle.std.proofs.Common.{◌≡◌, ℕ, length, take}
use Rattle.components.specs.Chain.{entries_of}
use Rattle.components.specs.Filled.{Filled}
use Rattle.components.proofs.Fill.{position_from}
use Rattle.components.proofs.positions_of.Given as goal

abbrev pub invariant-loop-p : goal.invariant-loop-p
invariant-loop-p l =
    let k : ℕ = length l.p-iterator.iter.iter.rest.now in
    (l.p-iterator.iter.count ≡ 0) × (l.p-iterator.iter.iter.rest.now ≡ take k (entries_of l.list)) × (length l.positions ≡ 256)
    × Filled (position_from (entries_of l.list) k) 256 l.positions
