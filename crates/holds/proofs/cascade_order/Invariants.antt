-- `cascade_order` meets its contract: the order is at any moment a queue on its way to the cascade, which is no
-- longer than the chain, so that the array has room for all of it.
use Rattle.std.proofs.Common.{◌-◌, ◌≡◌, ◌≤◌, length}
use Rattle.components.specs.Tables.{entries}
use Rattle.holds.specs.Order.{listed}
use Rattle.holds.proofs.Queue.{Going}
use Rattle.holds.proofs.cascade_order.Given as goal

abbrev pub invariant-loop-k : goal.invariant-loop-k
invariant-loop-k l = (l.order.places.len ≤ 255) × (l.order.places.len ≡ length (listed l.order)) × Going (entries l.chain) l.root l.k (listed l.order)

abbrev pub decreases-loop-k : goal.decreases-loop-k
decreases-loop-k l = 255 - l.k
