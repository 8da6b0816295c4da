-- Before the turn of p the order has grown by the dependents below p, of which none stands up to the holder.
use Rattle.std.proofs.Common.{◌++◌}
use Rattle.holds.specs.Cascade.{below}
use Rattle.holds.specs.Order.{listed}
use Rattle.holds.specs.Dependents.{dependents, Lists}
use Rattle.holds.proofs.put_dependents.Given as goal

abbrev pub invariant-loop-p : goal.invariant-loop-p
invariant-loop-p l = Lists (listed l.fn.order ++ dependents l.parents l.holder (below l.p)) l.order
