-- A position that depends on the holder goes behind the others, where there is room for it, and any other is passed by.
use Rattle.std.proofs.Common.{append-nil, ap, sym, List, ℕ, ◌++◌, ◌∙◌}
use Rattle.holds.specs.Order.{listed}
use Rattle.holds.proofs.Stored.{room, joins, passes}
use Rattle.holds.proofs.put_dependents.Goals as goal
use Rattle.holds.proofs.put_dependents.Goals.{then-parents-p, else-parents-p}

pub loop-p-init : goal.loop-p-init
loop-p-init c =
    let before = listed c.args.order.now in
    rw c.from-p.ensures record { list = sym (ap (λ (l : List ℕ). before ++ l) c.requires.2 ∙ append-nil before); count = c.requires.3 }

pub loop-p-preserved : goal.loop-p-preserved
loop-p-preserved c =
    let a = c.args in
    let l = c.loop-p in
    elim c.if-parents-p.branch [
      | then-parents-p w ↦
          rw (w.order-is, w.push.ensures.0) (
          joins a.parents.now a.holder (listed a.order.now) l.p w.if-parents-p.true l.order w.push.ensures.1
          (room a.parents.now a.holder (listed a.order.now) l.p w.if-parents-p.true a.n c.loop-p-test.true c.requires.4 l.order l.invariant) l.invariant
          )
      | else-parents-p w ↦
          rw w.order-is (passes a.parents.now a.holder (listed a.order.now) l.p w.if-parents-p.false l.order l.invariant)
    ]
