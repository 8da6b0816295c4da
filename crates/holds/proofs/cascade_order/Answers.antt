-- At first the queue is the root; each turn its front puts its direct dependents at its end, and there is room for
-- them; where it is used up it is the cascade.
use Rattle.std.proofs.Common.{arith, ◌≡◌, refl, [], ◌++◌, ℕ, suc, ◌+◌, ◌≤◌, ◌<◌, length, get_or, add-one}
use Rattle.components.specs.Chain.{Sound}
use Rattle.components.proofs.Accepted.{accepted-sound}
use Rattle.bounded.proofs.Laws.{with-room}
use Rattle.components.specs.declared.Chain.{Chain}
use Rattle.components.specs.Links.{parent}
use Rattle.components.specs.Tables.{entries, size, Accepted}
use Rattle.holds.specs.declared.Order.{Order}
use Rattle.holds.specs.Cascade.{below}
use Rattle.holds.specs.Order.{listed}
use Rattle.holds.specs.Dependents.{dependents}
use Rattle.holds.proofs.Queue.{kids, Going, begun, onward, over, fits, front-within}
use Rattle.holds.proofs.Below.{below-within}
use Rattle.holds.proofs.Closed.{parent-before}
use Rattle.holds.proofs.Once.{cascade-length}
use Rattle.holds.proofs.Stored.{none_found, dependents-children}
use Rattle.holds.proofs.Places.{listed_at}
use Rattle.holds.proofs.cascade_order.Goals as goal

module _ (m : Chain) (accepted : Accepted m) (root : ℕ) (inside : root < size m) where
  sound : Sound m.list.len (entries m)
  sound = accepted-sound m.list.len (entries m) accepted

  -- What the table finds are the direct dependents in the chain,
  found : (h : ℕ) → dependents m.parents h (below (size m)) ≡ kids (entries m) h
  found h = dependents-children (entries m) m.parents h (below (size m)) (λ p q. m.by_place p (below-within (size m) p q))

  -- none of them stands up to the component that they depend on,
  none_before : (h : ℕ) → h < size m → dependents m.parents h (below (h + 1)) ≡ []
  none_before h w =
      none_found m.parents h (below (h + 1)) (λ p q e.
      let i = below-within (h + 1) p q in
      let r : get_or m.parents p 0 ≡ parent (entries m) p = m.by_place p (omega arith) in
      absurd (omega (arith, r, e, parent-before m.list.len (entries m) sound p (omega arith) (omega (arith, r, e)))))

  -- at a place of the queue stands one that they can depend on,
  module _ (k : ℕ) (o : Order) (h : k < o.places.len) (n : o.places.len ≡ length (listed o)) (g : Going (entries m) root k (listed o)) where
    front : get_or o.places.items k 0 < size m
    front = rw (listed_at o k h) (front-within m.list.len (entries m) sound root inside k (listed o) (omega arith) g)

    -- and there is room for them: the queue goes on.
    more : Going (entries m) root (suc k) (listed o ++ dependents m.parents (get_or o.places.items k 0) (below (size m)))
    more = rw (listed_at o k h, found (get_or (listed o) k 0)) (onward m.list.len (entries m) sound root k (listed o) (omega arith) g)

    roomy : length (listed o ++ dependents m.parents (get_or o.places.items k 0) (below (size m))) ≤ size m
    roomy =
        omega (
          arith,
          fits m.list.len (entries m) sound root (suc k) _ more,
          cascade-length m.list.len (entries m) sound root inside,
        )

pub loop-k-init : goal.loop-k-init
loop-k-init c =
    let m = c.args.chain.now in
    let root = c.args.root in
    let room : 0 < 255 = omega arith in
    rw (c.push.ensures.0, c.new.ensures, with-room) (omega arith, refl, begun m.list.len (entries m) (sound m c.requires.0 root c.requires.1) root c.requires.1)

pub put_dependents-requires : goal.put_dependents-requires
put_dependents-requires c =
    let l = c.loop-k in
    let m = c.args.chain.now in
    let root = c.args.root in
    let few : m.count ≤ 255 = omega (arith, m.counted, m.few) in
    let w = front m c.requires.0 root c.requires.1 l.k l.order c.loop-k-test.true l.invariant.1 l.invariant.2 in
    let r = roomy m c.requires.0 root c.requires.1 l.k l.order c.loop-k-test.true l.invariant.1 l.invariant.2 in (
      few,
      omega (arith, w, m.counted),
      none_before m c.requires.0 root c.requires.1 _ w,
      l.invariant.1,
      rw m.counted (omega (arith, r, m.counted, few)),
    )

pub loop-k-preserved : goal.loop-k-preserved
loop-k-preserved c =
    let l = c.loop-k in
    let m = c.args.chain.now in
    let root = c.args.root in
    let e = c.put_dependents.ensures in
    let few : m.count ≤ 255 = omega (arith, m.counted, m.few) in
    let r = roomy m c.requires.0 root c.requires.1 l.k l.order c.loop-k-test.true l.invariant.1 l.invariant.2 in
    let g = more m c.requires.0 root c.requires.1 l.k l.order c.loop-k-test.true l.invariant.1 l.invariant.2 in
    (rw (e.count, e.list, m.counted) (omega (arith, r, m.counted, few)), e.count, rw (e.list, m.counted, add-one l.k) g)

pub returns : goal.returns
returns c =
    let l = c.loop-k in
    let m = c.args.chain.now in
    let root = c.args.root in
    record {
      list = over m.list.len (entries m) (sound m c.requires.0 root c.requires.1) root l.k (listed l.order) (omega arith) l.invariant.2;
      count = l.invariant.1;
    }
