-- Settling ends: after as many turns as it has, an effect waits or the dispatch is over, and it has taken at most 8 events.
-- Each Emit of the batch costs one turn, and leaves at most 8 events queued. Then each event taken shortens the queue,
-- and its effects are none, so that the next event is taken, or begin with one that is handed out (step-opens). At rest a
-- turn changes nothing, so that more turns give the same.
use Rattle.std.specs.Prelude.{Option, None, Some}
use mathlib.Core.Path.{◌≡◌, refl, sym, subst, ap, ◌∙◌}
use mathlib.Core.Bool.{Bool, true, false}
use mathlib.Core.List.{List, [], ◌∷◌, ◌++◌}
use Prim.Native.Nat.{ℕ, zero, suc, ◌+◌, ◌≤◌}
use native.Mathlib.Omega.{arith}
use lib.ListN.{length, length-append, length-take}
use borrow.Author.Tests.{ltb-true}
use Rattle.model.specs.declared.Component.{Component}
use Rattle.model.specs.declared.Event.{Event}
use Rattle.model.specs.declared.Effect.{Effect}
use Rattle.model.proofs.Pick.{pick_p}
use Rattle.pending.specs.Queue.{has_room, latched, emits}
use Rattle.machine.specs.View.{Core}
use Rattle.rot.specs.Step.{step_of}
use Rattle.rot.proofs.Shape.{Opens, step-opens}
use Rattle.settling.specs.Settle.{Model, left_is, latch, fail, enqueue, hand_out, turn_by, turn_of, taken_by, next_event, Run, noted, turned, turns, settle}
use Rattle.settling.specs.View.{RestsBy, Rests}

-- ---- At most 8 events
-- Room for the events of a machine.
abbrev pub Few : Model → Type 0
Few m = length m.queue ≤ 8

pub latch-few : (m : Model) → Few (latch m)
latch-few m = omega (arith, length-take 7 m.queue)

pub fail-few : (m : Model) → Few m → Few (fail m)
fail-few m h = pick_p Few m.failed (λ t. h) (λ t. latch-few m)

pub enqueue-few : (e : Event) (m : Model) → Few m → Few (enqueue e m)
enqueue-few e m h =
    pick_p Few (has_room m.queue)
    (λ t. omega (arith, length-append m.queue (e ∷ []), ltb-true (length m.queue) 8 t))
    (λ t. pick_p Few m.failed (λ u. h) (λ u. latch-few m))

-- What the next effect x becomes, by the event that it queues.
hand-few : (x : Effect) (es : List Effect) (m : Model) (o : Option Event) → Few m → Few (hand_out x es m o)
hand-few x es m None h = h
hand-few x es m (Some e) h = enqueue-few e (left_is es m) h

-- At rest no event is taken.
takes-by : (w : Option Effect) (es : List Effect) (q : List Event) (f : Bool) → RestsBy w es q f → taken_by w es q ≡ None
takes-by (Some x) es q f h = refl
takes-by None (x ∷ es) q f h = refl
takes-by None [] (e ∷ q) f h = cc
takes-by None [] [] f h = refl

pub rest-takes : (m : Model) → Rests m → next_event m ≡ None
rest-takes m h = takes-by m.waiting m.left m.queue m.failed h

-- By the event that an effect queues.
by-event : (P : Option Event → Type 0) (o : Option Event) → (o ≡ None → P None) → ((e : Event) → P (Some e)) → P o
by-event P None h k = h refl
by-event P (Some e) h k = k e

module _ (ch : List Component) (max : ℕ) where
  few-by : (m : Model) (w : Option Effect) (es : List Effect) (q : List Event) → m.queue ≡ q → Few m → Few (turn_by ch max m w es q)
  few-by m (Some x) es q s h = h
  few-by m None (x ∷ es) q s h = hand-few x es m (emits x) h
  few-by m None [] (e ∷ q) s h = omega (arith, ap length s)
  few-by m None [] [] s h = h

  pub turn-few : (m : Model) → Few m → Few (turn_of ch max m)
  turn-few m h = few-by m m.waiting m.left m.queue refl h

  pub turns-few : (n : ℕ) (r : Run) → Few r.machine → Few (turns ch max n r).machine
  unfolding turns
  turns-few zero r h = h
  turns-few (suc n) r h = turns-few n (turned ch max r) (turn-few r.machine h)

  -- ---- At rest
  -- At rest there is nothing to hand out and no event to take; the end sets the failure back, which it is already.
  stays_by : (m : Model) (w : Option Effect) (es : List Effect) (q : List Event) → RestsBy w es q m.failed → turn_by ch max m w es q ≡ m
  stays_by m (Some x) es q h = refl
  stays_by m None (x ∷ es) q h = cc
  stays_by m None [] (e ∷ q) h = cc
  stays_by m None [] [] h = λ k. record { core = m.core; waiting = m.waiting; left = m.left; queue = m.queue; failed = sym h.2 k }

  pub turn-stays : (m : Model) → Rests m → turn_of ch max m ≡ m
  turn-stays m h = stays_by m m.waiting m.left m.queue h

  pub turned-stays : (r : Run) → Rests r.machine → turned ch max r ≡ r
  turned-stays r h = λ k. record { machine = turn-stays r.machine h k; settled = noted (rest-takes r.machine h k) r.settled }

  pub turns-stay : (n : ℕ) (r : Run) → Rests r.machine → turns ch max n r ≡ r
  unfolding turns
  turns-stay zero r h = refl
  turns-stay (suc n) r h = ap (turns ch max n) (turned-stays r h) ∙ turns-stay n r h

  -- ---- Turns in a row
  -- The last turn instead of the first.
  pub turns_next : (n : ℕ) (r : Run) → turns ch max (suc n) r ≡ turned ch max (turns ch max n r)
  unfolding turns
  turns_next zero r = refl
  turns_next (suc n) r = turns_next n (turned ch max r)

  -- Turns after the end change nothing.
  pub turns-enough : (n k : ℕ) (r : Run) → Rests (turns ch max n r).machine → n ≤ k → turns ch max k r ≡ turns ch max n r
  unfolding turns
  turns-enough zero k r h l = turns-stay k r h
  turns-enough (suc n) zero r h l = absurd (omega arith)
  turns-enough (suc n) (suc k) r h l = turns-enough n k (turned ch max r) h (omega arith)

  -- ---- The end
  -- At rest, with at most 8 events taken.
  abbrev Ended : Run → Type 0
  Ended r = Rests r.machine × (length r.settled ≤ 8)

  ended-stays : (n : ℕ) (r : Run) → Ended r → Ended (turns ch max n r)
  ended-stays n r h = subst Ended (sym (turns-stay n r h.0)) h

  -- n turns more reach the end, from the machine m after the events t.
  abbrev Within : ℕ → List Event → Model → Type 0
  Within n t m = Ended (turns ch max n record { machine = m; settled = t })

  -- A machine in which no effect waits.
  abbrev idle : Core → List Effect → List Event → Bool → Model
  idle c es q f = record { core = c; waiting = None; left = es; queue = q; failed = f }

  -- A machine that waits for an effect other than Emit has ended.
  waits : (n : ℕ) (c : Core) (x : Effect) (es : List Effect) (q : List Event) (f : Bool) (t : List Event)
      → emits x ≡ None → length t ≤ 8 → Within n t record { core = c; waiting = Some x; left = es; queue = q; failed = f }
  waits n c x es q f t p h = ended-stays n record { machine = record { core = c; waiting = Some x; left = es; queue = q; failed = f }; settled = t } (p, h)

  -- Effects that begin with no Emit are none, or the first is handed out in one turn.
  opened : (n : ℕ) (c : Core) (es : List Effect) (q : List Event) (f : Bool) (t : List Event)
      → Opens es → length t ≤ 8 → Within (suc n) t (idle c [] q f) → Within (suc n) t (idle c es q f)
  unfolding turns
  opened n c [] q f t o h k = k
  opened n c (x ∷ es) q f t o h k = subst (λ (g : Option Event). Within n t (hand_out x es (idle c (x ∷ es) q f) g)) (sym o) (waits n c x es q f t o h)

  -- With nothing left of the batch: one turn for each event, and one for the end.
  drains : (n : ℕ) (c : Core) (q : List Event) (f : Bool) (t : List Event) → length q ≤ n → length t + length q ≤ 8 → Within (suc n) t (idle c [] q f)
  unfolding turns
  drains n c [] f t l h = ended-stays n record { machine = idle c [] [] false; settled = t } ((refl, refl, refl), omega arith)
  drains zero c (e ∷ q) f t l h = absurd (omega arith)
  drains (suc n) c (e ∷ q) f t l h =
      let d : Core = (step_of ch max c e).core in
      opened n d (step_of ch max c e).said q f (e ∷ t) (step-opens ch max c e) (omega arith) (drains n d q f (e ∷ t) (omega arith) (omega arith))

  -- The batch first: each Emit costs one turn, and is one effect less. If its event is lost the batch goes on, or ends
  -- with the first failure.
  ends_by : (n : ℕ) (c : Core) (es : List Effect) (q : List Event) (f : Bool) → length q ≤ 8 → length es + 9 ≤ n → Within n [] (idle c es q f)
  unfolding turns
  ends_by zero c es q f h l = absurd (omega arith)
  ends_by (suc n) c [] q f h l = drains n c q f [] (omega arith) (omega arith)
  ends_by (suc n) c (x ∷ es) q f h l =
      by-event (λ (o : Option Event). Within n [] (hand_out x es (idle c (x ∷ es) q f) o)) (emits x)
      (λ p. waits n c x es q f [] p (omega arith))
      (λ e. pick_p (Within n []) (has_room q)
      (λ t. ends_by n c es (q ++ (e ∷ [])) f (omega (arith, length-append q (e ∷ []), ltb-true (length q) 8 t)) (omega arith))
      (λ t. pick_p (Within n []) f (λ u. ends_by n c es q f h (omega arith)) (λ u. ends_by n c [] (latched q) true (omega (arith, length-take 7 q)) (omega arith))))

  -- The same of any machine in which no effect waits.
  ends : (n : ℕ) (m : Model) → m.waiting ≡ None → Few m → length m.left + 9 ≤ n → Within n [] m
  ends n m w h l =
      subst (λ (u : Option Effect). Within n [] record { core = m.core; waiting = u; left = m.left; queue = m.queue; failed = m.failed }) (sym w)
      (ends_by n m.core m.left m.queue m.failed h l)

-- ---- What holds of settling
-- It ends at rest, with at most 8 events taken,
pub settle-ends : (ch : List Component) (max : ℕ) (m : Model) → m.waiting ≡ None → length m.queue ≤ 8
    → Rests (settle ch max m).machine × (length (settle ch max m).settled ≤ 8)
unfolding settle
settle-ends ch max m w h = ends ch max (length m.left + 9) m w h (omega arith)

-- with at most 8 still queued, whatever waits,
pub settle-few : (ch : List Component) (max : ℕ) (m : Model) → length m.queue ≤ 8 → length (settle ch max m).machine.queue ≤ 8
unfolding settle
settle-few ch max m h = turns-few ch max (length m.left + 9) record { machine = m; settled = [] } h

-- and more turns give the same.
pub settle-turns : (ch : List Component) (max : ℕ) (m : Model) → m.waiting ≡ None → length m.queue ≤ 8 → (n : ℕ) → length m.left + 9 ≤ n
    → turns ch max n record { machine = m; settled = [] } ≡ settle ch max m
unfolding settle
settle-turns ch max m w h n l =
    let k : ℕ = length m.left + 9 in
    turns-enough ch max k n record { machine = m; settled = [] } (ends ch max k m w h (omega arith)).0 l
