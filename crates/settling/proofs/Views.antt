-- The parts of the code's machine and how they are read: what each change of a part does to the reading.
use Rattle.std.specs.Prelude.{Option, None, Some, get_or}
use Rattle.std.specs.Option.{is_some}
use Prim.Native.Nat.{ℕ, ◌+◌, ◌<◌, ◌≤◌}
use native.Mathlib.Numerals.{add-one}
use native.Mathlib.Omega.{arith}
use mathlib.Core.Path.{◌≡◌, refl, sym, ap, ◌∙◌}
use mathlib.Core.Bool.{Bool, true, false}
use mathlib.Core.List.{List, [], ◌∷◌, ◌++◌}
use lib.ListN.{length, drop, length-take, drop_of_length-le}
use lib.Seq.{drop-cons}
use borrow.Author.Tests.{lt-ltb, le-ltb}
use Rattle.model.specs.Vocabulary.{pick}
use Rattle.model.specs.declared.Component.{Component}
use Rattle.model.specs.declared.Event.{Event}
use Rattle.model.specs.declared.Effect.{Effect}
use Rattle.components.specs.declared.Chain.{Chain}
use Rattle.components.specs.Tables.{entries, size}
use Rattle.store.specs.Sink.{held}
use Rattle.pending.specs.Queue.{events, rest, emits}
use Rattle.machine.specs.declared.Work.{Work}
use Rattle.machine.specs.View.{Core, core_of, Whole}
use Rattle.rot.specs.Stepped.{bare, Stepped}
use Rattle.settling.specs.declared.Dispatch.{Dispatch}
use Rattle.settling.specs.declared.whole.Machine.{Machine}
use Rattle.settling.specs.Settle.{Model, left_is, queue_is, latch, fail, enqueue, hand_out, front_taken, turn_by, turn_of}
use Rattle.settling.specs.View.{view, within, Becomes}
use Rattle.settling.specs.Parts.{together, Moves, Taken, Parts, Makes}
use Rattle.settling.proofs.Ends.{Few}

-- They are the parts of a machine.
pub parts-of : (m : Machine) → Whole m.work → Parts m.chain m.work m.dispatch
parts-of m whole = record { accepted = m.accepted; fit = m.fit; room = m.room; few = m.few; whole = whole }

pub makes-becomes : {m : Machine} {x : Model} (r : Machine) → r.chain ≡ m.chain → r.max_retry ≡ m.max_retry → Makes m.chain x r.work r.dispatch → Becomes m x r
unfolding view
makes-becomes r p q b = record { machine = (λ j. together (p j) r.work r.dispatch) ∙ b.reads; chain = p; max_retry = q }

pub view-waiting : (m : Machine) → (view m).waiting ≡ m.dispatch.waiting
unfolding view
view-waiting m = refl

pub view-few : (m : Machine) → Few (view m)
unfolding view
view-few m = m.few

-- What is done to a dispatch, in other words.
pub moves-as : {len : ℕ} {f g : List Effect → Model → Model} {d r : Dispatch} → Moves len f d r → ((c : Core) (es : List Effect) → f es (within c es d) ≡ g es (within c es d)) → Moves len g d r
moves-as b e = record { machine = λ c es h. b.machine c es h ∙ e c es; few = b.few }

-- A sink holds no more effects than it says. Nothing is left of a batch whose end is reached, and else the next effect and those
-- after it.
module _ (w : Work) (d : Dispatch) where
  pub held-short : length (held w.sink) ≤ w.sink.effects.len
  unfolding held
  held-short = omega (arith, length-take w.sink.effects.len w.sink.effects.items)

  pub left-some : (x : Effect) → d.next < length (held w.sink) → x ≡ get_or (held w.sink) d.next x → drop d.next (held w.sink) ≡ x ∷ drop (d.next + 1) (held w.sink)
  left-some x h e = drop-cons (held w.sink) d.next x h ∙ (λ j. sym e j ∷ drop (sym (add-one d.next) j) (held w.sink))

  pub left-none : length (held w.sink) ≤ d.next → drop d.next (held w.sink) ≡ []
  left-none h = drop_of_length-le (held w.sink) {i = d.next} h

length-rest : (q : List Event) → length (rest q) ≤ length q
length-rest [] = omega arith
length-rest (e ∷ q) = omega arith

-- What is known of parts that were changed, and how they are read.
module _ {c : Chain} where
  pub makes-as : {s : Work} {r : Dispatch} {x y : Model} → Makes c x s r → x ≡ y → Makes c y s r
  makes-as b e = record { parts = b.parts; reads = b.reads ∙ e }

  pub makes-same : {w : Work} {d : Dispatch} → Parts c w d → Makes c (together c w d) w d
  makes-same k = record { parts = k; reads = refl }

  pub moves-makes : {w : Work} {d r : Dispatch} {len : ℕ} (f : List Effect → Model → Model) → Parts c w d → length (held w.sink) ≤ len → Moves len f d r → Makes c (f (held w.sink) (together c w d)) w r
  moves-makes {w} f k h b = record {
    parts = record { accepted = k.accepted; fit = k.fit; room = k.room; few = b.few k.few; whole = k.whole };
    reads = b.machine (core_of (size c) (bare w.state w.rot)) (held w.sink) h;
  }

  -- The step that settles the front event.
  pub stepped-makes : {w s : Work} {d r : Dispatch} (max : ℕ) (e : Event) → Parts c w d → size c ≤ 255 → Stepped c max (bare w.state w.rot) e s → Whole s → Taken d r
      → Makes c (front_taken (entries c) max e (rest (events d.pending)) (together c w d)) s r
  stepped-makes {w} {s} {d} {r} max e k small g whole t = record {
    parts = record {
      accepted = k.accepted;
      fit = g.fit k.fit;
      room = omega (arith, g.few);
      few = omega (arith, k.few, ap length t.queue, length-rest (events d.pending));
      whole = whole;
    };
    reads = λ j. record { core = g.core j; waiting = t.waiting j; left = drop (t.next j) (g.effects j); queue = t.queue j; failed = t.failed j };
  }

-- An event for the queue: it fits, or it is lost and nothing new fails, or it is the first failure.
module _ (e : Event) (x : Model) where
  pub enqueue-room : length x.queue < 8 → enqueue e x ≡ queue_is (x.queue ++ (e ∷ [])) x
  enqueue-room h = ap (λ (b : Bool). pick b (queue_is (x.queue ++ (e ∷ [])) x) (pick x.failed x (latch x))) (lt-ltb (length x.queue) 8 h)

  enqueue-full : 8 ≤ length x.queue → enqueue e x ≡ pick x.failed x (latch x)
  enqueue-full h = ap (λ (b : Bool). pick b (queue_is (x.queue ++ (e ∷ [])) x) (pick x.failed x (latch x))) (le-ltb (length x.queue) 8 h)

  pub enqueue-first : 8 ≤ length x.queue → x.failed ≡ false → enqueue e x ≡ latch x
  enqueue-first h f = enqueue-full h ∙ ap (λ (b : Bool). pick b x (latch x)) f

pub fail-first : (x : Model) → x.failed ≡ false → fail x ≡ latch x
fail-first x f = ap (λ (b : Bool). pick b (left_is [] x) (latch x)) f

-- A turn, by what waits, is left and is queued.
module _ (ch : List Component) (max : ℕ) (x : Model) where
  pub turn_by_lem : (w : Option Effect) (es : List Effect) (q : List Event) → x.waiting ≡ w → x.left ≡ es → x.queue ≡ q → turn_of ch max x ≡ turn_by ch max x w es q
  turn_by_lem w es q a b c = λ j. turn_by ch max x (a j) (b j) (c j)

-- While an effect waits a turn changes nothing; else nothing waits.
still-by : (ch : List Component) (max : ℕ) (x : Model) (w : Option Effect) (es : List Effect) (q : List Event) → is_some w ≡ true → turn_by ch max x w es q ≡ x
still-by ch max x (Some y) es q h = refl
still-by ch max x None es q h = cc

pub turn-still : (ch : List Component) (max : ℕ) (x : Model) → is_some x.waiting ≡ true → turn_of ch max x ≡ x
turn-still ch max x h = still-by ch max x x.waiting x.left x.queue h

pub none_waits : (w : Option Effect) → is_some w ≡ false → w ≡ None
none_waits None h = refl
none_waits (Some x) h = cc

pub no_length : (q : List Event) → length q ≤ 0 → q ≡ []
no_length [] h = refl
no_length (e ∷ q) h = absurd (omega arith)

-- The next effect of the batch is handed out, while none waits: a turn.
module _ {c : Chain} {w : Work} {d r : Dispatch} {len : ℕ} (max : ℕ) (k : Parts c w d) (free : d.waiting ≡ None) (more : d.next < length (held w.sink)) (most : length (held w.sink) ≤ len) where
  pub hands-turn : (x : Effect) → Moves len (λ es y. hand_out x (drop (d.next + 1) es) y (emits x)) d r → x ≡ get_or (held w.sink) d.next x → Makes c (turn_of (entries c) max (together c w d)) w r
  hands-turn x h e =
      makes-as (moves-makes (λ es y. hand_out x (drop (d.next + 1) es) y (emits x)) k most h)
      (sym (turn_by_lem (entries c) max (together c w d) None (x ∷ drop (d.next + 1) (held w.sink)) (events d.pending) free (left-some w d x more e) refl))
