-- Demand 3 is about something: of every list of calls there is a history of the code's own structs. Each machine that the
-- definitions reach fits into the struct, and is at rest between two calls since settling ends.
use Rattle.std.specs.Prelude.{Option, None, Some, Result, Ok, Err}
use mathlib.Core.Path.{◌≡◌, refl, sym, subst, ap, ◌∙◌}
use mathlib.Core.Bool.{Bool, true, false}
use mathlib.Core.List.{List, [], ◌∷◌, ◌++◌}
use Prim.Native.Nat.{ℕ, zero, suc, ◌+◌, ◌*◌, ◌≤◌}
use native.Mathlib.Omega.{arith}
use lib.ListN.{length, length-append, length-take, length-replicate}
use borrow.Author.Tests.{ltb-true}
use Rattle.model.specs.Vocabulary.{pick}
use Rattle.components.specs.Chain.{entries_of, verdict_of, Sound, no_refusal}
use Rattle.model.specs.declared.Component.{Component}
use Rattle.components.specs.declared.ComponentList.{ComponentList}
use Rattle.model.specs.declared.Event.{Event}
use Rattle.model.specs.declared.Effect.{Effect}
use Rattle.model.proofs.Pick.{pick_p}
use Rattle.components.proofs.Accepted.{accepted}
use Rattle.pending.specs.Queue.{has_room, emits}
use Rattle.machine.specs.Status.{fresh}
use Rattle.machine.specs.View.{Core}
use Rattle.rot.proofs.Bound.{step-length, step-cursor}
use Rattle.settling.specs.declared.whole.Machine.{Machine}
use Rattle.settling.specs.Settle.{Model, Run, queue_is, latch, fail, enqueue, hand_out, turn_by, turned, turns, settle, replied}
use Rattle.settling.specs.View.{view, chain_of, Rests, Valid}
use Rattle.settling.proofs.Ends.{settle-ends}
use Rattle.sm.specs.declared.Called.{Called}
use Rattle.settling.specs.declared.Reply.{Reply}
use Rattle.settling.specs.declared.Reply.TheVariants.{Done, Then, Failed}
use Rattle.sm.specs.Calls.{Expected, answered, refused, done_by, begin_of, reply_by, reply_of, start_of}
use Rattle.sm.specs.Gives.{NewGives, number_of, CallGives}
use Rattle.sm.specs.declared.CallError.{CallError}
use Rattle.sm.specs.declared.CallError.TheVariants.{NothingWaits, NotDone}
use Rattle.history.specs.History.{Call, Begin, ReplyTo, expected, machine_after, expected_after, answers_to}
use Rattle.history.specs.Demand.{Follows, made, called, History, NotEmpty}
use Rattle.history.proofs.Few.{Reached, step-reached, step-few, start-reached}
use Rattle.history.proofs.Stored.{store_of, store-same, Fitting, Sizes, store_view, store-chain, store-entries, store-max_retry, store-valid, store-sizes}

-- ---- Every machine on the way fits

-- A status for each component, a cursor within the chain or at its end, room for the batch and for the queue.
record Held (ch : List Component) (m : Model) : Type 0 where
  sized : length m.core.statuses ≡ length ch
  low : m.core.cursor ≤ length ch
  reached : Reached ch m.core.state
  room : length m.left ≤ 2 * length ch + 1
  few : length m.queue ≤ 8

abbrev mk : Core → Option Effect → List Effect → List Event → Bool → Model
mk c w b q f = record { core = c; waiting = w; left = b; queue = q; failed = f }

module _ (ch : List Component) (max : ℕ) where
  -- The same core, and no more of a batch.
  as-held : (m : Model) (w : Option Effect) (b : List Effect) (q : List Event) (f : Bool) → Held ch m → length b ≤ length m.left → length q ≤ 8 → Held ch (mk m.core w b q f)
  as-held m w b q f h l k = record { sized = h.sized; low = h.low; reached = h.reached; room = omega (arith, h.room); few = k }

  latch-held : (m : Model) → Held ch m → Held ch (latch m)
  latch-held m h = as-held m m.waiting [] _ true h (omega arith) (omega (arith, length-take 7 m.queue))

  fail-held : (m : Model) → Held ch m → Held ch (fail m)
  fail-held m h = pick_p (Held ch) m.failed (λ t. as-held m m.waiting [] m.queue m.failed h (omega arith) h.few) (λ t. latch-held m h)

  enqueue-held : (e : Event) (m : Model) → Held ch m → Held ch (enqueue e m)
  enqueue-held e m h =
      pick_p (Held ch) (has_room m.queue)
      (λ t. as-held m m.waiting m.left (m.queue ++ (e ∷ [])) m.failed h (omega arith) (omega (arith, length-append m.queue (e ∷ []), ltb-true (length m.queue) 8 t)))
      (λ t. pick_p (Held ch) m.failed (λ u. h) (λ u. latch-held m h))

  hand-held : (c : Core) (x : Effect) (b : List Effect) (q : List Event) (f : Bool) (o : Option Event) → Held ch (mk c None (x ∷ b) q f) → Held ch (hand_out x b (mk c None (x ∷ b) q f) o)
  hand-held c x b q f None h = as-held (mk c None (x ∷ b) q f) (Some x) b q f h (omega arith) h.few
  hand-held c x b q f (Some e) h = enqueue-held e (mk c None b q f) (as-held (mk c None (x ∷ b) q f) None b q f h (omega arith) h.few)

  turn-held : (c : Core) (w : Option Effect) (b : List Effect) (q : List Event) (f : Bool) → Held ch (mk c w b q f) → Held ch (turn_by ch max (mk c w b q f) w b q)
  turn-held c (Some x) b q f h = h
  turn-held c None (x ∷ b) q f h = hand-held c x b q f (emits x) h
  turn-held c None [] (e ∷ q) f h = record {
    sized = step-length ch max c e h.sized ∙ h.sized;
    low = step-cursor ch max c e h.low h.sized;
    reached = step-reached ch max c e h.reached;
    room = step-few ch max c e h.reached h.sized;
    few = omega (arith, h.few);
  }
  turn-held c None [] [] f h = as-held (mk c None [] [] f) None [] [] false h (omega arith) h.few

  turns-held : (k : ℕ) (r : Run) → Held ch r.machine → Held ch (turns ch max k r).machine
  unfolding turns
  turns-held zero r h = h
  turns-held (suc k) r h = turns-held k (turned ch max r) (turn-held r.machine.core r.machine.waiting r.machine.left r.machine.queue r.machine.failed h)

  settle-held : (m : Model) → Held ch m → Held ch (settle ch max m).machine
  unfolding settle
  settle-held m h = turns-held _ record { machine = m; settled = [] } h

  -- A reply leaves no effect waiting.
  abbrev Free : Model → Type 0
  Free m = (m.waiting ≡ None) × Held ch m

  waiting-same : (P : Option Effect → Type 0) (e : Event) (m : Model) → P m.waiting → P (enqueue e m).waiting
  waiting-same P e m h =
      pick_p (λ (n : Model). P n.waiting) (has_room m.queue) (λ t. h)
      (λ t. pick_p (λ (n : Model). P n.waiting) m.failed (λ u. h) (λ u. h))

  replied-free : (a : Reply) (m : Model) → Free m → Free (replied a m)
  replied-free Done m h = h
  replied-free (Then e) m h = (waiting-same (λ (w : Option Effect). w ≡ None) e m h.0, enqueue-held e m h.1)
  replied-free Failed m h = (pick_p (λ (n : Model). n.waiting ≡ None) m.failed (λ t. h.0) (λ t. h.0), fail-held m h.1)

-- ---- Between two calls

module _ (ch : List Component) (max : ℕ) where
  record Standing (m : Model) : Type 0 where
    held : Held ch m
    rests : Rests m

  -- What a call on m is to give: a machine that stands, few events, and m itself if it is refused.
  record Answering (m : Model) (x : Expected) : Type 0 where
    standing : Standing x.machine
    few : length x.settled ≤ 8
    kept : (x.number ≡ 0 → ⊥) → x.machine ≡ m

  refusing : (n : ℕ) (m : Model) → Standing m → Answering m (refused n m)
  refusing n m s = record { standing = s; few = omega arith; kept = λ u. refl }

  settling : (m n : Model) → Free ch max n → Answering m (answered (settle ch max n))
  settling m n h =
      let r = settle-ends ch max n h.0 h.1.few in
      record {
        standing = record { held = settle-held ch max n h.1; rests = r.0 };
        few = r.1;
        kept = λ u. absurd (u refl);
      }

  begun : (c : Core) (w : Option Effect) (b : List Effect) (q : List Event) (f : Bool) (e : Event) → Standing (mk c w b q f)
      → Answering (mk c w b q f) (pick (done_by w q) (answered (settle ch max (queue_is (e ∷ []) (mk c w b q f)))) (refused 10 (mk c w b q f)))
  begun c (Some x) b q f e s = refusing 10 (mk c (Some x) b q f) s
  begun c None b (g ∷ q) f e s = refusing 10 (mk c None b (g ∷ q) f) s
  begun c None b [] f e s =
      settling (mk c None b [] f) (mk c None b (e ∷ []) f) (refl, as-held ch max (mk c None b [] f) None b (e ∷ []) f s.held (omega arith) (omega arith))

  answers : (c : Core) (w : Option Effect) (b : List Effect) (q : List Event) (f : Bool) (a : Reply) → Standing (mk c w b q f) → Answering (mk c w b q f) (reply_by ch max (mk c w b q f) a w)
  answers c None b q f a s = refusing 7 (mk c None b q f) s
  answers c (Some x) b q f a s =
      settling (mk c (Some x) b q f) (replied a (mk c None b q f))
      (replied-free ch max a (mk c None b q f) (refl, as-held ch max (mk c (Some x) b q f) None b q f s.held (omega arith) s.held.few))

  call-answers : (m : Model) (k : Call) → Standing m → Answering m (expected ch max m k)
  unfolding begin_of reply_of
  call-answers m (Begin e) s = begun m.core m.waiting m.left m.queue m.failed e s
  call-answers m (ReplyTo a) s = answers m.core m.waiting m.left m.queue m.failed a s

  start-stands : Standing (start_of ch)
  unfolding start_of
  start-stands = record {
    held = record { sized = length-replicate (length ch) fresh; low = omega arith; reached = start-reached ch; room = omega arith; few = omega arith };
    rests = (refl, refl, refl);
  }

  stands : (ks : List Call) → Standing (machine_after ch max ks)
  unfolding machine_after
  stands [] = start-stands
  stands (k ∷ ks) = (call-answers (machine_after ch max ks) k (stands ks)).standing

-- What the code answers to a call on a machine, and that its number is the one that document 01 gives.
abbrev told_to : Option Effect → Result (Unit {0}) CallError
told_to None = Err NothingWaits
told_to (Some x) = Ok tt

abbrev told_by : Model → Call → Result (Unit {0}) CallError
told_by m (Begin e) = pick (done_by m.waiting m.queue) (Ok tt) (Err NotDone)
told_by m (ReplyTo a) = told_to m.waiting

told-reply : (ch : List Component) (max : ℕ) (m : Model) (a : Reply) (w : Option Effect) → number_of (told_to w) ≡ (reply_by ch max m a w).number
told-reply ch max m a None = refl
told-reply ch max m a (Some x) = refl

told-pick : (b : Bool) (x y : Expected) → x.number ≡ 0 → y.number ≡ 10 → number_of (pick b (Ok tt) (Err NotDone)) ≡ (pick b x y).number
told-pick true x y h g = sym h
told-pick false x y h g = sym g

told-number : (ch : List Component) (max : ℕ) (m : Model) (k : Call) → number_of (told_by m k) ≡ (expected ch max m k).number
unfolding begin_of reply_of
told-number ch max m (Begin e) = told-pick (done_by m.waiting m.queue) _ _ refl refl
told-number ch max m (ReplyTo a) = told-reply ch max m a m.waiting

-- ---- The history

module _ (l : ComponentList) (max : ℕ) (v : verdict_of l.len (entries_of l) ≡ no_refusal) where
  sound : Sound l.len (entries_of l)
  sound = (accepted l.len (entries_of l)).0 v

  fits : (m : Model) → Standing (entries_of l) max m → Fitting (length (entries_of l)) m
  fits m s = record {
    sized = s.held.sized;
    low = s.held.low;
    room = omega (arith, s.held.room, length-take l.len l.entries, sound.few);
    few = s.held.few;
  }

  after_fits : (ks : List Call) → Fitting (length (entries_of l)) (machine_after (entries_of l) max ks)
  after_fits ks = fits (machine_after (entries_of l) max ks) (stands (entries_of l) max ks)

  -- The struct for the machine after a list of calls, and what is known of it.
  abbrev at : List Call → Machine
  at ks = store_of l sound max (machine_after (entries_of l) max ks) (after_fits ks)

  read : (ks : List Call) → view (at ks) ≡ machine_after (entries_of l) max ks
  read ks = store_view l sound max (machine_after (entries_of l) max ks) (after_fits ks)

  chained : (ks : List Call) → chain_of (at ks) ≡ entries_of l
  chained ks = store-entries l sound max (machine_after (entries_of l) max ks) (after_fits ks)

  limited : (ks : List Call) → (at ks).max_retry ≡ max
  limited ks = store-max_retry l sound max (machine_after (entries_of l) max ks) (after_fits ks)

  valid : (ks : List Call) → Valid (at ks)
  valid ks = store-valid l sound max (machine_after (entries_of l) max ks) (after_fits ks) (stands (entries_of l) max ks).rests

  same-chain : (ks js : List Call) → (at ks).chain ≡ (at js).chain
  same-chain ks js =
      store-chain l sound max (machine_after (entries_of l) max ks) (after_fits ks)
      ∙ sym (store-chain l sound max (machine_after (entries_of l) max js) (after_fits js))

  -- What the code's call on the struct is to give is what the definitions' call on the machine gives.
  asked : (ks : List Call) (k : Call) → expected_after (entries_of l) max ks k ≡ expected (chain_of (at ks)) (at ks).max_retry (view (at ks)) k
  asked ks k =
      sym
      (ap (λ (c : List Component). expected c (at ks).max_retry (view (at ks)) k) (chained ks)
      ∙ ap (λ (b : ℕ). expected (entries_of l) b (view (at ks)) k) (limited ks)
      ∙ ap (λ (m : Model). expected (entries_of l) max m k) (read ks))

  abbrev gives : List Call → Call → Called
  gives ks k = record { machine = at (k ∷ ks); answer = told_by (machine_after (entries_of l) max ks) k; effect = (expected_after (entries_of l) max ks k).effect }

  next : (ks : List Call) (k : Call) → machine_after (entries_of l) max (k ∷ ks) ≡ (expected_after (entries_of l) max ks k).machine
  unfolding machine_after
  next ks k = refl

  gave : (ks : List Call) (k : Call) → CallGives (at ks) (expected_after (entries_of l) max ks k) (gives ks k)
  gave ks k =
      let a = call-answers (entries_of l) max (machine_after (entries_of l) max ks) k (stands (entries_of l) max ks) in
      record {
        machine = read (k ∷ ks) ∙ next ks k;
        number = told-number (entries_of l) max (machine_after (entries_of l) max ks) k;
        effect = refl;
        chain = same-chain (k ∷ ks) ks;
        max_retry = limited (k ∷ ks) ∙ sym (limited ks);
        kept =
            λ u.
            store-same l sound max (machine_after (entries_of l) max (k ∷ ks)) (machine_after (entries_of l) max ks) (after_fits (k ∷ ks)) (after_fits ks)
            (next ks k ∙ a.kept u);
        few = a.few;
        valid = λ u. valid (k ∷ ks);
      }

  begins : NewGives l max (Ok (at []))
  unfolding machine_after
  begins = (v, record { machine = read []; chain = chained []; max_retry = limited []; valid = valid [] })

  follows : (ks : List Call) → Follows l max ks (answers_to (entries_of l) max ks) (at ks)
  unfolding answers_to
  follows [] = made (at []) begins
  follows (k ∷ ks) =
      subst (λ (n : ℕ). Follows l max (k ∷ ks) (record { number = n; effect = (expected_after (entries_of l) max ks k).effect } ∷ answers_to (entries_of l) max ks) (at (k ∷ ks)))
      (told-number (entries_of l) max (machine_after (entries_of l) max ks) k)
      (called k (gives ks k) (follows ks) (subst (λ (x : Expected). CallGives (at ks) x (gives ks k)) (asked ks k) (gave ks k)))

  sizes : (ks : List Call) → Sizes (at ks)
  sizes ks = store-sizes l sound max (machine_after (entries_of l) max ks) (after_fits ks)

-- There is a history, and its machine has arrays of the lengths that the code declares.
pub sized-history : (l : ComponentList) (max : ℕ) (ks : List Call) → verdict_of l.len (entries_of l) ≡ no_refusal → (h : History l max ks) × Sizes h.machine
sized-history l max ks v = (record { answers = answers_to (entries_of l) max ks; machine = at l max v ks; follows = follows l max v ks }, sizes l max v ks)

pub not-empty : NotEmpty
not-empty l max ks v = (sized-history l max ks v).0
