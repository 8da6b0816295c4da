-- What a step call gives, from what its parts give.
use Rattle.std.specs.Prelude.{Option, None, Some, Ok, Err, ◌≢◌}
use Rattle.std.specs.Option.{is_none, is_some}
use native.Mathlib.Omega.{arith}
use mathlib.Core.Path.{◌≡◌, refl, sym, ap, ◌∙◌, subst}
use mathlib.Core.Bool.{Bool, true, false}
use mathlib.Core.List.{List, [], ◌∷◌, ◌++◌}
use lib.ListN.{length}
use Rattle.model.specs.Vocabulary.{pick}
use Rattle.model.specs.declared.Event.{Event}
use Rattle.model.specs.declared.Effect.{Effect}
use Rattle.model.proofs.Pick.{pick_p}
use Rattle.store.specs.Sink.{held}
use Rattle.pending.specs.Queue.{events, has_room}
use Rattle.settling.specs.declared.Dispatch.{Dispatch}
use Rattle.settling.specs.declared.whole.Machine.{Machine}
use Rattle.settling.specs.declared.Reply.{Reply}
use Rattle.settling.specs.declared.Reply.TheVariants.{Done, Then, Failed}
use Rattle.settling.specs.Settle.{Model, Run, waiting_is, queue_is, enqueue, replied, settle}
use Rattle.settling.specs.View.{view, chain_of, Rests}
use Rattle.settling.specs.Parts.{together, Moves}
use Rattle.settling.proofs.Ends.{Few, fail-few, enqueue-few, settle-ends}
use Rattle.settling.proofs.Views.{held-short, enqueue-room, view-waiting, none_waits}
use Rattle.sm.specs.declared.Called.{Called}
use Rattle.sm.specs.declared.CallError.{CallError}
use Rattle.sm.specs.Calls.{Expected, answered, refused, done_by, begin_of, reply_by, reply_of}
use Rattle.sm.specs.Gives.{number_of, reported, CallGives}

-- Where the earlier event is done, nothing waits and nothing is queued.
pub done-both : (w : Option Effect) (q : List Event) → done_by w q ≡ true → (w ≡ None) × (q ≡ [])
done-both (Some x) q h = cc
done-both None [] h = (refl, refl)
done-both None (e ∷ q) h = cc

-- With an empty queue what waits tells whether a machine is done, and with a queued event it is not.
pub done_empty : (w : Option Effect) (q : List Event) → length q ≡ 0 → is_none w ≡ done_by w q
done_empty None [] h = refl
done_empty (Some x) q h = refl
done_empty None (e ∷ q) h = absurd (omega arith)

pub done_queued : (w : Option Effect) (q : List Event) → length q ≢ 0 → false ≡ done_by w q
done_queued (Some x) q h = refl
done_queued None [] h = absurd (omega arith)
done_queued None (e ∷ q) h = refl

module _ (x : Model) where
  -- A reply hands nothing out by itself, and leaves at most 8 events.
  pub replied-idle : (a : Reply) → (replied a (waiting_is None x)).waiting ≡ None
  replied-idle Done = refl
  replied-idle (Then e) = pick_p (λ (m : Model). m.waiting ≡ None) (has_room x.queue) (λ t. refl) (λ t. pick_p (λ (m : Model). m.waiting ≡ None) x.failed (λ u. refl) (λ u. refl))
  replied-idle Failed = pick_p (λ (m : Model). m.waiting ≡ None) x.failed (λ t. refl) (λ t. refl)

  pub replied-few : (a : Reply) → Few x → Few (replied a (waiting_is None x))
  replied-few Done h = h
  replied-few (Then e) h = enqueue-few e (waiting_is None x) h
  replied-few Failed h = fail-few (waiting_is None x) h

-- A call that settles: from parts that are read as y, to the machine r.
pub settles : (m r : Machine) (x y : Model) (e : Called) → x ≡ y → y.waiting ≡ None → Few y → r.chain ≡ m.chain → r.max_retry ≡ m.max_retry → view r ≡ (settle (chain_of m) m.max_retry x).machine → e ≡ reported r (Ok tt) → CallGives m (answered (settle (chain_of m) m.max_retry y)) e
settles m r x y e a h f chain max reads q =
    let run : Run = settle (chain_of m) m.max_retry y in
    let same : view r ≡ run.machine = reads ∙ ap (λ (z : Model). (settle (chain_of m) m.max_retry z).machine) a in
    let ends = settle-ends (chain_of m) m.max_retry y h f in
    subst (CallGives m (answered run)) (sym q) record {
      machine = same;
      number = refl;
      effect = sym (view-waiting r) ∙ ap (λ (z : Model). z.waiting) same;
      chain = chain;
      max_retry = max;
      kept = λ k. absurd (k refl);
      few = ends.1;
      valid = λ v. subst Rests (sym same) ends.0;
    }

-- A refused call gives the machine that it was given.
pub refuses : (m : Machine) (a : CallError) (e : Called) → e ≡ reported m (Err a) → CallGives m (refused (number_of (Err a)) (view m)) e
refuses m a e q = subst (CallGives m (refused (number_of (Err a)) (view m))) (sym q) record { machine = refl; number = refl; effect = sym (view-waiting m); chain = refl; max_retry = refl; kept = λ k. refl; few = omega arith; valid = λ v. v }

module _ (m : Machine) (e : Event) where
  abbrev done : Bool
  done = done_by (view m).waiting (view m).queue

  pub begin-done : done ≡ true → begin_of (chain_of m) m.max_retry (view m) e ≡ answered (settle (chain_of m) m.max_retry (queue_is (e ∷ []) (view m)))
  unfolding begin_of
  begin-done h = ap (λ (b : Bool). pick b (answered (settle (chain_of m) m.max_retry (queue_is (e ∷ []) (view m)))) (refused 10 (view m))) h

  pub begin-refused : done ≡ false → begin_of (chain_of m) m.max_retry (view m) e ≡ refused 10 (view m)
  unfolding begin_of
  begin-refused h = ap (λ (b : Bool). pick b (answered (settle (chain_of m) m.max_retry (queue_is (e ∷ []) (view m)))) (refused 10 (view m))) h

  -- The event stands alone in the queue.
  pub begun : done ≡ true → (r : Dispatch) → Moves m.work.sink.effects.len (λ es. enqueue e) m.dispatch r → together m.chain m.work r ≡ queue_is (e ∷ []) (view m)
  unfolding view
  begun h r b =
      let none = (done-both m.dispatch.waiting (events m.dispatch.pending) h).1 in
      b.machine _ (held m.work.sink) (held-short m.work m.dispatch)
      ∙ enqueue-room e (view m) (omega (arith, ap (λ (q : List Event). length q) none)) ∙ ap (λ (q : List Event). queue_is (q ++ (e ∷ [])) (view m)) none

  pub begun-idle : done ≡ true → (view m).waiting ≡ None
  begun-idle h = (done-both (view m).waiting (view m).queue h).0

-- By what waits a reply is refused or taken.
module _ (m : Machine) (a : Reply) where
  abbrev given : Expected
  given = answered (settle (chain_of m) m.max_retry (replied a (waiting_is None (view m))))

  given_by : (w : Option Effect) → is_some w ≡ true → reply_by (chain_of m) m.max_retry (view m) a w ≡ given
  given_by (Some x) h = refl
  given_by None h = cc

  pub reply-taken : is_some m.dispatch.waiting ≡ true → reply_of (chain_of m) m.max_retry (view m) a ≡ given
  unfolding reply_of view
  reply-taken h = given_by m.dispatch.waiting h

  pub reply-refused : is_some m.dispatch.waiting ≡ false → reply_of (chain_of m) m.max_retry (view m) a ≡ refused 7 (view m)
  unfolding reply_of
  reply-refused h = ap (reply_by (chain_of m) m.max_retry (view m) a) (view-waiting m ∙ none_waits m.dispatch.waiting h)
