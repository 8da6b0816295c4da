-- Section 4: a machine within a dispatch, one turn of it, and turns up to the next effect or the end.
use Rattle.std.specs.Prelude.{Bool, true, false, List, [], ◌∷◌, ◌++◌, ℕ, zero, suc, ◌+◌, length, Option, None, Some}
use Rattle.model.specs.Vocabulary.{pick}
use Rattle.model.specs.declared.Component.{Component}
use Rattle.model.specs.declared.Event.{Event}
use Rattle.model.specs.declared.Effect.{Effect}
use Rattle.pending.specs.Queue.{has_room, latched, emits}
use Rattle.machine.specs.View.{Core}
use Rattle.rot.specs.Step.{step_of}
use Rattle.settling.specs.declared.Reply.{Reply}
use Rattle.settling.specs.declared.Reply.TheVariants.{Done, Then, Failed}

-- A machine: what the rules see, the effect that waits for its reply, the effects of the batch that are not handed out
-- yet, the queue, and whether this dispatch has failed.
pub record Model : Type 0 where
  pub core : Core
  pub waiting : Option Effect
  pub left : List Effect
  pub queue : List Event
  pub failed : Bool

-- A machine with one part changed.
abbrev pub waiting_is : Option Effect → Model → Model
waiting_is w m = record { core = m.core; waiting = w; left = m.left; queue = m.queue; failed = m.failed }

abbrev pub left_is : List Effect → Model → Model
left_is es m = record { core = m.core; waiting = m.waiting; left = es; queue = m.queue; failed = m.failed }

abbrev pub queue_is : List Event → Model → Model
queue_is q m = record { core = m.core; waiting = m.waiting; left = m.left; queue = q; failed = m.failed }

abbrev pub failed_is : Bool → Model → Model
failed_is b m = record { core = m.core; waiting = m.waiting; left = m.left; queue = m.queue; failed = b }

-- The first failure in a dispatch: the batch ends, the newest queued event is dropped if 8 are queued, and EffectFailed
-- goes to the front of the queue.
abbrev pub latch : Model → Model
latch m = record { core = m.core; waiting = m.waiting; left = []; queue = latched m.queue; failed = true }

-- A failed reply. Later failures in the dispatch only end their batch.
abbrev pub fail : Model → Model
fail m = pick m.failed (left_is [] m) (latch m)

-- An event to the back of the queue. One that finds 8 queued is lost: that is the first failure, if there was none; after
-- one, the batch goes on.
abbrev pub enqueue : Event → Model → Model
enqueue e m = pick (has_room m.queue) (queue_is (m.queue ++ (e ∷ [])) m) (pick m.failed m (latch m))

-- A reply is done, done with one event, or failed.
abbrev pub replied : Reply → Model → Model
replied Done m = m
replied (Then e) m = enqueue e m
replied Failed m = fail m

-- The next effect x of the batch, before es: Emit's event is queued, any other effect is handed out.
abbrev pub hand_out : Effect → List Effect → Model → Option Event → Model
hand_out x es m None = waiting_is (Some x) (left_is es m)
hand_out x es m (Some e) = enqueue e (left_is es m)

-- The front event e, before q, is taken and settled: a step, whose effects are the batch.
abbrev pub front_taken : List Component → ℕ → Event → List Event → Model → Model
front_taken ch max e q m = record { core = (step_of ch max m.core e).core; waiting = m.waiting; left = (step_of ch max m.core e).said; queue = q; failed = m.failed }

-- One turn: nothing while an effect waits; else the next effect of the batch; else the front event; else the dispatch has
-- ended, and it counts as failed no more.
abbrev pub turn_by : List Component → ℕ → Model → Option Effect → List Effect → List Event → Model
turn_by ch max m (Some x) es q = m
turn_by ch max m None (x ∷ es) q = hand_out x es m (emits x)
turn_by ch max m None [] (e ∷ q) = front_taken ch max e q m
turn_by ch max m None [] [] = failed_is false m

abbrev pub turn_of : List Component → ℕ → Model → Model
turn_of ch max m = turn_by ch max m m.waiting m.left m.queue

-- The event that the turn takes, if it takes one.
abbrev pub taken_by : Option Effect → List Effect → List Event → Option Event
taken_by (Some x) es q = None
taken_by None (x ∷ es) q = None
taken_by None [] (e ∷ q) = Some e
taken_by None [] [] = None

abbrev pub next_event : Model → Option Event
next_event m = taken_by m.waiting m.left m.queue

-- A call under way: the machine, and the events settled so far, the newest first.
pub record Run : Type 0 where
  pub machine : Model
  pub settled : List Event

abbrev pub noted : Option Event → List Event → List Event
noted None es = es
noted (Some e) es = e ∷ es

abbrev pub turned : List Component → ℕ → Run → Run
turned ch max r = record { machine = turn_of ch max r.machine; settled = noted (next_event r.machine) r.settled }

unfoldable pub turns : List Component → ℕ → ℕ → Run → Run
turns ch max zero r = r
turns ch max (suc n) r = turns ch max n (turned ch max r)

-- Turns up to the next effect or the end: at most one for each effect left, one for each of 8 events and one more, since
-- what an event hands out never begins with Emit. A turn beyond that changes nothing: the contracts say of every machine
-- that a call gives that it rests.
unfoldable pub settle : List Component → ℕ → Model → Run
settle ch max m = turns ch max (length m.left + 9) record { machine = m; settled = [] }
