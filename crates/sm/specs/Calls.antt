-- Section 4: the step calls, and questions 7 and 10.
use Rattle.std.specs.Prelude.{Bool, true, false, List, [], ◌∷◌, ℕ, length, replicate, Option, None, Some}
use Rattle.model.specs.declared.Effect.{Effect}
use Rattle.model.specs.Vocabulary.{pick}
use Rattle.model.specs.declared.Component.{Component}
use Rattle.model.specs.declared.State.TheVariants.{PowerOnReset}
use Rattle.model.specs.declared.Event.{Event}
use Rattle.machine.specs.Status.{fresh}
use Rattle.settling.specs.declared.Reply.{Reply}
use Rattle.settling.specs.Settle.{Model, Run, waiting_is, queue_is, replied, settle}

-- What a step call gives: the machine, a number, the effect now waiting or none; and which events it settled, the newest
-- first.
pub record Expected : Type 0 where
  pub machine : Model
  pub number : ℕ
  pub effect : Option Effect
  pub settled : List Event

abbrev pub answered : Run → Expected
answered r = record { machine = r.machine; number = 0; effect = r.machine.waiting; settled = r.settled }

-- A refused call changes and settles nothing, and still gives the waiting effect.
abbrev pub refused : ℕ → Model → Expected
refused n m = record { machine = m; number = n; effect = m.waiting; settled = [] }

-- Question 10: is the earlier event done, with no effect waiting and the queue empty?
abbrev pub done_by : Option Effect → List Event → Bool
done_by (Some x) q = false
done_by None [] = true
done_by None (e ∷ q) = false

-- Begin an event: it is settled up to the next effect or the end.
unfoldable pub begin_of : List Component → ℕ → Model → Event → Expected
begin_of ch max m e = pick (done_by m.waiting m.queue) (answered (settle ch max (queue_is (e ∷ []) m))) (refused 10 m)

-- Question 7: is an effect waiting for this reply?
abbrev pub reply_by : List Component → ℕ → Model → Reply → Option Effect → Expected
reply_by ch max m a None = refused 7 m
reply_by ch max m a (Some x) = answered (settle ch max (replied a (waiting_is None m)))

-- Reply to the waiting effect: the machine settles up to the next effect or the end.
unfoldable pub reply_of : List Component → ℕ → Model → Reply → Expected
reply_of ch max m a = reply_by ch max m a m.waiting

-- The machine that new gives for an accepted chain.
unfoldable pub start_of : List Component → Model
start_of ch = record { core = record { state = PowerOnReset; cursor = 0; statuses = replicate (length ch) fresh; window = false }; waiting = None; left = []; queue = []; failed = false }
