-- Section 3: recovery, each rule from a machine to the next one and the effects of the step.
use Rattle.std.specs.Prelude.{List, [], ◌∷◌, ℕ, ltb}
use Rattle.model.specs.Vocabulary.{pick}
use Rattle.components.specs.Chain.{position, same_id}
use Rattle.model.specs.declared.ComponentId.{ComponentId}
use Rattle.model.specs.declared.Component.{Component}
use Rattle.model.specs.declared.Event.TheVariants.{RecoveryFailed}
use Rattle.model.specs.declared.Effect.TheVariants.{ReportRecoveryFailed, Emit}
use Rattle.machine.specs.Status.{status_at, touch, retry_is, bump}
use Rattle.machine.specs.View.{Core, Out, out, stay, statuses_are}
use Rattle.rules.specs.Entry.{enter_walk}
use Rattle.rules.specs.Corruption.{gate_by_policy}

-- The retry count of i is n.
abbrev pub retry_at : List Component → ComponentId → ℕ → Core → Core
retry_at ch i n c = statuses_are (touch (retry_is n) c.statuses (position ch i)) c

-- The component starts over: retry 0, PreSupervision.
abbrev pub start_over : List Component → ComponentId → Core → Out
start_over ch i c = enter_walk ch (retry_at ch i 0 c)

-- A Required component that is not restored: the report, then the event that is to lock, and the state is kept.
abbrev pub give_up : ComponentId → Core → Out
give_up i c = out c (ReportRecoveryFailed i ∷ Emit RecoveryFailed ∷ [])

-- Exhaustion: Cascading cascades, Isolable gates, retry 0, PreSupervision. Required: ReportRecoveryFailed, then
-- Emit(RecoveryFailed), state kept.
abbrev pub exhausted : List Component → ComponentId → Core → Out
exhausted ch i c = gate_by_policy ch (position ch i) (give_up i) (start_over ch i) c

-- Restored in Recovering(f), only for f: one retry more; below max_retry PreSupervision, else exhaustion.
abbrev pub restored : List Component → ℕ → ComponentId → ComponentId → Core → Out
restored ch max i f c = pick (same_id i f)
    (pick (ltb (bump (status_at c.statuses (position ch i)).retry) max)
    (enter_walk ch (retry_at ch i (bump (status_at c.statuses (position ch i)).retry) c))
    (exhausted ch i (retry_at ch i (bump (status_at c.statuses (position ch i)).retry) c)))
    (stay c)

-- RecoveryUnavailable in Recovering(f), only for f: exhaustion.
abbrev pub unavailable : List Component → ComponentId → ComponentId → Core → Out
unavailable ch i f c = pick (same_id i f) (exhausted ch i c) (stay c)
