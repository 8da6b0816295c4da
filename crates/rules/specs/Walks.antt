-- Section 3: verdicts on firmware and boot progress, each rule from a machine to the next one and the effects of the step.
use Rattle.std.specs.Prelude.{List, [], ◌∷◌, suc, eqb, ltb, length, Option, None, Some}
use Rattle.model.specs.Vocabulary.{pick}
use Rattle.components.specs.Chain.{position, same_id}
use Rattle.model.specs.declared.ComponentId.{ComponentId}
use Rattle.model.specs.declared.Component.{Component}
use Rattle.model.specs.declared.ComponentKind.{ComponentKind}
use Rattle.model.specs.declared.ComponentKind.TheVariants.{Active, Passive}
use Rattle.model.specs.declared.State.{State}
use Rattle.model.specs.declared.State.TheVariants.{PowerOnReset, PreSupervision, AwaitingReady, Ready, Updating, Recovering, Locked}
use Rattle.model.specs.declared.Effect.TheVariants.{ReleaseReset}
use Rattle.components.specs.Links.{kind_at}
use Rattle.machine.specs.Status.{status_at, iso, touch, booted, lift}
use Rattle.machine.specs.View.{Core, Out, stay, after, in_state, statuses_are}
use Rattle.rules.specs.Entry.{enter_ready, enter_recovering, onward}

-- The state of a walk that released i: an Active one released in PreSupervision is waited for.
abbrev pub released_in : State → ComponentKind → ComponentId → State
released_in PowerOnReset k i = PowerOnReset
released_in PreSupervision Active i = AwaitingReady (Some i)
released_in PreSupervision Passive i = PreSupervision
released_in (AwaitingReady o) k i = AwaitingReady o
released_in Ready k i = Ready
released_in Updating k i = Updating
released_in (Recovering f) k i = Recovering f
released_in Locked k i = Locked

-- VerificationPassed: only for the cursor's component. An id outside the chain has the length for its position, where the
-- cursor may stand too: it is turned away before (rot:Step.in_chain).
abbrev pub pass : List Component → ComponentId → Core → Out
pass ch i c = pick (eqb (position ch i) c.cursor)
    (after (ReleaseReset i ∷ []) (onward ch (suc (position ch i)) (released_in c.state (kind_at ch (position ch i)) i) (statuses_are (touch lift c.statuses (position ch i)) c)))
    (stay c)

-- VerificationFailed: Recovering unless Isolated.
abbrev pub verify_failed : List Component → ComponentId → Core → Out
verify_failed ch i c = pick (iso (status_at c.statuses (position ch i))) (stay c) (enter_recovering ch i c)

-- Booted, ComponentReady: awaiting_boot off.
abbrev pub no_wait : List Component → ComponentId → Core → Core
no_wait ch i c = statuses_are (touch booted c.statuses (position ch i)) c

abbrev pub progress : List Component → ComponentId → Core → Out
progress ch i c = stay (no_wait ch i c)

-- The component that AwaitingReady waits for.
abbrev pub awaited : State → Option ComponentId
awaited PowerOnReset = None
awaited PreSupervision = None
awaited (AwaitingReady o) = o
awaited Ready = None
awaited Updating = None
awaited (Recovering f) = None
awaited Locked = None

-- ComponentReady in AwaitingReady: for its own id also Ready if the cursor is at the end, else AwaitingReady(none).
abbrev pub component_ready : List Component → ComponentId → Option ComponentId → Core → Out
component_ready ch i None c = stay (no_wait ch i c)
component_ready ch i (Some j) c = pick (same_id j i)
    (pick (ltb c.cursor (length ch)) (stay (in_state (AwaitingReady None) (no_wait ch i c))) (enter_ready (no_wait ch i c)))
    (stay (no_wait ch i c))
