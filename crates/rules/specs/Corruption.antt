-- Section 3: corruption, each rule from a machine to the next one and the effects of the step.
use Rattle.std.specs.Prelude.{List, [], ◌∷◌, ℕ, suc}
use Rattle.model.specs.Vocabulary.{pick}
use Rattle.components.specs.Chain.{position}
use Rattle.model.specs.declared.ComponentId.{ComponentId}
use Rattle.model.specs.declared.Component.{Component}
use Rattle.model.specs.declared.FailurePolicy.{FailurePolicy}
use Rattle.model.specs.declared.FailurePolicy.TheVariants.{Required, Isolable, Cascading}
use Rattle.model.specs.declared.Effect.{Effect}
use Rattle.model.specs.declared.Effect.TheVariants.{DiscardStaged, ReportUpdateAborted}
use Rattle.components.specs.Links.{policy_at}
use Rattle.holds.specs.Cascade.{cascade}
use Rattle.machine.specs.Status.{status_at, iso}
use Rattle.holds.specs.Holds.{gates, gates_say}
use Rattle.machine.specs.View.{Core, Out, stay, after, statuses_are}
use Rattle.rules.specs.Entry.{enter_recovering, onward}

-- One of three answers, by the policy.
abbrev pub by_policy {ℓ} : {A : Type ℓ} → FailurePolicy → A → A → A → A
by_policy Required a b c = a
by_policy Isolable a b c = b
by_policy Cascading a b c = c

-- Gate the positions of a list, then go on by k.
abbrev pub gate_then : List Component → List ℕ → (Core → Out) → Core → Out
gate_then ch ps k c = after (gates_say ch c.statuses ps) (k (statuses_are (gates c.statuses ps) c))

-- Recovering with some effects before it.
abbrev pub recover : List Component → List Effect → ComponentId → Core → Out
recover ch es i c = after es (enter_recovering ch i c)

-- What the policy of the component at p means, the same for a corruption and for a recovery that is given up: Isolable gates
-- it, Cascading gates it and all that depends on it, and k follows. Required gates nothing: r happens in its place.
abbrev pub gate_by_policy : List Component → ℕ → (Core → Out) → (Core → Out) → Core → Out
gate_by_policy ch p r k c = by_policy (policy_at ch p)
    (r c)
    (gate_then ch (p ∷ []) k c)
    (gate_then ch (cascade ch p) k c)

-- The corruption rule for i; k is what follows where the state stays, es what comes before a recovery.
abbrev pub corrupt : List Component → (Core → Out) → List Effect → ComponentId → Core → Out
corrupt ch k es i c = pick (iso (status_at c.statuses (position ch i))) (k c)
    (gate_by_policy ch (position ch i) (recover ch es i) k c)

-- In PreSupervision and AwaitingReady: off a component that is Isolated now.
abbrev pub move_on : List Component → Core → Out
move_on ch c = pick (iso (status_at c.statuses c.cursor)) (onward ch (suc c.cursor) c.state c) (stay c)

-- What is lost with an update that a recovery preempts.
abbrev pub abortion : List Effect
abortion = DiscardStaged ∷ ReportUpdateAborted ∷ []
