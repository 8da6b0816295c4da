-- The situations in which a corruption is met.
use Rattle.std.specs.Prelude.{List, [], ℕ, Option, None, Some}
use Rattle.model.specs.declared.Component.{Component}
use Rattle.model.specs.declared.Effect.{Effect}
use Rattle.machine.specs.View.{Core, Out, stay}
use Rattle.rules.specs.Corruption.{move_on, abortion}
use Rattle.rules.specs.declared.Situation.{Situation}
use Rattle.rules.specs.declared.Situation.TheVariants.{Walking, Updated, Elsewhere}
use Rattle.model.specs.declared.ComponentId.{ComponentId}
use Rattle.model.specs.declared.State.{State}
use Rattle.model.specs.declared.State.TheVariants.{PowerOnReset, PreSupervision, AwaitingReady, Ready, Updating, Recovering, Locked}
use Rattle.rules.specs.Recovery.{restored, unavailable}

-- What follows where the state stays.
abbrev pub follows : Situation → List Component → Core → Out
follows Walking ch c = move_on ch c
follows Updated ch c = stay c
follows Elsewhere ch c = stay c

-- What comes before a recovery.
abbrev pub before : Situation → List Effect
before Walking = []
before Updated = abortion
before Elsewhere = []

-- The component in recovery, if the state has one.
abbrev pub recovering : State → Option ComponentId
recovering PowerOnReset = None
recovering PreSupervision = None
recovering (AwaitingReady o) = None
recovering Ready = None
recovering Updating = None
recovering (Recovering f) = Some f
recovering Locked = None

-- Restored and RecoveryUnavailable outside Recovering do nothing.
abbrev pub restored_in : List Component → ℕ → ComponentId → Option ComponentId → Core → Out
restored_in ch max i None c = stay c
restored_in ch max i (Some f) c = restored ch max i f c

abbrev pub unavailable_in : List Component → ComponentId → Option ComponentId → Core → Out
unavailable_in ch i None c = stay c
unavailable_in ch i (Some f) c = unavailable ch i f c
