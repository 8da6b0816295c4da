-- A machine as the rules see it, and how the code's structs are read as one.
use Rattle.std.specs.Prelude.{◌≡◌, Bool, true, false, List, [], ◌∷◌, ◌++◌, ℕ, ◌-◌, ◌≤◌, length, take, drop, replicate}
use Rattle.model.specs.declared.State.{State}
use Rattle.model.specs.declared.Effect.{Effect}
use Rattle.store.specs.Flags.{flags}
use Rattle.store.specs.declared.Sink.{Sink}
use Rattle.store.specs.declared.Status.{Status}
use Rattle.store.specs.Stored.{unset}
use Rattle.store.specs.Sink.{with_effect}
use Rattle.machine.specs.declared.ComponentStatus.{ComponentStatus}
use Rattle.machine.specs.declared.ComponentLifecycle.{ComponentLifecycle}
use Rattle.machine.specs.declared.ComponentLifecycle.TheVariants.{Nominal, Isolated}
use Rattle.machine.specs.declared.Rot.{Rot}
use Rattle.machine.specs.declared.Work.{Work}

-- What the machine is between two events.
pub record Core : Type 0 where
  pub state : State
  pub cursor : ℕ
  pub statuses : List ComponentStatus
  pub window : Bool

-- What one event makes of it, and the effects of that step, Emit among them. Emit is never handed out (section 4).
pub record Out : Type 0 where
  pub core : Core
  pub said : List Effect

abbrev pub out : Core → List Effect → Out
out c es = record { core = c; said = es }

abbrev pub stay : Core → Out
stay c = out c []

-- Effects that come before those of an outcome.
abbrev pub after : List Effect → Out → Out
after es o = out o.core (es ++ o.said)

abbrev pub in_state : State → Core → Core
in_state s c = record { state = s; cursor = c.cursor; statuses = c.statuses; window = c.window }

abbrev pub cursor_at : ℕ → Core → Core
cursor_at p c = record { state = c.state; cursor = p; statuses = c.statuses; window = c.window }

abbrev pub statuses_are : List ComponentStatus → Core → Core
statuses_are st c = record { state = c.state; cursor = c.cursor; statuses = st; window = c.window }

abbrev pub window_is : Bool → Core → Core
window_is w c = record { state = c.state; cursor = c.cursor; statuses = c.statuses; window = w }

-- The status of a component: whether it is isolated comes from the set, the rest from what is stored.
abbrev pub lifecycle_of : Bool → ComponentLifecycle
lifecycle_of true = Isolated
lifecycle_of false = Nominal

abbrev pub status_of : Bool → Status → ComponentStatus
status_of b s = record { lifecycle = lifecycle_of b; retry = s.retry; awaiting_boot = s.awaiting_boot; released = s.released }

unfoldable pub joined : List Bool → List Status → List ComponentStatus
joined [] ss = []
joined (b ∷ bs) [] = []
joined (b ∷ bs) (s ∷ ss) = status_of b s ∷ joined bs ss

-- The statuses of a chain of n components.
unfoldable pub statuses_of : ℕ → Rot → List ComponentStatus
statuses_of n r = joined (take n (flags r.isolated)) (take n r.statuses)

abbrev pub core_of : ℕ → Work → Core
core_of n w = record { state = w.state; cursor = w.rot.cursor; statuses = statuses_of n w.rot; window = w.rot.pending_commit }

-- What is kept at power-on: nothing isolated, every count 0, every flag off, the cursor at the start.
abbrev pub new_rot : Rot
new_rot = record { statuses = replicate 255 unset; isolated = record { words = 0 ∷ 0 ∷ 0 ∷ 0 ∷ [] }; cursor = 0; pending_commit = false }

-- A machine at work with one part changed.
abbrev pub state_is : State → Work → Work
state_is s w = record { state = s; rot = w.rot; sink = w.sink }

abbrev pub sink_is : Sink → Work → Work
sink_is s w = record { state = w.state; rot = w.rot; sink = s }

-- A sink after some effects more.
unfoldable pub says : Sink → List Effect → Sink
says s [] = s
says s (e ∷ es) = says (with_effect s e) es

-- Nothing past the chain is isolated, and the cursor is within it or at its end.
pub record Fit (n : ℕ) (r : Rot) : Type 0 where
  pub clean : drop n (flags r.isolated) ≡ replicate (256 - n) false
  pub low : r.cursor ≤ n

-- Each array has the places of its type.
pub record Sized (r : Rot) : Type 0 where
  pub statuses : length r.statuses ≡ 255
  pub words : length r.isolated.words ≡ 4

-- The same of a machine at work.
pub record Whole (w : Work) : Type 0 where
  pub sized : Sized w.rot
  pub slots : length w.sink.effects.items ≡ 512

-- r is what the outcome o makes of w: the machine, the effects behind those before; where w fits r fits, and the arrays keep
-- their places.
pub record Ran (n : ℕ) (w : Work) (o : Out) (r : Work) : Type 0 where
  pub core : core_of n r ≡ o.core
  pub sink : r.sink ≡ says w.sink o.said
  pub fit : Fit n w.rot → Fit n r.rot
  pub sized : Sized w.rot → Sized r.rot
