-- A step from a machine between events: the machine, the effects as a list, and how many there are at most.
use Rattle.std.specs.Prelude.{◌≡◌, ℕ, ◌+◌, ◌*◌, ◌≤◌, length}
use Rattle.model.specs.declared.State.{State}
use Rattle.model.specs.declared.Event.{Event}
use Rattle.components.specs.declared.Chain.{Chain}
use Rattle.components.specs.Tables.{entries, size}
use Rattle.store.specs.Sink.{empty_sink, held}
use Rattle.machine.specs.declared.Rot.{Rot}
use Rattle.machine.specs.declared.Work.{Work}
use Rattle.machine.specs.View.{Out, core_of, Fit}
use Rattle.rot.specs.Step.{step_of}

-- A machine at work on nothing yet.
abbrev pub bare : State → Rot → Work
bare s r = record { state = s; rot = r; sink = empty_sink }

-- What the definition makes of the machine w.
abbrev pub outcome : Chain → ℕ → Work → Event → Out
outcome c max w e = step_of (entries c) max (core_of (size c) w) e

pub record Stepped (c : Chain) (max : ℕ) (w : Work) (e : Event) (r : Work) : Type 0 where
  pub core : core_of (size c) r ≡ (outcome c max w e).core
  pub effects : held r.sink ≡ (outcome c max w e).said
  pub count : r.sink.effects.len ≡ length (outcome c max w e).said
  pub few : r.sink.effects.len ≤ 2 * size c + 1
  pub fit : Fit (size c) w.rot → Fit (size c) r.rot
