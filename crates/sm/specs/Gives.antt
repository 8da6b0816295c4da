-- What the contracts of new, begin and reply say.
use Rattle.std.specs.Prelude.{◌≡◌, ℕ, ◌≤◌, length, Result, Ok, Err}
use Rattle.components.specs.Chain.{entries_of, verdict_of, no_refusal}
use Rattle.model.specs.declared.State.{State}
use Rattle.store.specs.Sink.{empty_sink}
use Rattle.machine.specs.View.{new_rot}
use Rattle.machine.specs.declared.Work.{Work}
use Rattle.components.specs.declared.ComponentList.{ComponentList}
use Rattle.components.specs.declared.ChainError.{ChainError}
use Rattle.settling.specs.declared.whole.Machine.{Machine}
use Rattle.settling.specs.View.{view, chain_of, Valid}
use Rattle.sm.specs.declared.CallError.{CallError}
use Rattle.sm.specs.declared.CallError.TheVariants.{NothingWaits, NotDone}
use Rattle.sm.specs.declared.Called.{Called}
use Rattle.sm.specs.Calls.{Expected, start_of}

-- No component was touched, and no effect given.
abbrev pub untouched : State → Work
untouched s = record { state = s; rot = new_rot; sink = empty_sink }

-- The machine of an accepted list and a max_retry, at power-on. What its arrays hold past their lengths is left open.
pub record Fresh (l : ComponentList) (max : ℕ) (m : Machine) : Type 0 where
  pub machine : view m ≡ start_of (entries_of l)
  pub chain : chain_of m ≡ entries_of l
  pub max_retry : m.max_retry ≡ max
  pub valid : Valid m

-- new: questions 2 to 6, and a machine only where none refuses.
abbrev pub NewGives : ComponentList → ℕ → Result Machine ChainError → Type 0
NewGives l max (Ok m) = (verdict_of l.len (entries_of l) ≡ no_refusal) × Fresh l max m
NewGives l max (Err e) = verdict_of l.len (entries_of l) ≡ Err e

-- Document 01's number of what a call answers.
abbrev pub number_of : Result (Unit {0}) CallError → ℕ
number_of (Ok u) = 0
number_of (Err NothingWaits) = 7
number_of (Err NotDone) = 10

-- What a call reports of the machine that it gives back.
abbrev pub reported : Machine → Result (Unit {0}) CallError → Called
reported m a = record { machine = m; answer = a; effect = m.dispatch.waiting }

-- A step call on the machine m, for which document 01 gives x: the machine as it is read, the number and the effect; the
-- chain and max_retry stay. A refused call gives back m itself. No call settles over 8 events before the next effect or the
-- end; which ones is told by x and not returned. A step call has no places.
pub record CallGives (m : Machine) (x : Expected) (r : Called) : Type 0 where
  pub machine : view r.machine ≡ x.machine
  pub number : number_of r.answer ≡ x.number
  pub effect : r.effect ≡ x.effect
  pub chain : r.machine.chain ≡ m.chain
  pub max_retry : r.machine.max_retry ≡ m.max_retry
  pub kept : (x.number ≡ 0 → ⊥) → r.machine ≡ m
  pub few : length x.settled ≤ 8
  pub valid : Valid m → Valid r.machine
