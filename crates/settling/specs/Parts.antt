-- What single functions do to the parts of the code's machine.
use Rattle.std.specs.Prelude.{◌≡◌, false, List, ℕ, ◌≤◌, length, None}
use Rattle.model.specs.declared.Effect.{Effect}
use Rattle.components.specs.declared.Chain.{Chain}
use Rattle.components.specs.Tables.{entries, size, Accepted}
use Rattle.store.specs.Sink.{held}
use Rattle.pending.specs.Queue.{no_events, events, rest}
use Rattle.machine.specs.declared.Work.{Work}
use Rattle.machine.specs.View.{Core, core_of, Fit, Whole}
use Rattle.rot.specs.Stepped.{bare}
use Rattle.settling.specs.declared.Dispatch.{Dispatch}
use Rattle.settling.specs.Settle.{Model, turn_of}
use Rattle.settling.specs.View.{within, Short}

-- Nothing waits, is queued or has failed.
abbrev pub idle : Dispatch
idle = record { next = 0; waiting = None; pending = no_events; failed = false }

-- With any batch es of at most len effects, d changed by f is r; and where d has at most 8 events queued, r has.
pub record Moves (len : ℕ) (f : List Effect → Model → Model) (d r : Dispatch) : Type 0 where
  pub machine : (c : Core) (es : List Effect) → length es ≤ len → within c es r ≡ f es (within c es d)
  pub few : Short d → Short r

-- r is d without its front event, at the start of another batch.
pub record Taken (d r : Dispatch) : Type 0 where
  pub next : r.next ≡ 0
  pub waiting : r.waiting ≡ d.waiting
  pub queue : events r.pending ≡ rest (events d.pending)
  pub failed : r.failed ≡ d.failed

-- How the parts of a machine for the chain c are read.
abbrev pub together : Chain → Work → Dispatch → Model
together c w d = within (core_of (size c) (bare w.state w.rot)) (held w.sink) d

-- What is known of the parts of every machine, and that the arrays in them have their lengths.
pub record Parts (c : Chain) (w : Work) (d : Dispatch) : Type 0 where
  pub accepted : Accepted c
  pub fit : Fit (size c) w.rot
  pub room : w.sink.effects.len ≤ 512
  pub few : Short d
  pub whole : Whole w

-- Such parts, which are read as x.
pub record Makes (c : Chain) (x : Model) (w : Work) (d : Dispatch) : Type 0 where
  pub parts : Parts c w d
  pub reads : together c w d ≡ x

-- A turn changes nothing.
abbrev pub Rested : Work → Dispatch → Type 0
Rested w d = (c : Chain) (max : ℕ) → turn_of (entries c) max (together c w d) ≡ together c w d
