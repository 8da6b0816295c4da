-- How the code's machine is read as the definitions' one, and what is known of every machine.
use Rattle.std.specs.Prelude.{◌≡◌, Bool, true, false, List, [], ◌≤◌, length, drop, Option, None, Some}
use Rattle.model.specs.declared.Component.{Component}
use Rattle.model.specs.declared.Event.{Event}
use Rattle.model.specs.declared.Effect.{Effect}
use Rattle.components.specs.Chain.{entries_of}
use Rattle.components.specs.Tables.{entries}
use Rattle.store.specs.Sink.{held}
use Rattle.pending.specs.Queue.{events, emits}
use Rattle.machine.specs.View.{Core, core_of, Fit}
use Rattle.rot.specs.Stepped.{bare}
use Rattle.settling.specs.declared.Dispatch.{Dispatch}
use Rattle.settling.specs.declared.parts.MachineParts.{MachineParts}
use Rattle.settling.specs.declared.whole.Machine.{Machine}
use Rattle.settling.specs.Settle.{Model}

-- What a dispatch keeps, read beside what the rules see and the effects of the batch.
abbrev pub within : Core → List Effect → Dispatch → Model
within c es d = record { core = c; waiting = d.waiting; left = drop d.next es; queue = events d.pending; failed = d.failed }

-- The parts of a machine.
abbrev pub parts_of : Machine → MachineParts
parts_of m = record { list = m.chain.list; max_retry = m.max_retry; work = m.work; dispatch = m.dispatch }

-- The chain that parts are for, as a list.
abbrev pub listed : MachineParts → List Component
listed p = entries_of p.list

-- How parts are read, of which nothing need be known.
abbrev pub read : MachineParts → Model
read p = within (core_of (length (listed p)) (bare p.work.state p.work.rot)) (held p.work.sink) p.dispatch

-- What the flags of isolation need: at most 255 components, none isolated past them, and the cursor within them or at their end.
abbrev pub Fits : MachineParts → Type 0
Fits p = (length (listed p) ≤ 255) × Fit (length (listed p)) p.work.rot

-- The conclusion where the premise is known, and else the conclusion under the premise.
abbrev pub Given : Bool → Type 0 → Type 0 → Type 0
Given true premise conclusion = conclusion
Given false premise conclusion = premise → conclusion

unfoldable pub view : Machine → Model
view m = read (parts_of m)

-- The chain that a machine was made for, as a list.
abbrev pub chain_of : Machine → List Component
chain_of m = entries m.chain

-- At most 8 events are queued.
abbrev pub Short : Dispatch → Type 0
Short d = length (events d.pending) ≤ 8

-- r is a machine for the same chain and max_retry as m, and it is read as x.
pub record Becomes (m : Machine) (x : Model) (r : Machine) : Type 0 where
  pub machine : view r ≡ x
  pub chain : r.chain ≡ m.chain
  pub max_retry : r.max_retry ≡ m.max_retry

-- Between calls an effect other than Emit waits, or nothing is left, queued or failed.
abbrev pub RestsBy : Option Effect → List Effect → List Event → Bool → Type 0
RestsBy (Some x) es q f = emits x ≡ None
RestsBy None es q f = (es ≡ []) × (q ≡ []) × (f ≡ false)

abbrev pub Rests : Model → Type 0
Rests m = RestsBy m.waiting m.left m.queue m.failed

-- What holds of every machine that `new` gives on 0 and that `begin` and `reply` make of such a one. It says nothing of how the
-- machine came about.
abbrev pub Valid : Machine → Type 0
Valid m = Rests (view m)
