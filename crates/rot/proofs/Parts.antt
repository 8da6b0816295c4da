-- The parts of a decision, done one after another.
use Rattle.std.proofs.Common.{◌≡◌, ℕ, zero, suc, ◌<◌, Bool, true, false, List, [], ◌∷◌, length, refl, sym, ap, arith, append-nil}
use borrow.Author.Tests.{le-ltb, lt-ltb}
use Rattle.model.specs.declared.Component.{Component}
use Rattle.model.specs.declared.Effect.{Effect}
use Rattle.machine.specs.declared.ComponentStatus.{ComponentStatus}
use Rattle.store.specs.declared.Sink.{Sink}
use Rattle.machine.specs.declared.Work.{Work}
use Rattle.machine.specs.Status.{status_at, iso, is_isolated}
use Rattle.machine.specs.View.{Core, Ran, out, after, cursor_at, core_of, statuses_of, sink_is, says, lifecycle_of}
use Rattle.holds.specs.Holds.{gates, gates_say}
use Rattle.holds.specs.Advance.{seek, verify_says}
use Rattle.holds.specs.Acts.{gating, gating_all}
use Rattle.rules.specs.Entry.{enter_ready, onward}

-- Some effects, and nothing else.
pub ran-says : {n : ℕ} {w : Work} {s : Sink} (es : List Effect) → s ≡ says w.sink es → Ran n w (out (core_of n w) es) (sink_is s w)
unfolding statuses_of
ran-says es q = record { core = refl; sink = q; fit = λ fit. fit; sized = λ sized. sized }

-- The set says who is isolated.
pub told : (b : Bool) → is_isolated (lifecycle_of b) ≡ b
told true = refl
told false = refl

-- The gate at one position is that of a list of one.
pub gating-one : (ch : List Component) (p : ℕ) (c : Core) → gating ch p c ≡ gating_all ch (p ∷ []) c
unfolding gates gates_say
gating-one ch p c = ap (out (gating ch p c).core) (sym (append-nil (gating ch p c).said))

-- An isolated component is one of the chain's.
pub gated-inside : (st : List ComponentStatus) (q : ℕ) → iso (status_at st q) ≡ true → q < length st
gated-inside [] q e = cc
gated-inside (s ∷ st) zero e = omega arith
gated-inside (s ∷ st) (suc q) e = omega (arith, gated-inside st q e)

module _ (ch : List Component) (p : ℕ) (c : Core) where
  -- The walk goes on,
  pub onward-on : seek c.statuses p < length ch → out (cursor_at (seek c.statuses p) c) (verify_says ch (seek c.statuses p)) ≡ onward ch p c.state c
  onward-on h = rw (lt-ltb (seek c.statuses p) (length ch) h)

  -- or it ends where none is left.
  pub onward-none : seek c.statuses p ≡ length ch → after (verify_says ch (seek c.statuses p)) (enter_ready (cursor_at (seek c.statuses p) c)) ≡ onward ch p c.state c
  onward-none e = rw (le-ltb (seek c.statuses p) (length ch) (omega arith), e)
