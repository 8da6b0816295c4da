-- The machine that `new` gives for an accepted list.
use Rattle.std.specs.Prelude.{None, Ok}
use Prim.Native.Nat.{ℕ}
use native.Mathlib.Omega.{arith}
use mathlib.Core.Path.{◌≡◌, refl, sym, ap, ◌∙◌, subst}
use mathlib.Core.Bool.{false}
use mathlib.Core.List.{List, []}
use lib.ListN.{length, replicate}
use Rattle.components.specs.Chain.{entries_of, verdict_of, refuses, no_refusal}
use Rattle.model.specs.declared.Component.{Component}
use Rattle.components.specs.declared.ComponentList.{ComponentList}
use Rattle.model.specs.declared.State.TheVariants.{PowerOnReset}
use Rattle.components.proofs.Accepted.{accepted-sound}
use Rattle.components.specs.declared.Chain.{Chain}
use Rattle.components.specs.Tables.{entries, size, Accepted}
use Rattle.store.specs.Sink.{held}
use Rattle.pending.specs.Queue.{events}
use Rattle.machine.specs.declared.ComponentStatus.{ComponentStatus}
use Rattle.machine.specs.Status.{fresh}
use Rattle.machine.specs.View.{core_of}
use Rattle.machine.proofs.New.{new-statuses}
use Rattle.rot.specs.Stepped.{bare}
use Rattle.settling.specs.declared.whole.Machine.{Machine}
use Rattle.settling.specs.Parts.{idle}
use Rattle.settling.specs.View.{view, within, Rests, Valid}
use Rattle.sm.specs.Calls.{start_of}
use Rattle.sm.specs.Gives.{untouched, Fresh, NewGives}

-- A machine that was made is valid.
pub made-valid : (l : ComponentList) (max : ℕ) (m : Machine) → NewGives l max (Ok m) → Valid m
made-valid l max m g = g.1.valid

-- No machine is without components: a list with none is refused.
pub blank-invalid : (m : Machine) → m.chain.list.len ≡ 0 → ⊥
blank-invalid m z = omega (arith, z, (accepted-sound m.chain.list.len (entries m.chain) m.accepted).some)

-- What stands in the machine of a list, beside what is known of every machine.
pub record Started (l : ComponentList) (max : ℕ) (m : Machine) : Type 0 where
  pub list : m.chain.list ≡ l
  pub max_retry : m.max_retry ≡ max
  pub work : m.work ≡ untouched PowerOnReset
  pub dispatch : m.dispatch ≡ idle

pub start-fresh : (l : ComponentList) (max : ℕ) (m : Machine) → Started l max m → Fresh l max m
unfolding view start_of held events
start-fresh l max m g =
    let chain : entries m.chain ≡ entries_of l = ap entries_of g.list in
    let same : view m ≡ start_of (entries_of l) =
    (λ j. within (core_of (size m.chain) (bare (g.work j).state (g.work j).rot)) (held (g.work j).sink) (g.dispatch j))
    ∙ ap (λ (st : List ComponentStatus). record { core = record { state = PowerOnReset; cursor = 0; statuses = st; window = false }; waiting = None; left = []; queue = []; failed = false }) (new-statuses (size m.chain) m.chain.few ∙ ap (λ (ch : List Component). replicate (length ch) fresh) chain)
    in
    record {
      machine = same;
      chain = chain;
      max_retry = g.max_retry;
      valid = subst Rests (sym same) (refl, refl, refl);
    }

-- The chain of an accepted list is accepted.
pub start-accepted : (l : ComponentList) (c : Chain) → verdict_of l.len (entries_of l) ≡ no_refusal → c.list ≡ l → Accepted c
start-accepted l c h e = subst (λ (k : ComponentList). refuses (verdict_of k.len (entries_of k)) ≡ false) (sym e) (ap refuses h)
