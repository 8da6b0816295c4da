-- The step by whom the event is about, and where nothing comes of the event.
use Rattle.std.specs.Prelude.{Option, None, Some}
use mathlib.Core.Path.{◌≡◌, refl, sym, ap, ◌∙◌}
use mathlib.Core.Bool.{Bool, true, false}
use mathlib.Core.List.{List}
use Prim.Native.Nat.{ℕ, ◌<◌, ◌≤◌}
use native.Mathlib.Omega.{arith}
use lib.ListN.{length}
use borrow.Author.Tests.{lt-ltb, le-ltb}
use Rattle.model.specs.Vocabulary.{pick, named, id_of}
use Rattle.components.specs.Chain.{position}
use Rattle.model.specs.declared.Component.{Component}
use Rattle.model.specs.declared.ComponentId.{ComponentId}
use Rattle.model.specs.declared.Event.{Event}
use Rattle.table.specs.Table.{rule_no}
use Rattle.machine.specs.View.{Core, stay}
use Rattle.rules.specs.Numbered.{numbered, numbered_by}
use Rattle.rot.specs.Step.{rule, in_chain, step_of}
use Rattle.rot.specs.Whom.{whom}
use Rattle.rot.proofs.Numbers.{numbers-right}

-- The step, where nothing comes of the event and where something may. j stands in where the event names no component.
module _ (ch : List Component) (max : ℕ) (c : Core) (e : Event) where
  -- It has no rule in this state,
  pub step-unruled : rule_no c.state e ≡ 0 → stay c ≡ step_of ch max c e
  unfolding step_of numbered
  step-unruled z = either (in_chain ch (named e))
    where
      either : (t : Bool) → stay c ≡ pick t (rule ch max c e) (stay c)
      either true = ap (λ (k : ℕ). numbered_by ch max e (whom (id_of 0) (named e)) k c) (sym z) ∙ numbers-right ch max (id_of 0) c e
      either false = refl

  module _ (j : ComponentId) where
    -- or it names an id outside the chain,
    pub step-outside : position ch j < length ch → length ch ≤ position ch (whom j (named e)) → stay c ≡ step_of ch max c e
    unfolding step_of
    step-outside here h = sym (ap (λ (t : Bool). pick t (rule ch max c e) (stay c)) (outside (named e) h))
      where
        outside : (o : Option ComponentId) → length ch ≤ position ch (whom j o) → in_chain ch o ≡ false
        outside None h = let z : ◌≡◌ {A = ℕ} 0 1 = omega (arith, here, h) in cc
        outside (Some i) h = le-ltb (position ch i) (length ch) h

    -- or its rule decides.
    pub step-inside : (i : ComponentId) (k : ℕ) → i ≡ whom j (named e) → k ≡ rule_no c.state e → position ch i < length ch → numbered_by ch max e i k c ≡ step_of ch max c e
    unfolding step_of
    step-inside i k q z h =
        (λ t. numbered_by ch max e (q t) (z t) c)
        ∙ numbers-right ch max j c e
        ∙ sym (ap (λ (t : Bool). pick t (rule ch max c e) (stay c)) (inside (named e) (omega (arith, ap (position ch) q))))
      where
        inside : (o : Option ComponentId) → position ch (whom j o) < length ch → in_chain ch o ≡ true
        inside None h = refl
        inside (Some i) h = lt-ltb (position ch i) (length ch) h
