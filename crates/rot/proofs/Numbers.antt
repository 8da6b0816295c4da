-- The table of numbers is the table of rules: at each of the 126 pairs the rule of the pair's number is the pair's rule.
use mathlib.Core.Path.{◌≡◌, refl}
use mathlib.Core.Bool.{Bool}
use mathlib.Core.List.{List}
use Prim.Native.Nat.{ℕ}
use Rattle.model.specs.Vocabulary.{named}
use Rattle.model.specs.declared.Component.{Component}
use Rattle.model.specs.declared.ComponentId.{ComponentId}
use Rattle.model.specs.declared.State.{State}
use Rattle.model.specs.declared.State.TheVariants.{PowerOnReset, PreSupervision, AwaitingReady, Ready, Updating, Recovering, Locked}
use Rattle.model.specs.declared.Event.{Event}
use Rattle.model.specs.declared.Event.TheVariants.{PowerGood}
use Rattle.table.specs.Table.{table, rule_no}
use Rattle.machine.specs.declared.ComponentStatus.{ComponentStatus}
use Rattle.machine.specs.View.{Core}
use Rattle.rules.specs.Numbered.{numbered, numbered_by}
use Rattle.rot.specs.Step.{rule}
use Rattle.rot.specs.Whom.{whom}

abbrev core : State → ℕ → List ComponentStatus → Bool → Core
core s p st w = record { state = s; cursor = p; statuses = st; window = w }

module _ (ch : List Component) (max : ℕ) (j : ComponentId) (p : ℕ) (st : List ComponentStatus) (w : Bool) where
  pair : (s : State) (e : Event) → numbered_by ch max e (whom j (named e)) (rule_no s e) (core s p st w) ≡ rule ch max (core s p st w) e
  unfolding numbered rule_no table
  pair PowerOnReset (PowerGood r) = refl
  pair PreSupervision (PowerGood r) = refl
  pair (AwaitingReady o) (PowerGood r) = refl
  pair Ready (PowerGood r) = refl
  pair Updating (PowerGood r) = refl
  pair (Recovering f) (PowerGood r) = refl
  pair Locked (PowerGood r) = refl
  pair _ _ = refl

pub numbers-right : (ch : List Component) (max : ℕ) (j : ComponentId) (c : Core) (e : Event) → numbered_by ch max e (whom j (named e)) (rule_no c.state e) c ≡ rule ch max c e
numbers-right ch max j c e = pair ch max j c.cursor c.statuses c.window c.state e
