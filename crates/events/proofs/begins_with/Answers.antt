-- `begins_with` meets its contract: the event's text and byte 10, and then the rest.
use mathlib.Core.Path.{ap, ◌∙◌}
use mathlib.Core.List.{List, [], ◌∷◌, ◌++◌, append_assoc}
use Prim.Native.Nat.{ℕ}
use Rattle.events.specs.Grammar.{event_text}
use Rattle.events.proofs.begins_with.Goals as goal

pub returns : goal.returns
returns g c =
    let rest = c.in_ok-behind.field-0.now in (
      c.in_ok-behind.ensures ∙ ap (λ (l : List ℕ). l ++ rest) c.requires.0 ∙ append_assoc (event_text c.args.event) (10 ∷ []) rest,
      c.requires.1,
    )
