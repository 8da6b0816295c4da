-- A C line's kind and policy: the name alone is looked up first, and then the fields after it are read.
use Rattle.std.specs.Prelude.{Option, None, Some, option_and_then}
use mathlib.Core.Path.{◌≡◌, refl}
use mathlib.Core.Bool.{Bool, true, false}
use mathlib.Core.Logic.{◌⊎◌, inl, inr}
use mathlib.Core.List.{List, [], ◌∷◌, map}
use Prim.Native.Nat.{ℕ}
use Rattle.model.specs.Vocabulary.{pick, id_of}
use Rattle.model.specs.declared.ComponentId.{ComponentId}
use Rattle.model.specs.declared.ComponentKind.{ComponentKind}
use Rattle.model.specs.declared.ComponentKind.TheVariants.{Active, Passive}
use Rattle.model.specs.declared.RegionId.{RegionId}
use Rattle.model.specs.declared.FailurePolicy.{FailurePolicy}
use Rattle.model.specs.declared.FailurePolicy.TheVariants.{Required, Isolable, Cascading}
use Rattle.text.specs.Text.{bytes}
use Rattle.fields.specs.Fields.{before, after, number_of, same_bytes, lookup}
use Rattle.events.specs.Read.{with_number}
use Rattle.lines.specs.Read.{card_row, with_dependency, with_region, with_policy, with_kind}
use Rattle.lines.proofs.Names.{Spells, told}

module _ {A B : Type 0} (F : A → Option B) where
  one : (t : Bool) (x : A) (u : Option B) (w : Option A) → u ≡ option_and_then F w → pick t (F x) u ≡ option_and_then F (pick t (Some x) w)
  one true x u w e = refl
  one false x u w e = e

  named_first : (f : List ℕ) (ps : List (List ℕ × A))
      → lookup f (map (λ p. (p.0, F p.1)) ps) None ≡ option_and_then F (lookup f (map (λ p. (p.0, Some p.1)) ps) None)
  unfolding lookup
  named_first f [] = refl
  named_first f (p ∷ ps) = one (same_bytes f p.0) p.1 _ _ (named_first f ps)

pub kind_first : (l : List ℕ) (i : ComponentId)
    → with_kind l i ≡ option_and_then (with_policy (after l) i) (lookup (before l) ((bytes "Active", Some Active) ∷ (bytes "Passive", Some Passive) ∷ []) None)
unfolding with_kind
kind_first l i = named_first (with_policy (after l) i) (before l) ((bytes "Active", Active) ∷ (bytes "Passive", Passive) ∷ [])

pub policy_first : (l : List ℕ) (i : ComponentId) (k : ComponentKind)
    → with_policy l i k ≡ option_and_then (with_region (after l) i k)
    (lookup (before l) ((bytes "Required", Some Required) ∷ (bytes "Isolable", Some Isolable) ∷ (bytes "Cascading", Some Cascading) ∷ []) None)
unfolding with_policy
policy_first l i k =
    named_first (with_region (after l) i k) (before l)
    ((bytes "Required", Required) ∷ (bytes "Isolable", Isolable) ∷ (bytes "Cascading", Cascading) ∷ [])

-- The last field is `-`, or else a number.
pub dash_or_number : (f : List ℕ) (i : ComponentId) (k : ComponentKind) (p : FailurePolicy) (g : RegionId)
    → ((with_dependency f i k p g ≡ card_row i k p g None) × Spells f 0 (bytes "-"))
    ⊎ ((with_dependency f i k p g ≡ with_number (number_of 255 f) (λ d. card_row i k p g (Some (id_of d))) None) × (Spells f 0 (bytes "-") → ⊥))
unfolding with_dependency lookup
dash_or_number f i k p g =
    elim (told f (bytes "-")) [
      | inl h ↦ inl (rw h.0, h.1)
      | inr h ↦ inr (rw h.0, h.1)
    ]

pub ruleset card = (kind_first, policy_first, dash_or_number)
