-- A retry count and a gate: neither sees the other, so that their order does not matter.
use mathlib.Core.Path.{◌≡◌, refl, sym, ap, ap₂, ◌∙◌}
use mathlib.Core.Bool.{Bool, true, false}
use mathlib.Core.List.{List, [], ◌∷◌, ◌++◌}
use Prim.Native.Nat.{ℕ, zero, suc}
use Rattle.model.specs.Vocabulary.{pick}
use Rattle.model.specs.declared.Component.{Component}
use Rattle.model.specs.declared.Effect.{Effect}
use Rattle.model.specs.declared.Effect.TheVariants.{AssertReset, ReportIsolated}
use Rattle.components.specs.Chain.{id_at}
use Rattle.machine.specs.declared.ComponentStatus.{ComponentStatus}
use Rattle.machine.specs.Status.{status_at, iso, touch, retry_is}
use Rattle.holds.specs.Holds.{isolate, gate, gates, gates_say}

-- The gate at a later position leaves the first status.
gate-rest : (s : ComponentStatus) (st : List ComponentStatus) (q : ℕ) → gate (s ∷ st) (suc q) ≡ s ∷ gate st q
gate-rest s st q = by (iso (status_at st q))
  where
    by : (t : Bool) → pick t (s ∷ st) (s ∷ touch isolate st q) ≡ s ∷ pick t st (touch isolate st q)
    by true = refl
    by false = refl

-- The last count stays.
pub counted-twice : (m n : ℕ) (st : List ComponentStatus) (p : ℕ) → touch (retry_is m) (touch (retry_is n) st p) p ≡ touch (retry_is m) st p
counted-twice m n [] p = refl
counted-twice m n (s ∷ st) zero = refl
counted-twice m n (s ∷ st) (suc p) = ap (λ (l : List ComponentStatus). s ∷ l) (counted-twice m n st p)

module _ (n : ℕ) where
  abbrev counted : List ComponentStatus → ℕ → List ComponentStatus
  counted = touch (retry_is n)

  counted-gate : (st : List ComponentStatus) (p q : ℕ) → gate (counted st p) q ≡ counted (gate st q) p
  counted-gate [] p q = refl
  counted-gate (s ∷ st) zero zero = by (iso s)
    where
      by : (t : Bool) → pick t (retry_is n s ∷ st) (isolate (retry_is n s) ∷ st) ≡ counted (pick t (s ∷ st) (isolate s ∷ st)) zero
      by true = refl
      by false = refl
  counted-gate (s ∷ st) zero (suc q) = gate-rest (retry_is n s) st q ∙ sym (ap (λ (l : List ComponentStatus). counted l zero) (gate-rest s st q))
  counted-gate (s ∷ st) (suc p) zero = by (iso s)
    where
      by : (t : Bool) → pick t (s ∷ counted st p) (isolate s ∷ counted st p) ≡ counted (pick t (s ∷ st) (isolate s ∷ st)) (suc p)
      by true = refl
      by false = refl
  counted-gate (s ∷ st) (suc p) (suc q) =
      gate-rest s (counted st p) q ∙ ap (λ (l : List ComponentStatus). s ∷ l) (counted-gate st p q)
      ∙ sym (ap (λ (l : List ComponentStatus). counted l (suc p)) (gate-rest s st q))

  counted-iso : (st : List ComponentStatus) (p q : ℕ) → iso (status_at (counted st p) q) ≡ iso (status_at st q)
  counted-iso [] p q = refl
  counted-iso (s ∷ st) zero zero = refl
  counted-iso (s ∷ st) zero (suc q) = refl
  counted-iso (s ∷ st) (suc p) zero = refl
  counted-iso (s ∷ st) (suc p) (suc q) = counted-iso st p q

  pub counted-gates : (st : List ComponentStatus) (p : ℕ) (ps : List ℕ) → gates (counted st p) ps ≡ counted (gates st ps) p
  unfolding gates
  counted-gates st p [] = refl
  counted-gates st p (q ∷ ps) = ap (λ (l : List ComponentStatus). gates l ps) (counted-gate st p q) ∙ counted-gates (gate st q) p ps

  pub counted-says : (ch : List Component) (st : List ComponentStatus) (p : ℕ) (ps : List ℕ) → gates_say ch (counted st p) ps ≡ gates_say ch st ps
  unfolding gates_say
  counted-says ch st p [] = refl
  counted-says ch st p (q ∷ ps) =
      ap₂ (λ (a b : List Effect). a ++ b)
      (ap (λ (t : Bool). pick t [] (AssertReset (id_at ch q) ∷ ReportIsolated (id_at ch q) ∷ [])) (counted-iso st p q))
      (ap (λ (l : List ComponentStatus). gates_say ch l ps) (counted-gate st p q) ∙ counted-says ch (gate st q) p ps)
