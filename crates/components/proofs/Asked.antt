-- A question that `try_for_each` puts to one entry after the other: what comes of it is the first refusal of the definition.
use Rattle.std.specs.Prelude.{Option, Some, None, Ok, Err}
use Rattle.std.specs.Fn.{Called}
use Rattle.std.specs.Iterator.{AlwaysYields, YieldsThen}
use Rattle.std.specs.List.{FoldsTo, enumerate_from}
use Rattle.std.specs.Option.{MatchOption}
use Rattle.std.specs.Result.{IsErr, IsErrAnd}
use Rattle.std.proofs.lemmas.Iterator.{YieldsList}
use Prim.Native.Nat.{ℕ, ◌+◌}
use mathlib.Core.Path.{◌≡◌, sym, ap, subst, ◌∙◌}
use mathlib.Core.List.{List, [], ◌∷◌}
use denote.Param.Members.{Mut}
use Rattle.model.specs.declared.Component.{Component}
use Rattle.components.specs.declared.ChainError.{ChainError}
use Rattle.components.specs.Chain.{Verdict, or_else, first_from, first}

-- A refusal is the answer.
pub stopped : (w v r : Verdict) (e : ChainError) → w ≡ Err e → IsErr r × IsErrAnd r (λ x. x ≡ e) → r ≡ or_else w v
stopped w v (Ok x) e b h = absurd h.1
stopped w v (Err x) e b h = rw b (ap Err h.1)

module _ {A F : Type 0} (g : Mut F (A × Unit {0}) Verdict) where
  -- a call that finds nothing, and one that refuses, of which r is what comes
  abbrev Passes : F → A → F → Type 0
  Passes p x q = (w : Verdict) × Called g p (x, tt) w q × (w ≡ Ok tt)

  abbrev Refuses : {E : Type 0} → (E → ChainError) → Verdict → F → A → Type 0
  Refuses {E} error_of r p x = (w : Verdict) × (q : F) × (e : E) × Called g p (x, tt) w q × (w ≡ Err (error_of e)) × (IsErr r × IsErrAnd r (λ z. z ≡ error_of e))

-- The closure f puts the question t, and leaves itself as it was; r is what comes of all its calls.
module _ {S A F E : Type 0} (steps : S → Option A → S → Type 0) (v : A → ℕ × Component) (g : Mut F (A × Unit {0}) Verdict)
    (t : ℕ → Component → Verdict) (error_of : E → ChainError) (u : S) (f : F) (r : Verdict)
    (told : (x : A) (w : Verdict) (q : F) → Called g f (x, tt) w q → (q ≡ f) × (w ≡ t (v x).0 (v x).1)) where
  at_place : (x : A) (c : Component) (p : ℕ) → v x ≡ (p, c) → (w : Verdict) → w ≡ t (v x).0 (v x).1 → w ≡ t p c
  at_place x c p e w h = h ∙ ap (λ (y : ℕ × Component). t y.0 y.1) e

  from_place : (xs : List A) (ch : List Component) (p : ℕ) (s : S) (o : Option A) (j : F) → AlwaysYields steps v s (enumerate_from p ch)
      → YieldsThen steps s xs o u → FoldsTo (Passes g) f xs j → MatchOption o (r ≡ Ok tt) (Refuses g error_of r j) → r ≡ first_from t p ch
  unfolding first_from
  from_place [] [] p s None j a y c h = h
  from_place [] [] p s (Some x) j a y c h = absurd (a x u (subst (λ k. steps k (Some x) u) (sym y.1) y.2))
  from_place [] (c ∷ cs) p s None j a y d h = absurd (a.0 u (subst (λ k. steps k None u) (sym y.1) y.2))
  from_place [] (c ∷ cs) p s (Some x) j a y d h =
      let is = (a.1 x u (subst (λ k. steps k (Some x) u) (sym y.1) y.2)).0 in
      let said = at_place x c p is h.0 (told x h.0 h.1 (subst (λ k. Called g k (x, tt) h.0 h.1) (sym d) h.3)).1 in
      rw (← said) (stopped h.0 _ r (error_of h.2) h.4 h.5)
  from_place (x ∷ xs) [] p s o j a y c h = absurd (a x y.1.0 y.1.1)
  from_place (x ∷ xs) (c ∷ cs) p s o j a y d h =
      let next = a.1 x y.1.0 y.1.1 in
      let call = told x d.1.0 d.0 d.1.1 in
      let said = at_place x c p next.0 d.1.0 call.1 in
      rw (← said, d.1.2) (from_place xs cs (p + 1) y.1.0 o j next.1 (y.0, y.1.2, y.2) (subst (λ k. FoldsTo (Passes g) k xs j) call.0 d.2) h)

-- ch are the entries that the chain of iterators gives, each with its place.
pub asked : {S A F E : Type 0} {steps : S → Option A → S → Type 0} {v : A → ℕ × Component} {g : Mut F (A × Unit {0}) Verdict}
    (t : ℕ → Component → Verdict) {error_of : E → ChainError} (ch : List Component) (s u : S) (f : F) (r : Verdict)
    → (xs : List A) × (o : Option A) × (j : F) × YieldsThen steps s xs o u × FoldsTo (Passes g) f xs j × MatchOption o (r ≡ Ok tt) (Refuses g error_of r j)
    → YieldsList steps v s (enumerate_from 0 ch)
    → ((x : A) (w : Verdict) (q : F) → Called g f (x, tt) w q → (q ≡ f) × (w ≡ t (v x).0 (v x).1))
    → r ≡ first ch t
asked {steps = steps} {v = v} {g = g} t {error_of = error_of} ch s u f r d e told = from_place steps v g t error_of u f r told d.0 ch 0 s d.1 d.2 e.runs d.3 d.4 d.5
