-- Laws of the place of an id: they hold of every list, and the last two of every sound one.
use Rattle.std.specs.Prelude.{Some, None, unwrap_or}
use Rattle.std.specs.List.{position_or_len}
use Rattle.std.proofs.Common.{cond}
use Rattle.std.proofs.lemmas.List.Recursion.{is_position_or_len}
use Prim.Native.Nat.{ℕ, zero, suc, ◌≤◌, ◌<◌}
use mathlib.Core.Path.{◌≡◌, refl, sym, ap, ◌∙◌}
use mathlib.Core.Bool.{true, false}
use mathlib.Core.List.{List, [], ◌∷◌}
use native.Mathlib.Omega.{arith}
use lib.Dec.{ltb}
use lib.ListN.{get_or, length}
use borrow.Author.Tests.{eqb-true, eqb-false}
use Rattle.model.specs.declared.ComponentId.{ComponentId}
use Rattle.model.specs.declared.Component.{Component}
use Rattle.model.specs.Vocabulary.{id_of}
use Rattle.components.specs.Chain.{position, found, same_id, id_at, depends_at, blank, Sound}
use Rattle.model.proofs.Pick.{pick_p}
use Rattle.model.proofs.Found.{place-step, as-found, found-or}

pub same_id_lem : (a b : ComponentId) → same_id a b ≡ true → a ≡ b
same_id_lem a b e = ap id_of (eqb-true a.0 b.0 e)

pub not-same-id : (a b : ComponentId) → same_id a b ≡ false → a ≡ b → ⊥
not-same-id a b e q = eqb-false a.0 b.0 e (ap (λ (x : ComponentId). x.0) q)

-- What a search through the entries gives is the place that the definition counts, if any.
module _ (ch : List Component) (id : ComponentId) where
  abbrev counted : ℕ
  counted = position_or_len (λ (x : Component). same_id x.id id) ch

  counted-is : position ch id ≡ counted
  unfolding position
  counted-is = is_position_or_len (λ l. position l id) (λ (x : Component). same_id x.id id) refl (λ x l. place-step (same_id x.id id) (position l id)) ch

  pub place-found : cond (ltb counted (length ch)) (Some counted) None ≡ found (length ch) (position ch id)
  place-found = as-found (ltb counted (length ch)) counted ∙ ap (found (length ch)) (sym counted-is)

-- An id that is not there has the length as its place: never more.
pub position-bound : (ch : List Component) (id : ComponentId) → position ch id ≤ length ch
unfolding position
position-bound [] id = omega arith
position-bound (c ∷ cs) id = pick_p (λ (n : ℕ). n ≤ suc (length cs)) (same_id c.id id) (λ e. omega arith) (λ e. omega (arith, position-bound cs id))

pub found_position : (ch : List Component) (id : ComponentId) → unwrap_or (found (length ch) (position ch id)) (length ch) ≡ position ch id
found_position ch id = found-or (ltb (position ch id) (length ch)) (length ch) (position ch id) refl (position-bound ch id)

-- At its place stands the id,
pub position-holds : (ch : List Component) (id : ComponentId) → position ch id < length ch → id_at ch (position ch id) ≡ id
unfolding position
position-holds [] id = λ h. absurd (omega arith)
position-holds (c ∷ cs) id =
    pick_p (λ (n : ℕ). n < suc (length cs) → (get_or (c ∷ cs) n blank).id ≡ id) (same_id c.id id)
    (λ e h. same_id_lem c.id id e)
    (λ e h. position-holds cs id (omega arith))

-- and nowhere before.
pub position-least : (ch : List Component) (id : ComponentId) (j : ℕ) → j < length ch → id_at ch j ≡ id → position ch id ≤ j
unfolding position
position-least [] id j h q = absurd (omega arith)
position-least (c ∷ cs) id zero h q =
    pick_p (λ (n : ℕ). n ≤ 0) (same_id c.id id) (λ e. omega arith) (λ e. absurd (not-same-id c.id id e q))
position-least (c ∷ cs) id (suc j) h q =
    pick_p (λ (n : ℕ). n ≤ suc j) (same_id c.id id) (λ e. omega arith) (λ e. omega (arith, position-least cs id j (omega arith) q))

module _ (n : ℕ) (ch : List Component) (s : Sound n ch) (i : ℕ) (h : i < length ch) where
  -- In a sound chain each component is found at its own place,
  pub own-place : position ch (id_at ch i) ≡ i
  own-place =
      let l : position ch (id_at ch i) ≤ i = position-least ch (id_at ch i) i h refl in
      s.distinct (position ch (id_at ch i)) i (omega arith) h (position-holds ch (id_at ch i) (omega arith))

  -- and what it depends on strictly earlier.
  pub parent-earlier : (d : ComponentId) → depends_at ch i ≡ Some d → position ch d < i
  parent-earlier d q =
      let o = s.ordered i d h q in
      omega (arith, o.1, position-least ch d o.0 (omega (arith, o.1)) o.2)
