-- What the code adds to an order: one holder's dependents, position by position.
use mathlib.Core.Path.{◌≡◌, refl, ◌∙◌, ap}
use mathlib.Core.Bool.{Bool, true, false}
use mathlib.Core.List.{List, [], ◌∷◌, ◌++◌, append_assoc, append-nil, Memᴰ}
use Prim.Native.Nat.{ℕ, zero, suc, ◌+◌, ◌≤◌, ◌<◌}
use native.Mathlib.Omega.{arith}
use native.Mathlib.Numerals.{add-one}
use lib.Dec.{eqb}
use lib.ListN.{length, get_or, length-append}
use borrow.Author.Tests.{eq-eqb, ne_eqb, eqb-true, eqb-false}
use Rattle.model.specs.declared.Component.{Component}
use Rattle.model.specs.Vocabulary.{pick}
use Rattle.bounded.specs.Items.{items_of, appended}
use Rattle.bounded.proofs.Laws.{items-length, with-room, one-more}
use Rattle.components.specs.Links.{parent}
use Rattle.holds.specs.declared.Order.{Order}
use Rattle.holds.specs.Cascade.{below, children_in}
use Rattle.holds.specs.Order.{listed}
use Rattle.holds.specs.Dependents.{dependents, Lists}
use Rattle.holds.proofs.Below.{by-test}

-- One position more, where there is room.
stored : (o : Order) → length o.places.items ≡ 255 → o.places.len < 255 → (p : ℕ) → Lists (listed o ++ (p ∷ [])) (record { places = appended o.places p })
stored o full b p =
    let e : items_of (appended o.places p) ≡ listed o ++ (p ∷ []) = one-more o.places p full b in
    let n : (appended o.places p).len ≡ o.places.len + 1 = rw (with-room o.places p b) in
    let k : length (listed o) ≡ o.places.len = omega (arith, items-length o.places full) in
    record { list = e; count = omega (arith, n, k, ap length e, length-append (listed o) (p ∷ [])) }

-- ---- one holder's dependents, position by position
module _ (t : List ℕ) (h : ℕ) where
  dependents-append : (a b : List ℕ) → dependents t h (a ++ b) ≡ dependents t h a ++ dependents t h b
  unfolding dependents
  dependents-append [] b = refl
  dependents-append (p ∷ a) b = push (eqb (get_or t p 0) h) (dependents-append a b)
    where
      push : (u : Bool) → dependents t h (a ++ b) ≡ dependents t h a ++ dependents t h b
          → pick u (p ∷ dependents t h (a ++ b)) (dependents t h (a ++ b)) ≡ pick u (p ∷ dependents t h a) (dependents t h a) ++ dependents t h b
      push true e = ap (λ (m : List ℕ). p ∷ m) e
      push false e = e

  -- Where none of the positions has the holder, nothing is found.
  pub none_found : (ps : List ℕ) → ((p : ℕ) → Memᴰ p ps → get_or t p 0 ≡ h → ⊥) → dependents t h ps ≡ []
  unfolding dependents
  none_found [] f = refl
  none_found (p ∷ ps) f = rw (ne_eqb _ _ (f p (Memᴰ.head refl))) (none_found ps (λ q m. f q (Memᴰ.tail m)))

  -- What is found grows with the positions,
  found-grows : (p n : ℕ) → p ≤ n → length (dependents t h (below p)) ≤ length (dependents t h (below n))
  unfolding below
  found-grows p zero b = let e : p ≡ 0 = omega arith in rw e (omega arith)
  found-grows p (suc n) b =
      by-test (eqb p (suc n))
      (λ u. rw (eqb-true p (suc n) u) (omega arith))
      (λ u. let d = eqb-false p (suc n) u in omega (arith, found-grows p n (omega arith), ap length (dependents-append (below n) (n ∷ [])), length-append (dependents t h (below n)) (dependents t h (n ∷ []))))

  module _ (l : List ℕ) (p : ℕ) where
    one_more : get_or t p 0 ≡ h → dependents t h (below (p + 1)) ≡ dependents t h (below p) ++ (p ∷ [])
    unfolding below dependents
    one_more e = rw (add-one p) (dependents-append (below p) (p ∷ []) ∙ rw (eq-eqb _ _ e))

    -- so that there is room for one more where there is for all.
    pub room : get_or t p 0 ≡ h → (n : ℕ) → p < n → length (l ++ dependents t h (below n)) ≤ 255 → (m : Order) → Lists (l ++ dependents t h (below p)) m → m.places.len < 255
    room e n b r m a =
        omega (
          arith,
          a.count,
          ap length a.list,
          length-append l (dependents t h (below p)),
          length-append l (dependents t h (below n)),
          found-grows (p + 1) n (omega arith),
          ap length (one_more e),
          length-append (dependents t h (below p)) (p ∷ []),
        )

    -- Position p depends on the holder, and goes behind the others,
    pub joins : get_or t p 0 ≡ h → (m : Order) → length m.places.items ≡ 255 → m.places.len < 255 → Lists (l ++ dependents t h (below p)) m
        → Lists (l ++ dependents t h (below (p + 1))) (record { places = appended m.places p })
    joins e m full b a =
        let s = stored m full b p in
        record { list = s.list ∙ rw (a.list, one_more e, append_assoc); count = s.count }

    -- or it does not, and all stays.
    pub passes : (get_or t p 0 ≡ h → ⊥) → (m : Order) → Lists (l ++ dependents t h (below p)) m → Lists (l ++ dependents t h (below (p + 1))) m
    unfolding below dependents
    passes e m a =
        let d : dependents t h (below p ++ (p ∷ [])) ≡ dependents t h (below p) ++ [] = dependents-append (below p) (p ∷ []) ∙ rw (ne_eqb _ _ e) in
        record { list = a.list ∙ rw (add-one p, d, append-nil); count = a.count }

-- A table that holds the positions of the dependencies finds the direct dependents.
pub dependents-children : (ch : List Component) (t : List ℕ) (h : ℕ) (ps : List ℕ) → ((p : ℕ) → Memᴰ p ps → get_or t p 0 ≡ parent ch p) → dependents t h ps ≡ children_in ch h ps
unfolding dependents children_in
dependents-children ch t h [] f = refl
dependents-children ch t h (p ∷ ps) f = rw (f p (Memᴰ.head refl), dependents-children ch t h ps (λ q m. f q (Memᴰ.tail m)))
