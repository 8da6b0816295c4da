-- What crates above may cite of a list in an array: how many items it has, and what one item more makes of it.
use Prim.Native.Nat.{ℕ, ◌+◌, ◌<◌, ◌≤◌, min}
use native.Mathlib.Omega.{arith}
use mathlib.Core.Path.{◌≡◌, refl, sym, ap, ◌∙◌}
use mathlib.Core.List.{List, [], ◌∷◌, ◌++◌}
use lib.Dec.{ltb}
use lib.ListN.{length, take, set, length-set, length-append, length-take}
use lib.Seq.{take_all, take_at}
use borrow.Author.Tests.{lt-ltb, le-ltb, ltb-true, ltb-false}
use Rattle.std.proofs.lemmas.List.{take_more_set, take_min}
use Rattle.model.specs.Vocabulary.{pick}
use Rattle.model.proofs.Pick.{pick_p}
use Rattle.bounded.specs.declared.Bounded.{Bounded}
use Rattle.bounded.specs.Items.{items_of, appended}

module _ {T : Type 0} {N : ℕ} (b : Bounded T N) where
  -- How many items there are: as many as the length says, and never more than the array has.
  pub items-length : length b.items ≡ N → length (items_of b) ≡ min b.len N
  items-length f = length-take b.len b.items ∙ ap (min b.len) f

  -- The items are the first of the array, as many as there are.
  pub first-items : (n : ℕ) → n ≡ length (items_of b) → take n b.items ≡ items_of b
  first-items n e = ap (λ (k : ℕ). take k b.items) (e ∙ length-take b.len b.items) ∙ take_min b.len b.items

  module _ (x : T) where
    -- Where there is room the item goes behind the others,
    pub with-room : b.len < N → appended b x ≡ record { items = set b.items b.len x; len = b.len + 1 }
    unfolding appended
    with-room h = rw (lt-ltb b.len N h)

    pub one-more : length b.items ≡ N → b.len < N → items_of (appended b x) ≡ items_of b ++ (x ∷ [])
    one-more f h = ap items_of (with-room h) ∙ take_more_set b.items b.len x (omega arith)

    -- and a full list stays as it is.
    pub with-none : N ≤ b.len → appended b x ≡ b
    unfolding appended
    with-none h = rw (le-ltb b.len N h)

    -- The array stays as long.
    pub same-array : length (appended b x).items ≡ length b.items
    unfolding appended
    same-array = pick_p (λ (r : Bounded T N). length r.items ≡ length b.items) (ltb b.len N) (λ t. length-set b.items b.len x) (λ t. refl)

    -- Both ways at once, by the number of items,
    pub by-room : length b.items ≡ N → items_of (appended b x) ≡ pick (ltb (length (items_of b)) N) (items_of b ++ (x ∷ [])) (items_of b)
    by-room f =
        pick_p (λ (l : List T). items_of (appended b x) ≡ l) (ltb (length (items_of b)) N)
        (λ t. let h = ltb-true (length (items_of b)) N t in one-more f (omega (arith, items-length f)))
        (λ t. let h = ltb-false (length (items_of b)) N t in ap items_of (with-none (omega (arith, items-length f))))

    -- and as the first N of the items with the new one behind them.
    pub first-of-more : length b.items ≡ N → items_of (appended b x) ≡ take N (items_of b ++ (x ∷ []))
    first-of-more f =
        by-room f
        ∙ pick_p (λ (l : List T). l ≡ take N (items_of b ++ (x ∷ []))) (ltb (length (items_of b)) N)
        (λ t. let h = ltb-true (length (items_of b)) N t in sym (take_all N (items_of b ++ (x ∷ [])) (omega (arith, length-append (items_of b) (x ∷ [])))))
        (λ t. let h = ltb-false (length (items_of b)) N t in sym (take_at (items_of b) (x ∷ []) N (omega (arith, items-length f))))
