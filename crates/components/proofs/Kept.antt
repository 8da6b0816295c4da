-- What does not matter to a verdict: what stands past a list's length, and what is kept of a list that is too long.
use Rattle.std.specs.Prelude.{Err}
use Prim.Native.Nat.{ℕ, ◌<◌}
use mathlib.Core.Path.{◌≡◌, refl, sym, ◌∙◌}
use mathlib.Core.Bool.{Bool, true, false}
use mathlib.Core.List.{List, [], ◌∷◌, ◌++◌}
use native.Mathlib.Numerals.{add-one}
use native.Mathlib.Omega.{arith}
use lib.ListN.{length, take, get_or, length-take}
use lib.Seq.{take_all, ext_get_or, get_or-take, take-suc-set}
use lib.Dec.{eqb, ltb}
use borrow.Author.Tests.{ne_eqb, lt-ltb, ltb-false}
use Rattle.model.specs.declared.Component.{Component}
use Rattle.components.specs.declared.ComponentList.{ComponentList}
use Rattle.components.specs.declared.ChainError.TheVariants.{Empty, TooLong}
use Rattle.model.specs.Vocabulary.{pick}
use Rattle.components.specs.Chain.{entries_of, pushed, blank, or_else, first, new_ids, links, verdict_of}

-- Two lists of one length that agree up to it have the same entries, and so the same verdict: what stands past the
-- length does not matter.
pub past-length : (l m : ComponentList) → length l.entries ≡ length m.entries → l.len ≡ m.len
    → ((i : ℕ) → i < l.len → get_or l.entries i blank ≡ get_or m.entries i blank)
    → verdict_of l.len (entries_of l) ≡ verdict_of m.len (entries_of m)
past-length l m a n f = rw (same, n)
  where
    at_place : (i : ℕ) → i < length (entries_of l) → get_or (entries_of l) i blank ≡ get_or (entries_of m) i blank
    at_place i h =
        let b : i < l.len = omega (arith, length-take l.len l.entries) in
        get_or-take l.len l.entries i blank b ∙ f i b ∙ sym (get_or-take m.len m.entries i blank (omega arith))

    same : entries_of l ≡ entries_of m
    same = ext_get_or blank (entries_of l) (entries_of m) (simp length-take (rw (a, n))) at_place

-- Of a whole list of any length the first 255 entries are enough.
pub kept : (ch : List Component) → verdict_of (length ch) (take 255 ch) ≡ verdict_of (length ch) ch
kept ch = by-test (ltb 255 (length ch)) refl
  where
    by-test : (b : Bool) → ltb 255 (length ch) ≡ b
        → pick (eqb (length ch) 0) (Err Empty) (pick b (Err TooLong) (or_else (first (take 255 ch) (new_ids (take 255 ch))) (first (take 255 ch) (links (take 255 ch)))))
        ≡ pick (eqb (length ch) 0) (Err Empty) (pick b (Err TooLong) (or_else (first ch (new_ids ch)) (first ch (links ch))))
    by-test true t = refl
    by-test false t = rw (take_all 255 ch (ltb-false 255 (length ch) t))

-- A list of more than 255 is too long, whatever is kept of it.
pub too_long : (n : ℕ) (ch : List Component) → 255 < n → verdict_of n ch ≡ Err TooLong
too_long n ch h = let z : n ≡ 0 → ⊥ = λ q. omega arith in rw (ne_eqb n 0 z, lt-ltb 255 n h)

-- Where there is room, an entry that is pushed stands behind the others.
pub push-adds : (l : ComponentList) (c : Component) → length l.entries ≡ 255 → l.len < 255 → entries_of (pushed l c) ≡ entries_of l ++ (c ∷ [])
push-adds l c full h = rw (lt-ltb l.len 255 h, add-one l.len) (take-suc-set l.entries l.len c (omega arith))
