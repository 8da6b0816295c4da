-- The rows of a text, from its first line on: a line is cut at the first byte 10, and a text with no such byte is one bad line.
use Rattle.std.specs.Prelude.{Option, None}
use mathlib.Core.Path.{◌≡◌, refl, sym, ap, ◌∙◌}
use mathlib.Core.Bool.{Bool, true, false}
use mathlib.Core.List.{List, [], ◌∷◌, ◌++◌, append_assoc}
use Prim.Native.Nat.{ℕ, suc, ◌+◌, ◌-◌, ◌<◌, ◌≤◌}
use native.Mathlib.Omega.{arith}
use borrow.Author.Tests.{ne_eqb, lt-ltb, le-ltb}
use lib.Dec.{eqb}
use lib.ListN.{length, take, drop, length-append, length-drop, drop_of_length-le}
use lib.Seq.{drop-drop}
use Rattle.model.specs.Vocabulary.{pick}
use Rattle.text.specs.Text.{line}
use Rattle.fields.specs.Fields.{place_of}
use Rattle.fields.proofs.Scan.{place-le}
use Rattle.fields.proofs.Cut.{Without, place_at, before_at, after-at}
use Rattle.lines.specs.declared.Row.{Row}
use Rattle.lines.specs.Read.{row_of}
use Rattle.reader.specs.Read.{joined, pieces, rows_of, rows_in, Reads, after_line}

-- A text with a byte 10 is its first piece and the pieces of what follows that byte.
cut_by : (t : Bool) (x n : ℕ) (l : List ℕ) → pick t 0 (suc n) < suc (length l) → (n < length l → pieces l ≡ take n l ∷ pieces (drop (suc n) l))
    → pick t ([] ∷ pieces l) (joined x (pieces l)) ≡ take (pick t 0 (suc n)) (x ∷ l) ∷ pieces (drop (suc (pick t 0 (suc n))) (x ∷ l))
cut_by true x n l h f = refl
cut_by false x n l h f = ap (joined x) (f (omega arith))

pieces-cut : (l : List ℕ) → place_of 10 l < length l → pieces l ≡ take (place_of 10 l) l ∷ pieces (drop (suc (place_of 10 l)) l)
unfolding pieces place_of
pieces-cut [] h = absurd (omega arith)
pieces-cut (x ∷ l) h = cut_by (eqb x 10) x (place_of 10 l) l h (pieces-cut l)

-- A text with no byte 10 is its only piece.
uncut-by : (t : Bool) (x n : ℕ) (l : List ℕ) → pick t 0 (suc n) ≡ suc (length l) → (n ≡ length l → pieces l ≡ l ∷ [])
    → pick t ([] ∷ pieces l) (joined x (pieces l)) ≡ (x ∷ l) ∷ []
uncut-by true x n l h f = absurd (omega arith)
uncut-by false x n l h f = ap (joined x) (f (omega arith))

pieces-uncut : (l : List ℕ) → place_of 10 l ≡ length l → pieces l ≡ l ∷ []
unfolding pieces place_of
pieces-uncut [] h = refl
pieces-uncut (x ∷ l) h = uncut-by (eqb x 10) x (place_of 10 l) l h (pieces-uncut l)

-- There is always a piece, so that the first of two is never the last.
some-by : (t : Bool) (x : ℕ) (ps qs : List (List ℕ)) → 0 < length qs → 0 < length (pick t ([] ∷ ps) (joined x qs))
some-by true x ps qs h = omega arith
some-by false x ps [] h = absurd (omega arith)
some-by false x ps (q ∷ qs) h = omega arith

some-piece : (l : List ℕ) → 0 < length (pieces l)
unfolding pieces
some-piece [] = omega arith
some-piece (x ∷ l) = some-by (eqb x 10) x (pieces l) (pieces l) (some-piece l)

rows-cons : (p : List ℕ) (ps : List (List ℕ)) → 0 < length ps → rows_of (p ∷ ps) ≡ row_of p ∷ rows_of ps
unfolding rows_of
rows-cons p [] h = absurd (omega arith)
rows-cons p (q ∷ ps) h = refl

-- A line that is ended, and the lines after it.
pub rows_cut : (m : List ℕ) → place_of 10 m < length m → rows_in m ≡ row_of (take (place_of 10 m) m) ∷ rows_in (drop (suc (place_of 10 m)) m)
unfolding rows_in
rows_cut m h = ap rows_of (pieces-cut m h) ∙ rows-cons _ _ (some-piece _)

pub rows-line : (l r : List ℕ) → Without 10 l → rows_in (line l ++ r) ≡ row_of l ∷ rows_in r
rows-line l r u =
    let m = l ++ 10 ∷ r in
    let h : place_of 10 m < length m = omega (arith, place_at 10 l r u, length-append l (10 ∷ r)) in
    let before = before_at 10 l r u in
    let after = after-at 10 l r u in
    ap rows_in (append_assoc l (10 ∷ []) r) ∙ rows_cut m h ∙ (λ j. row_of (before j) ∷ rows_in (after j))

-- A line that is not ended.
pub rows-open : (m : List ℕ) → place_of 10 m ≡ length m → 0 < length m → rows_in m ≡ None ∷ []
unfolding rows_in rows_of
rows-open m e h =
    let z : length m ≡ 0 → ⊥ = λ q. omega arith in
    ap rows_of (pieces-uncut m e) ∙ ap (λ (b : Bool). pick b [] (None ∷ [])) (ne_eqb (length m) 0 z)

-- No line.
pub rows_none : rows_in [] ≡ []
unfolding rows_in rows_of pieces
rows_none = refl

pub rows-past : (s : List ℕ) (at : ℕ) → length s ≤ at → rows_in (drop at s) ≡ []
rows-past s at h = ap rows_in (drop_of_length-le s h) ∙ rows_none

-- The line of the sheet s that begins at a place, where m is what stands from there on and n the place of its byte 10.
module _ (s : List ℕ) (at : ℕ) (h : at < length s) (m : List ℕ) (w : m ≡ drop at s) (n : ℕ) (e : n ≡ place_of 10 m) where
  long : length m ≡ length s - at
  long = ap length w ∙ length-drop at s

  here : n ≡ place_of 10 (drop at s)
  here = e ∙ ap (place_of 10) w

  size : length m ≡ length (drop at s)
  size = ap length w

  pub reads-line : (n ≡ length m → ⊥) → (r : Option Row) → r ≡ row_of (take n m) → Reads s at (record { row = r; after = at + n + 1 })
  unfolding after_line
  reads-line f r p =
      let g : n < length m = omega (arith, place-le 10 m) in
      let on : at + suc n ≡ at + n + 1 = omega arith in
      record {
        row =
            ap rows_in (sym w) ∙ rows_cut m (omega arith)
            ∙ ap (λ (i : ℕ). row_of (take i m) ∷ rows_in (drop (suc i) m)) (sym e)
            ∙ ap (λ (x : List ℕ). row_of (take n m) ∷ rows_in x) (ap (drop (suc n)) w ∙ drop-drop (suc n) at s ∙ ap (λ (i : ℕ). drop i s) on)
            ∙ ap (λ (x : Option Row). x ∷ rows_in (drop (at + n + 1) s)) (sym p);
        place = sym (ap (λ (b : Bool). pick b (at + place_of 10 (drop at s) + 1) (length s)) (lt-ltb (place_of 10 (drop at s)) (length (drop at s)) (omega (arith, g, here, size))) ∙ ap (λ (i : ℕ). at + i + 1) (sym here));
        onward = omega arith;
        within = omega (arith, long);
      }

  pub reads-open : n ≡ length m → Reads s at (record { row = None; after = length s })
  unfolding after_line
  reads-open f =
      record {
        row =
            ap rows_in (sym w) ∙ rows-open m (omega arith) (omega (arith, long))
            ∙ ap (λ (x : List (Option Row)). None ∷ x) (sym (rows-past s (length s) (omega arith)));
        place = sym (ap (λ (b : Bool). pick b (at + place_of 10 (drop at s) + 1) (length s)) (le-ltb (place_of 10 (drop at s)) (length (drop at s)) (omega (arith, f, here, size))));
        onward = h;
        within = omega arith;
      }
