-- What is left of a sheet gives the whole answer: the first bad line, and max_retry and the components of the lines before it,
-- from a place on.
use Rattle.std.specs.Prelude.{Option, None, Some}
use mathlib.Core.Path.{◌≡◌, refl, sym, ap, ◌∙◌}
use mathlib.Core.Bool.{Bool, true, false}
use mathlib.Core.List.{List, [], ◌∷◌}
use Prim.Native.Nat.{ℕ, suc, ◌+◌, ◌<◌, ◌≤◌}
use native.Mathlib.Numerals.{add-one}
use lib.ListN.{length, drop}
use Rattle.model.specs.Vocabulary.{pick}
use Rattle.components.specs.declared.ComponentList.{ComponentList}
use Rattle.lines.specs.declared.Row.{Row}
use Rattle.lines.specs.declared.Row.TheVariants.{Retry, Card, Begin, Answer}
use Rattle.reader.specs.declared.Part.{Part}
use Rattle.reader.specs.declared.Part.TheVariants.{Opening}
use Rattle.reader.specs.declared.Next.{Next}
use Rattle.reader.specs.declared.Sheet.{Sheet}
use Rattle.reader.specs.Read.{rows_in, part_after, is_wrong, is_opening, bad_from, bad_line, good_from, good_in, retry_after, retry_from, card_before, cards_of, cards_in, pushed_all, Reads, Whole, Bad}
use Rattle.reader.proofs.Rows.{rows-past}
use Rattle.reader.proofs.Good.{good-all}

-- Row by row.
pub retry-next : (n : ℕ) (r : Option Row) (rs : List (Option Row)) → retry_from n (r ∷ rs) ≡ retry_from (retry_after n r) rs
unfolding retry_from
retry-next n r rs = refl

pub retry-end : (n : ℕ) → retry_from n [] ≡ n
unfolding retry_from
retry-end n = refl

pub bad-next : (part : Part) (n : ℕ) (r : Option Row) (rs : List (Option Row))
    → bad_from part n (r ∷ rs) ≡ pick (is_wrong (part_after part r)) n (bad_from (part_after part r) (suc n) rs)
unfolding bad_from
bad-next part n r rs = refl

pub bad-end : (part : Part) (n : ℕ) → bad_from part n [] ≡ pick (is_opening part) n 0
unfolding bad_from
bad-end part n = refl

pub pushed-next : (l : ComponentList) (r : Option Row) (rs : List (Option Row))
    → pushed_all l (cards_of (r ∷ rs)) ≡ pushed_all (pushed_all l (card_before r [])) (cards_of rs)
unfolding pushed_all cards_of
pushed-next l (Some (Retry n)) rs = refl
pushed-next l (Some (Card c)) rs = refl
pushed-next l (Some (Begin e)) rs = refl
pushed-next l (Some (Answer a)) rs = refl
pushed-next l None rs = refl

pub pushed-end : (l : ComponentList) → pushed_all l (cards_of []) ≡ l
unfolding pushed_all cards_of
pushed-end l = refl

pub good-next : (part : Part) (r : Option Row) (rs : List (Option Row))
    → good_from part (r ∷ rs) ≡ pick (is_wrong (part_after part r)) [] (r ∷ good_from (part_after part r) rs)
unfolding good_from
good-next part r rs = refl

pub good-end : (part : Part) → good_from part [] ≡ []
unfolding good_from
good-end part = refl

-- The answers of the sheet s are those of what stands from `at` on, where `read` is known of what stands before.
pub record Left (s : List ℕ) (before : Sheet) (at line : ℕ) (part : Part) (read : Sheet) : Type 0 where
  pub bad : bad_line s ≡ bad_from part line (rows_in (drop at s))
  pub retry : retry_from before.max_retry (good_in s) ≡ retry_from read.max_retry (good_from part (rows_in (drop at s)))
  pub list : pushed_all before.list (cards_of (good_in s)) ≡ pushed_all read.list (cards_of (good_from part (rows_in (drop at s))))

pub left-all : (s : List ℕ) (before : Sheet) → Left s before 0 1 Opening before
unfolding bad_line good_in
left-all s before = record { bad = refl; retry = refl; list = refl }

module _ (s : List ℕ) (before : Sheet) (at line : ℕ) (part : Part) (read : Sheet) (left : Left s before at line part read) where
  -- No good row is left: what is known is the answer.
  module _ (g : good_from part (rows_in (drop at s)) ≡ []) where
    told-retry : read.max_retry ≡ retry_from before.max_retry (good_in s)
    told-retry = sym (left.retry ∙ ap (retry_from read.max_retry) g ∙ retry-end read.max_retry)

    told-list : read.list ≡ pushed_all before.list (cards_of (good_in s))
    told-list = sym (left.list ∙ ap (λ (x : List (Option Row)). pushed_all read.list (cards_of x)) g ∙ pushed-end read.list)

  -- The line at `at`.
  module _ (r : Next) (reads : Reads s at r) (q : Part) (e : q ≡ part_after part r.row) where
    bad-by : bad_line s ≡ pick (is_wrong q) line (bad_from q (suc line) (rows_in (drop r.after s)))
    bad-by =
        left.bad ∙ ap (bad_from part line) reads.row ∙ bad-next part line r.row _
        ∙ ap (λ (x : Part). pick (is_wrong x) line (bad_from x (suc line) (rows_in (drop r.after s)))) (sym e)

    good-by : good_from part (rows_in (drop at s)) ≡ pick (is_wrong q) [] (r.row ∷ good_from q (rows_in (drop r.after s)))
    good-by =
        ap (good_from part) reads.row ∙ good-next part r.row _
        ∙ ap (λ (x : Part). pick (is_wrong x) [] (r.row ∷ good_from x (rows_in (drop r.after s)))) (sym e)

    pub left-wrong : is_wrong q ≡ true → 0 < line → Bad s before record { line = line } read
    left-wrong w h =
        let g = good-by ∙ ap (λ (b : Bool). pick b [] (r.row ∷ good_from q (rows_in (drop r.after s)))) w in
        record {
          line = sym (bad-by ∙ ap (λ (b : Bool). pick b line (bad_from q (suc line) (rows_in (drop r.after s)))) w);
          some = h;
          retry = told-retry g;
          list = told-list g;
        }

    pub left-next : is_wrong q ≡ false → (m : Sheet) → m.max_retry ≡ retry_after read.max_retry r.row
        → m.list ≡ pushed_all read.list (card_before r.row []) → Left s before r.after (line + 1) q m
    left-next w m p g =
        let after = rows_in (drop r.after s) in
        let rest = good_from q after in
        let good : good_from part (rows_in (drop at s)) ≡ r.row ∷ rest = good-by ∙ ap (λ (b : Bool). pick b [] (r.row ∷ rest)) w in
        record {
          bad = bad-by ∙ ap (λ (b : Bool). pick b line (bad_from q (suc line) after)) w ∙ ap (λ (i : ℕ). bad_from q i after) (sym (add-one line));
          retry = left.retry ∙ ap (retry_from read.max_retry) good ∙ retry-next read.max_retry r.row rest ∙ ap (λ (i : ℕ). retry_from i rest) (sym p);
          list =
              left.list ∙ ap (λ (x : List (Option Row)). pushed_all read.list (cards_of x)) good ∙ pushed-next read.list r.row rest
              ∙ ap (λ (x : ComponentList). pushed_all x (cards_of rest)) (sym g);
        }

  -- No line is left.
  module _ (h : length s ≤ at) where
    none : rows_in (drop at s) ≡ []
    none = rows-past s at h

    end_by : bad_line s ≡ pick (is_opening part) line 0
    end_by = left.bad ∙ ap (bad_from part line) none ∙ bad-end part line

    none-good : good_from part (rows_in (drop at s)) ≡ []
    none-good = ap (good_from part) none ∙ good-end part

    pub left-opening : is_opening part ≡ true → 0 < line → Bad s before record { line = line } read
    left-opening o f =
        record {
          line = sym (end_by ∙ ap (λ (b : Bool). pick b line 0) o);
          some = f;
          retry = told-retry none-good;
          list = told-list none-good;
        }

    -- No line was bad, so that the lines before it are all of them.
    pub left_end : is_opening part ≡ false → Whole s before read
    unfolding cards_in
    left_end o =
        let good = end_by ∙ ap (λ (b : Bool). pick b line 0) o in
        let all = good-all s good in
        record {
          good = good;
          retry = told-retry none-good ∙ ap (retry_from before.max_retry) all;
          list = told-list none-good ∙ ap (λ (x : List (Option Row)). pushed_all before.list (cards_of x)) all;
        }
