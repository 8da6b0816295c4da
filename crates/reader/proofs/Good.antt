-- The rows before the first bad line: all of them where no line is bad, so that max_retry and the components are those of the
-- whole sheet.
use Rattle.std.specs.Prelude.{Option}
use mathlib.Core.Path.{◌≡◌, refl, ap}
use mathlib.Core.Bool.{Bool, true, false}
use mathlib.Core.List.{List, [], ◌∷◌}
use Prim.Native.Nat.{ℕ, suc, ◌<◌}
use native.Mathlib.Omega.{arith}
use Rattle.model.specs.Vocabulary.{pick}
use Rattle.components.specs.Chain.{no_entries}
use Rattle.lines.specs.declared.Row.{Row}
use Rattle.reader.specs.declared.Part.{Part}
use Rattle.reader.specs.declared.Part.TheVariants.{Opening}
use Rattle.reader.specs.declared.Sheet.{Sheet}
use Rattle.reader.specs.Read.{rows_in, part_after, is_wrong, bad_from, bad_line, good_from, good_in, retry_in, cards_in, pushed_all, no_lines, Whole}

good-from : (part : Part) (n : ℕ) (rs : List (Option Row)) → 0 < n → bad_from part n rs ≡ 0 → good_from part rs ≡ rs
unfolding bad_from good_from
good-from part n [] h e = refl
good-from part n (r ∷ rs) h e = by (is_wrong (part_after part r)) (λ f. good-from (part_after part r) (suc n) rs (omega arith) f) e
  where
    by : (b : Bool) → (bad_from (part_after part r) (suc n) rs ≡ 0 → good_from (part_after part r) rs ≡ rs)
        → pick b n (bad_from (part_after part r) (suc n) rs) ≡ 0
        → pick b [] (r ∷ good_from (part_after part r) rs) ≡ r ∷ rs
    by true k f = absurd (omega (arith, h, f))
    by false k f = ap (λ (x : List (Option Row)). r ∷ x) (k f)

pub good-all : (s : List ℕ) → bad_line s ≡ 0 → good_in s ≡ rows_in s
unfolding bad_line good_in
good-all s e = good-from Opening 1 (rows_in s) (omega arith) e

-- What is known of a whole sheet by itself.
module _ (s : List ℕ) (r : Sheet) (w : Whole s no_lines r) where
  pub retry-whole : r.max_retry ≡ retry_in s
  unfolding retry_in
  retry-whole = w.retry

  pub list-whole : r.list ≡ pushed_all no_entries (cards_in s)
  list-whole = w.list
