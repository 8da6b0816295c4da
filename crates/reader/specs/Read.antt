-- Section 5 and question 1, from text to value: the lines of a sheet, the first bad one, and what the others say.
use Rattle.std.specs.Prelude.{◌≡◌, Bool, true, false, List, [], ◌∷◌, ℕ, suc, ◌+◌, ◌<◌, ◌≤◌, eqb, ltb, length, drop, Option, None, Some, Result, Ok, Err}
use Rattle.model.specs.Vocabulary.{pick}
use Rattle.model.specs.declared.Component.{Component}
use Rattle.components.specs.declared.ComponentList.{ComponentList}
use Rattle.components.specs.Chain.{no_entries, pushed}
use Rattle.fields.specs.Fields.{place_of}
use Rattle.lines.specs.declared.Row.{Row}
use Rattle.lines.specs.declared.Row.TheVariants.{Retry, Card, Begin, Answer}
use Rattle.lines.specs.Read.{row_of}
use Rattle.reader.specs.declared.Part.{Part}
use Rattle.reader.specs.declared.Part.TheVariants.{Opening, Cards, Script, Wrong}
use Rattle.reader.specs.declared.Next.{Next}
use Rattle.reader.specs.declared.Sheet.{Sheet}
use Rattle.reader.specs.declared.BadSheet.{BadSheet}
use Rattle.reader.specs.Grammar.{Order, Begins, Answers, Content}

-- The pieces of a text between bytes 10: one more than there are such bytes.
abbrev pub joined : ℕ → List (List ℕ) → List (List ℕ)
joined x [] = []
joined x (p ∷ ps) = (x ∷ p) ∷ ps

unfoldable pub pieces : List ℕ → List (List ℕ)
pieces [] = [] ∷ []
pieces (x ∷ l) = pick (eqb x 10) ([] ∷ pieces l) (joined x (pieces l))

-- What each line says. Every piece but the last is a line that is ended. The last one is empty, or it is a line that is not
-- ended, and so a bad one.
unfoldable pub rows_of : List (List ℕ) → List (Option Row)
rows_of [] = []
rows_of (p ∷ []) = pick (eqb (length p) 0) [] (None ∷ [])
rows_of (p ∷ q ∷ ps) = row_of p ∷ rows_of (q ∷ ps)

unfoldable pub rows_in : List ℕ → List (Option Row)
rows_in s = rows_of (pieces s)

-- The B line, then C lines, then E and R lines.
abbrev pub part_after : Part → Option Row → Part
part_after Opening (Some (Retry n)) = Cards
part_after Opening (Some (Card c)) = Wrong
part_after Opening (Some (Begin e)) = Wrong
part_after Opening (Some (Answer a)) = Wrong
part_after Opening None = Wrong
part_after Cards (Some (Retry n)) = Wrong
part_after Cards (Some (Card c)) = Cards
part_after Cards (Some (Begin e)) = Script
part_after Cards (Some (Answer a)) = Script
part_after Cards None = Wrong
part_after Script (Some (Retry n)) = Wrong
part_after Script (Some (Card c)) = Wrong
part_after Script (Some (Begin e)) = Script
part_after Script (Some (Answer a)) = Script
part_after Script None = Wrong
part_after Wrong r = Wrong

abbrev pub is_wrong : Part → Bool
is_wrong Opening = false
is_wrong Cards = false
is_wrong Script = false
is_wrong Wrong = true

abbrev pub is_opening : Part → Bool
is_opening Opening = true
is_opening Cards = false
is_opening Script = false
is_opening Wrong = false

-- The first bad line of the rows from line n on, or 0. Where the B line is missing it is the line after the last.
unfoldable pub bad_from : Part → ℕ → List (Option Row) → ℕ
bad_from part n [] = pick (is_opening part) n 0
bad_from part n (r ∷ rs) = pick (is_wrong (part_after part r)) n (bad_from (part_after part r) (suc n) rs)

-- Question 1: the first bad line from 1, or 0 where every line is as in section 5.
unfoldable pub bad_line : List ℕ → ℕ
bad_line s = bad_from Opening 1 (rows_in s)

-- The rows before the first bad line: all of them, where there is none.
unfoldable pub good_from : Part → List (Option Row) → List (Option Row)
good_from part [] = []
good_from part (r ∷ rs) = pick (is_wrong (part_after part r)) [] (r ∷ good_from (part_after part r) rs)

unfoldable pub good_in : List ℕ → List (Option Row)
good_in s = good_from Opening (rows_in s)

-- max_retry: the number of the B line.
abbrev pub retry_after : ℕ → Option Row → ℕ
retry_after n (Some (Retry k)) = k
retry_after n (Some (Card c)) = n
retry_after n (Some (Begin e)) = n
retry_after n (Some (Answer a)) = n
retry_after n None = n

unfoldable pub retry_from : ℕ → List (Option Row) → ℕ
retry_from n [] = n
retry_from n (r ∷ rs) = retry_from (retry_after n r) rs

unfoldable pub retry_in : List ℕ → ℕ
retry_in s = retry_from 0 (rows_in s)

-- The components of the C lines.
abbrev pub card_before : Option Row → List Component → List Component
card_before (Some (Retry n)) cs = cs
card_before (Some (Card c)) cs = c ∷ cs
card_before (Some (Begin e)) cs = cs
card_before (Some (Answer a)) cs = cs
card_before None cs = cs

unfoldable pub cards_of : List (Option Row) → List Component
cards_of [] = []
cards_of (r ∷ rs) = card_before r (cards_of rs)

unfoldable pub cards_in : List ℕ → List Component
cards_in s = cards_of (rows_in s)

-- The events and replies of the E and R lines.
abbrev pub order_before : Option Row → List Order → List Order
order_before (Some (Retry n)) os = os
order_before (Some (Card c)) os = os
order_before (Some (Begin e)) os = Begins e ∷ os
order_before (Some (Answer a)) os = Answers a ∷ os
order_before None os = os

unfoldable pub orders_of : List (Option Row) → List Order
orders_of [] = []
orders_of (r ∷ rs) = order_before r (orders_of rs)

-- What a sheet says. It means something only where no line is bad.
unfoldable pub content_of : List ℕ → Content
content_of s = record { max_retry = retry_in s; cards = cards_in s; orders = orders_of (rows_in s) }

-- A list of components that these are pushed to, one after the other.
unfoldable pub pushed_all : ComponentList → List Component → ComponentList
pushed_all l [] = l
pushed_all l (c ∷ cs) = pushed_all (pushed l c) cs

-- The place after the line that begins at a place: behind its byte 10, or the end of the sheet where it is not ended.
unfoldable pub after_line : List ℕ → ℕ → ℕ
after_line s at = pick (ltb (place_of 10 (drop at s)) (length (drop at s))) (at + place_of 10 (drop at s) + 1) (length s)

-- What the line at a place of the sheet says, and the place after it.
pub record Reads (s : List ℕ) (at : ℕ) (r : Next) : Type 0 where
  pub row : rows_in (drop at s) ≡ r.row ∷ rows_in (drop r.after s)
  pub place : r.after ≡ after_line s at
  pub onward : at < r.after
  pub within : r.after ≤ length s

-- What is known before a line is read.
abbrev pub no_lines : Sheet
no_lines = record { max_retry = 0; list = no_entries }

-- No line is bad: max_retry is that of the sheet, or what it was before where no line says it, and the components of the sheet
-- are added to those before; of more than 255 the first 255 are kept.
pub record Whole (s : List ℕ) (before after : Sheet) : Type 0 where
  pub good : bad_line s ≡ 0
  pub retry : after.max_retry ≡ retry_from before.max_retry (rows_in s)
  pub list : after.list ≡ pushed_all before.list (cards_in s)

-- The line that is refused is the first bad one. max_retry and the components are those of the lines before it.
pub record Bad (s : List ℕ) (before : Sheet) (b : BadSheet) (after : Sheet) : Type 0 where
  pub line : b.line ≡ bad_line s
  pub some : 0 < b.line
  pub retry : after.max_retry ≡ retry_from before.max_retry (good_in s)
  pub list : after.list ≡ pushed_all before.list (cards_of (good_in s))

-- What the sheet says is added to what was known before, or the lines before its first bad line are, which is told.
abbrev pub ReadAs : List ℕ → Sheet → Result (Unit {0}) BadSheet → Sheet → Type 0
ReadAs s before (Ok u) after = Whole s before after
ReadAs s before (Err b) after = Bad s before b after
