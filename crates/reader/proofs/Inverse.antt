-- Reading inverts printing for whole sheets. Between a text and what it says stand its rows: a text is the lines of its rows,
-- and rows with no bad line are those of what they say.
use Rattle.std.specs.Prelude.{Option, None, Some}
use mathlib.Core.Path.{◌≡◌, refl, sym, ap, ◌∙◌, subst}
use mathlib.Core.Bool.{Bool, true, false}
use mathlib.Core.Logic.{◌⊎◌, inl, inr}
use mathlib.Core.List.{List, [], ◌∷◌, ◌++◌, append_assoc}
use Prim.Native.Nat.{ℕ, zero, suc, ◌<◌, ◌≤◌}
use native.Mathlib.Omega.{arith}
use borrow.Author.Tests.{ltb-true, ltb-false}
use lib.Dec.{ltb}
use lib.ListN.{length, take, drop, length-drop}
use Rattle.model.specs.Vocabulary.{pick}
use Rattle.model.specs.declared.Component.{Component}
use Rattle.text.specs.Text.{line}
use Rattle.fields.specs.Fields.{place_of}
use Rattle.fields.proofs.Scan.{place-le}
use Rattle.fields.proofs.Cut.{cut_at}
use Rattle.lines.specs.declared.Row.{Row}
use Rattle.lines.specs.declared.Row.TheVariants.{Retry, Card, Begin, Answer}
use Rattle.lines.specs.Grammar.{retry_line, card_line, begin_line, answer_line, IsLine}
use Rattle.lines.specs.Read.{row_of}
use Rattle.lines.proofs.Inverse.{read-line, line-or-bad}
use Rattle.reader.specs.declared.Part.{Part}
use Rattle.reader.specs.declared.Part.TheVariants.{Opening, Cards, Script, Wrong}
use Rattle.reader.specs.Grammar.{Order, Begins, Answers, Content, order_line, card_lines, order_lines, sheet_text, CardsInRange, OrdersInRange, InRange}
use Rattle.reader.specs.Read.{rows_in, part_after, is_wrong, bad_from, bad_line, retry_from, retry_in, cards_of, cards_in, orders_of, content_of}
use Rattle.reader.proofs.Rows.{rows_cut, rows-line, rows-open, rows_none}
use Rattle.reader.proofs.Left.{bad-next}
use Rattle.reader.proofs.Unbroken.{unbroken}

-- The text of rows, where each is a line's. A bad row has no line.
abbrev row_text : Option Row → List ℕ
row_text (Some (Retry n)) = retry_line n
row_text (Some (Card c)) = card_line c
row_text (Some (Begin e)) = begin_line e
row_text (Some (Answer a)) = answer_line a
row_text None = []

unfoldable rows_text : List (Option Row) → List ℕ
rows_text [] = []
rows_text (r ∷ rs) = line (row_text r) ++ rows_text rs

abbrev AreLines : List (Option Row) → Type 0
AreLines [] = Unit {0}
AreLines (r ∷ rs) = IsLine (row_text r) r × AreLines rs

-- The text of rows is read as these rows.
read-rows : (rs : List (Option Row)) → AreLines rs → rows_in (rows_text rs) ≡ rs
unfolding rows_text
read-rows [] h = rows_none
read-rows (r ∷ rs) h =
    let a = read-line (row_text r) r h.0 in
    let b = read-rows rs h.1 in
    rows-line (row_text r) (rows_text rs) (unbroken (row_text r) r h.0) ∙ (λ j. a j ∷ b j)

-- Where no line is bad, a text is that of its rows.
rest-by : (t : Bool) (n m : ℕ) → 0 < n → pick t n m ≡ 0 → m ≡ 0
rest-by true n m h e = absurd (omega arith)
rest-by false n m h e = e

rest-good : (part : Part) (n : ℕ) (r : Option Row) (rs : List (Option Row)) → 0 < n → bad_from part n (r ∷ rs) ≡ 0 → bad_from (part_after part r) (suc n) rs ≡ 0
rest-good part n r rs h e = rest-by (is_wrong (part_after part r)) n _ h (sym (bad-next part n r rs) ∙ e)

bad-here : (part : Part) (n : ℕ) (rs : List (Option Row)) → bad_from part n (None ∷ rs) ≡ n
unfolding bad_from
bad-here Opening n rs = refl
bad-here Cards n rs = refl
bad-here Script n rs = refl
bad-here Wrong n rs = refl

its-text : (l : List ℕ) (r : Option Row) → IsLine l r → l ≡ row_text r
its-text l (Some (Retry n)) h = h.0
its-text l (Some (Card c)) h = h.0
its-text l (Some (Begin e)) h = h.0
its-text l (Some (Answer a)) h = h.0
its-text l None h = absurd h

record Printed (s : List ℕ) (rs : List (Option Row)) : Type 0 where
  text : s ≡ rows_text rs
  each : AreLines rs

printed-next : (s l t : List ℕ) (r : Option Row) (rs : List (Option Row)) → s ≡ line l ++ t → IsLine l r → Printed t rs → Printed s (r ∷ rs)
unfolding rows_text
printed-next s l t r rs e h d =
    let a = its-text l r h in
    let b = d.text in
    record { text = e ∙ (λ j. line (a j) ++ b j); each = (subst (λ (x : List ℕ). IsLine x r) a h, d.each) }

is-line : (part : Part) (n : ℕ) (l : List ℕ) (rs : List (Option Row)) → 0 < n → bad_from part n (row_of l ∷ rs) ≡ 0 → IsLine l (row_of l) ⊎ (row_of l ≡ None)
    → IsLine l (row_of l)
is-line part n l rs g e (inl h) = h
is-line part n l rs g e (inr p) =
    let z = sym (bad-here part n rs) ∙ ap (λ (r : Option Row). bad_from part n (r ∷ rs)) (sym p) ∙ e in
    absurd (omega arith)

-- Where the same is known of every shorter text: the first line is ended and no bad one, or there is none.
module _ (s : List ℕ) (part : Part) (n : ℕ) (g : 0 < n) (e : bad_from part n (rows_in s) ≡ 0)
    (f : (t : List ℕ) → length t < length s → (p : Part) → bad_from p (suc n) (rows_in t) ≡ 0 → Printed t (rows_in t)) where
  text-by : 0 < length s → (t : Bool) → ltb (place_of 10 s) (length s) ≡ t → Printed s (rows_in s)
  text-by some true q =
      let h = ltb-true (place_of 10 s) (length s) q in
      let l = take (place_of 10 s) s in
      let t = drop (suc (place_of 10 s)) s in
      let known = ap (bad_from part n) (sym (rows_cut s h)) ∙ e in
      subst (Printed s) (sym (rows_cut s h))
      (printed-next s l t (row_of l) (rows_in t) (cut_at 10 s h ∙ sym (append_assoc l (10 ∷ []) t)) (is-line part n l (rows_in t) g known (line-or-bad l))
      (f t (omega (arith, length-drop (suc (place_of 10 s)) s)) (part_after part (row_of l)) (rest-good part n (row_of l) (rows_in t) g known)))
  text-by some false q =
      let h : place_of 10 s ≡ length s = omega (arith, ltb-false (place_of 10 s) (length s) q, place-le 10 s) in
      let z = sym (bad-here part n []) ∙ ap (bad_from part n) (sym (rows-open s h some)) ∙ e in
      absurd (omega arith)

text-step : (s : List ℕ) (part : Part) (n : ℕ) → 0 < n → bad_from part n (rows_in s) ≡ 0
    → ((t : List ℕ) → length t < length s → (p : Part) → bad_from p (suc n) (rows_in t) ≡ 0 → Printed t (rows_in t)) → Printed s (rows_in s)
unfolding rows_text
text-step [] part n g e f = subst (Printed []) (sym rows_none) (record { text = refl; each = tt })
text-step (x ∷ s) part n g e f = text-by (x ∷ s) part n g e f (omega arith) _ refl

text-rows : (k : ℕ) (s : List ℕ) → length s ≤ k → (part : Part) (n : ℕ) → 0 < n → bad_from part n (rows_in s) ≡ 0 → Printed s (rows_in s)
text-rows zero s h part n g e = text-step s part n g e (λ t q p z. absurd (omega arith))
text-rows (suc k) s h part n g e = text-step s part n g e (λ t q p z. text-rows k t (omega arith) p (suc n) (omega arith) z)

-- The rows of what a sheet says.
abbrev order_row : Order → Option Row
order_row (Begins e) = Some (Begin e)
order_row (Answers a) = Some (Answer a)

unfoldable order_rows : List Order → List (Option Row)
order_rows [] = []
order_rows (o ∷ os) = order_row o ∷ order_rows os

unfoldable card_rows : List Component → List (Option Row) → List (Option Row)
card_rows [] rs = rs
card_rows (c ∷ cs) rs = Some (Card c) ∷ card_rows cs rs

unfoldable content_rows : Content → List (Option Row)
content_rows v = Some (Retry v.max_retry) ∷ card_rows v.cards (order_rows v.orders)

-- Their text is the sheet's.
order-text : (o : Order) → row_text (order_row o) ≡ order_line o
order-text (Begins e) = refl
order-text (Answers a) = refl

orders-text : (os : List Order) → rows_text (order_rows os) ≡ order_lines os
unfolding rows_text order_rows order_lines
orders-text [] = refl
orders-text (o ∷ os) = let a = order-text o in let b = orders-text os in (λ j. line (a j) ++ b j)

cards-text : (cs : List Component) (rs : List (Option Row)) → rows_text (card_rows cs rs) ≡ card_lines cs ++ rows_text rs
unfolding rows_text card_rows card_lines
cards-text [] rs = refl
cards-text (c ∷ cs) rs = ap (λ (x : List ℕ). line (card_line c) ++ x) (cards-text cs rs) ∙ sym (append_assoc (line (card_line c)) (card_lines cs) (rows_text rs))

content-text : (v : Content) → rows_text (content_rows v) ≡ sheet_text v
unfolding rows_text content_rows sheet_text
content-text v =
    ap (λ (x : List ℕ). line (retry_line v.max_retry) ++ x)
    (cards-text v.cards (order_rows v.orders) ∙ ap (λ (x : List ℕ). card_lines v.cards ++ x) (orders-text v.orders))
    ∙ sym (append_assoc (line (retry_line v.max_retry)) (card_lines v.cards) (order_lines v.orders))

-- They are lines exactly where the numbers are in range.
orders-lines : (os : List Order) → OrdersInRange os → AreLines (order_rows os)
unfolding order_rows
orders-lines [] h = tt
orders-lines (Begins e ∷ os) h = ((refl, h.0), orders-lines os h.1)
orders-lines (Answers a ∷ os) h = ((refl, h.0), orders-lines os h.1)

cards-lines : (cs : List Component) (rs : List (Option Row)) → CardsInRange cs → AreLines rs → AreLines (card_rows cs rs)
unfolding card_rows
cards-lines [] rs h g = g
cards-lines (c ∷ cs) rs h g = ((refl, h.0), cards-lines cs rs h.1 g)

content-lines : (v : Content) → InRange v → AreLines (content_rows v)
unfolding content_rows
content-lines v h = ((refl, h.max_retry), cards-lines v.cards (order_rows v.orders) h.cards (orders-lines v.orders h.orders))

orders-range : (os : List Order) → AreLines (order_rows os) → OrdersInRange os
unfolding order_rows
orders-range [] h = tt
orders-range (Begins e ∷ os) h = (h.0.1, orders-range os h.1)
orders-range (Answers a ∷ os) h = (h.0.1, orders-range os h.1)

cards-range : (cs : List Component) (rs : List (Option Row)) → AreLines (card_rows cs rs) → CardsInRange cs × AreLines rs
unfolding card_rows
cards-range [] rs h = (tt, h)
cards-range (c ∷ cs) rs h = let g = cards-range cs rs h.1 in ((h.0.1, g.0), g.1)

content-range : (v : Content) → AreLines (content_rows v) → InRange v
unfolding content_rows
content-range v h =
    let g = cards-range v.cards (order_rows v.orders) h.1 in
    record { max_retry = h.0.1; cards = g.0; orders = orders-range v.orders g.1 }

-- They say it, and none is bad.
retry-orders : (n : ℕ) (os : List Order) → retry_from n (order_rows os) ≡ n
unfolding retry_from order_rows
retry-orders n [] = refl
retry-orders n (Begins e ∷ os) = retry-orders n os
retry-orders n (Answers a ∷ os) = retry-orders n os

retry-cards : (n : ℕ) (cs : List Component) (rs : List (Option Row)) → retry_from n (card_rows cs rs) ≡ retry_from n rs
unfolding retry_from card_rows
retry-cards n [] rs = refl
retry-cards n (c ∷ cs) rs = retry-cards n cs rs

cards-orders : (os : List Order) → cards_of (order_rows os) ≡ []
unfolding cards_of order_rows
cards-orders [] = refl
cards-orders (Begins e ∷ os) = cards-orders os
cards-orders (Answers a ∷ os) = cards-orders os

cards-cards : (cs : List Component) (rs : List (Option Row)) → cards_of rs ≡ [] → cards_of (card_rows cs rs) ≡ cs
unfolding cards_of card_rows
cards-cards [] rs e = e
cards-cards (c ∷ cs) rs e = ap (λ (x : List Component). c ∷ x) (cards-cards cs rs e)

orders-orders : (os : List Order) → orders_of (order_rows os) ≡ os
unfolding orders_of order_rows
orders-orders [] = refl
orders-orders (Begins e ∷ os) = ap (λ (x : List Order). Begins e ∷ x) (orders-orders os)
orders-orders (Answers a ∷ os) = ap (λ (x : List Order). Answers a ∷ x) (orders-orders os)

orders-cards : (cs : List Component) (rs : List (Option Row)) → orders_of (card_rows cs rs) ≡ orders_of rs
unfolding orders_of card_rows
orders-cards [] rs = refl
orders-cards (c ∷ cs) rs = orders-cards cs rs

script-good : (n : ℕ) (os : List Order) → bad_from Script n (order_rows os) ≡ 0
unfolding bad_from order_rows
script-good n [] = refl
script-good n (Begins e ∷ os) = script-good (suc n) os
script-good n (Answers a ∷ os) = script-good (suc n) os

cards-good : (n : ℕ) (cs : List Component) (os : List Order) → bad_from Cards n (card_rows cs (order_rows os)) ≡ 0
unfolding bad_from card_rows order_rows
cards-good n [] [] = refl
cards-good n [] (Begins e ∷ os) = script-good (suc n) os
cards-good n [] (Answers a ∷ os) = script-good (suc n) os
cards-good n (c ∷ cs) os = cards-good (suc n) cs os

content-good : (n : ℕ) (v : Content) → bad_from Opening n (content_rows v) ≡ 0
unfolding bad_from content_rows
content-good n v = cards-good (suc n) v.cards v.orders

content-said : (s : List ℕ) (v : Content) → rows_in s ≡ content_rows v → content_of s ≡ v
unfolding content_of retry_in cards_in content_rows retry_from cards_of orders_of
content-said s v e =
    let os = order_rows v.orders in
    let a : retry_in s ≡ v.max_retry = ap (retry_from 0) e ∙ retry-cards v.max_retry v.cards os ∙ retry-orders v.max_retry v.orders in
    let b : cards_in s ≡ v.cards = ap cards_of e ∙ cards-cards v.cards os (cards-orders v.orders) in
    let c : orders_of (rows_in s) ≡ v.orders = ap orders_of e ∙ orders-cards v.cards os ∙ orders-orders v.orders in
    (λ j. record { max_retry = a j; cards = b j; orders = c j })

-- Rows of which none is bad are those of something.
script-rows : (n : ℕ) (rs : List (Option Row)) → 0 < n → bad_from Script n rs ≡ 0 → (os : List Order) × (rs ≡ order_rows os)
unfolding bad_from order_rows
script-rows n [] h e = ([], refl)
script-rows n (Some (Retry k) ∷ rs) h e = absurd (omega arith)
script-rows n (Some (Card c) ∷ rs) h e = absurd (omega arith)
script-rows n (Some (Begin x) ∷ rs) h e =
    let t = script-rows (suc n) rs (omega arith) e in
    (Begins x ∷ t.0, ap (λ (y : List (Option Row)). Some (Begin x) ∷ y) t.1)
script-rows n (Some (Answer a) ∷ rs) h e =
    let t = script-rows (suc n) rs (omega arith) e in
    (Answers a ∷ t.0, ap (λ (y : List (Option Row)). Some (Answer a) ∷ y) t.1)
script-rows n (None ∷ rs) h e = absurd (omega arith)

cards-rows : (n : ℕ) (rs : List (Option Row)) → 0 < n → bad_from Cards n rs ≡ 0 → (cs : List Component) × (os : List Order) × (rs ≡ card_rows cs (order_rows os))
unfolding bad_from card_rows order_rows
cards-rows n [] h e = ([], [], refl)
cards-rows n (Some (Retry k) ∷ rs) h e = absurd (omega arith)
cards-rows n (Some (Card c) ∷ rs) h e =
    let t = cards-rows (suc n) rs (omega arith) e in
    (c ∷ t.0, t.1, ap (λ (y : List (Option Row)). Some (Card c) ∷ y) t.2)
cards-rows n (Some (Begin x) ∷ rs) h e =
    let t = script-rows (suc n) rs (omega arith) e in
    ([], Begins x ∷ t.0, ap (λ (y : List (Option Row)). Some (Begin x) ∷ y) t.1)
cards-rows n (Some (Answer a) ∷ rs) h e =
    let t = script-rows (suc n) rs (omega arith) e in
    ([], Answers a ∷ t.0, ap (λ (y : List (Option Row)). Some (Answer a) ∷ y) t.1)
cards-rows n (None ∷ rs) h e = absurd (omega arith)

content-rows : (n : ℕ) (rs : List (Option Row)) → 0 < n → bad_from Opening n rs ≡ 0 → (v : Content) × (rs ≡ content_rows v)
unfolding bad_from content_rows
content-rows n [] h e = absurd (omega arith)
content-rows n (Some (Retry k) ∷ rs) h e =
    let t = cards-rows (suc n) rs (omega arith) e in
    (record { max_retry = k; cards = t.0; orders = t.1 }, ap (λ (y : List (Option Row)). Some (Retry k) ∷ y) t.2)
content-rows n (Some (Card c) ∷ rs) h e = absurd (omega arith)
content-rows n (Some (Begin x) ∷ rs) h e = absurd (omega arith)
content-rows n (Some (Answer a) ∷ rs) h e = absurd (omega arith)
content-rows n (None ∷ rs) h e = absurd (omega arith)

-- Reading inverts printing.
pub read-sheet : (v : Content) → InRange v → (bad_line (sheet_text v) ≡ 0) × (content_of (sheet_text v) ≡ v)
unfolding bad_line
read-sheet v h =
    let rows = ap rows_in (sym (content-text v)) ∙ read-rows (content_rows v) (content-lines v h) in
    (ap (bad_from Opening 1) rows ∙ content-good 1 v, content-said (sheet_text v) v rows)

-- Whatever is read is exactly what printing gives.
pub sheet-or-bad : (s : List ℕ) → bad_line s ≡ 0 → (s ≡ sheet_text (content_of s)) × InRange (content_of s)
unfolding bad_line
sheet-or-bad s e =
    let found = content-rows 1 (rows_in s) (omega arith) e in
    let said : found.0 ≡ content_of s = sym (content-said s found.0 found.1) in
    let whole = subst (Printed s) (found.1 ∙ ap content_rows said) (text-rows (length s) s (omega arith) Opening 1 (omega arith) e) in
    (whole.text ∙ content-text (content_of s), content-range (content_of s) whole.each)
