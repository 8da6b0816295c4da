-- Section 5, from value to text: a whole sheet is a B line, then C lines, then E and R lines, each ended by byte 10.
use Rattle.std.specs.Prelude.{List, [], ◌∷◌, ◌++◌, ℕ, ◌≤◌}
use Rattle.model.specs.declared.Component.{Component}
use Rattle.model.specs.declared.Event.{Event}
use Rattle.settling.specs.declared.Reply.{Reply}
use Rattle.text.specs.Text.{line}
use Rattle.events.specs.Grammar.{EventInRange}
use Rattle.lines.specs.Grammar.{retry_line, card_line, begin_line, answer_line, CardInRange, AnswerInRange}

-- What an E or R line says.
pub data Order : Type 0 where
  Begins : Event → Order
  Answers : Reply → Order

-- What a sheet says.
pub record Content : Type 0 where
  pub max_retry : ℕ
  pub cards : List Component
  pub orders : List Order

abbrev pub order_line : Order → List ℕ
order_line (Begins e) = begin_line e
order_line (Answers a) = answer_line a

unfoldable pub card_lines : List Component → List ℕ
card_lines [] = []
card_lines (c ∷ cs) = line (card_line c) ++ card_lines cs

unfoldable pub order_lines : List Order → List ℕ
order_lines [] = []
order_lines (o ∷ os) = line (order_line o) ++ order_lines os

unfoldable pub sheet_text : Content → List ℕ
sheet_text v = line (retry_line v.max_retry) ++ card_lines v.cards ++ order_lines v.orders

-- The numbers that a sheet can hold.
abbrev pub OrderInRange : Order → Type 0
OrderInRange (Begins e) = EventInRange e
OrderInRange (Answers a) = AnswerInRange a

abbrev pub CardsInRange : List Component → Type 0
CardsInRange [] = Unit {0}
CardsInRange (c ∷ cs) = CardInRange c × CardsInRange cs

abbrev pub OrdersInRange : List Order → Type 0
OrdersInRange [] = Unit {0}
OrdersInRange (o ∷ os) = OrderInRange o × OrdersInRange os

pub record InRange (v : Content) : Type 0 where
  pub max_retry : v.max_retry ≤ 255
  pub cards : CardsInRange v.cards
  pub orders : OrdersInRange v.orders
