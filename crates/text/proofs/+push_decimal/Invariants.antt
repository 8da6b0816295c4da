-- `text::push_decimal` ends, since a tenth of a number from 10 on is less.
use Rattle.text.proofs.+push_decimal.Given as goal

abbrev pub decreases-push_decimal : goal.decreases-push_decimal
decreases-push_decimal l = l.n
