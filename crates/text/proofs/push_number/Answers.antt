-- `text::push_number` meets its contract: a tab is pushed, and then the rest.
use Rattle.text.proofs.Laws.{chained}
use Rattle.text.proofs.push_number.Goals as goal

pub returns : goal.returns
returns c = chained c.push.ensures c.push_decimal.ensures
