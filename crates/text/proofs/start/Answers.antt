-- `text::start` meets its contract: a letter is pushed to the cleared line, and then a tab and a name.
use Rattle.text.proofs.Laws.{chained, begun}
use Rattle.text.proofs.start.Goals as goal

pub returns : goal.returns
returns c = begun _ c.clear.ensures (chained c.push.ensures c.push_field.ensures)
