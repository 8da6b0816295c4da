-- `text::name_line` meets its contract: the line is ended.
use Rattle.text.proofs.Laws.{grown}
use Rattle.text.proofs.name_line.Goals as goal

pub returns : goal.returns
returns c = grown c.start.ensures c.push.ensures
