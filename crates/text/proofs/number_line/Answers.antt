-- `text::number_line` meets its contract: a number is pushed, and the line is ended.
use Rattle.std.proofs.Common.{append_assoc}
use Rattle.text.proofs.Laws.{grown, rejoined}
use Rattle.text.proofs.number_line.Goals as goal

pub returns : goal.returns
returns c = rejoined _ (grown (grown c.start.ensures c.push_number.ensures) c.push.ensures) (simp append_assoc)
