-- `text::push` meets its contract: it is the law of one item more.
use Rattle.std.proofs.Common.{ap, ◌∙◌}
use Rattle.bounded.specs.Items.{items_of}
use Rattle.bounded.proofs.Laws.{first-of-more}
use Rattle.text.specs.Lines.{held}
use Rattle.text.proofs.push.Goals as goal

pub returns : goal.returns
unfolding held
returns c = record { text = ap items_of c.push.ensures.0 ∙ first-of-more c.args.l.now.bytes c.args.b c.push.ensures.1 }
