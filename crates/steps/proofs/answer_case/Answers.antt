-- `answer_case` meets what `step` requires: the list was accepted, and so its chain is.
use Rattle.std.proofs.Common.{sym, ◌∙◌}
use Rattle.sm.proofs.Starting.{start-accepted}
use Rattle.steps.proofs.answer_case.Goals as goal

pub step-w-requires : goal.step-w-requires
step-w-requires c = start-accepted c.list_of-list.result c.of-chain.result (sym c.verdict-verdict.ensures ∙ c.in-Ok.is) c.of-chain.ensures
