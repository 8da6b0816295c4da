-- `feed` keeps a machine that may be called from line to line.
use Rattle.steps.specs.Hand.{Callable}
use Rattle.steps.proofs.feed.Given as goal

abbrev pub invariant-loop-b : goal.invariant-loop-b
invariant-loop-b l = Callable l.fn.kept → Callable l.hand
