-- `fail` meets its contract: what is no later failure is the first.
use Rattle.std.proofs.Common.{sym}
use Rattle.settling.specs.View.{within}
use Rattle.settling.proofs.Views.{moves-as, fail-first}
use Rattle.settling.proofs.fail.Goals as goal

pub returns : goal.returns
returns c = moves-as c.latch.ensures (λ k es. sym (fail-first (within k es c.args.d.now) c.if-d.false))
