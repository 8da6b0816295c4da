-- Nothing is isolated in a new set, so nothing past the chain is.
use Rattle.std.proofs.Common.{rules, ap, ◌∙◌, drop}
use Rattle.store.specs.declared.Isolated.{Isolated}
use Rattle.store.specs.Flags.{flags}
use Rattle.machine.proofs.New.{new-fits}
use Rattle.steps.proofs.isolated_of.Goals as goal

pub loop-p-init : goal.loop-p-init
loop-p-init c = (search rules, ap (λ (s : Isolated). drop c.args.n (flags s)) c.new-set.ensures.1 ∙ (new-fits c.args.n).clean)
