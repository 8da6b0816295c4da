-- After so many turns the loop of `settle_in` stands at what as many turns of the definition give.
use Rattle.settling.proofs.Looped.{After}
use Rattle.settling.proofs.settle_in.Given as goal

abbrev pub invariant-loop : goal.invariant-loop
invariant-loop l = After l.chain l.max_retry l.fn.w l.fn.d l.counter l.w l.d
