-- What is written so far, and the steps that are left, give the whole run; and the parts make a machine.
use Rattle.settling.specs.Parts.{together, Parts}
use Rattle.driver.proofs.Going.{Going, measure}
use Rattle.driver.proofs.drive.Given as goal

abbrev pub invariant-loop-c : goal.invariant-loop-c
invariant-loop-c l = Parts l.fn.machine.chain l.work l.dispatch × Going l.sheet l.fn.out l.limit l.fn.machine l.out (together l.fn.machine.chain l.work l.dispatch) l.c

abbrev pub decreases-loop-c : goal.decreases-loop-c
decreases-loop-c l = measure l.sheet l.limit l.fn.machine (together l.fn.machine.chain l.work l.dispatch) l.c
