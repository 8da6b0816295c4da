-- `started` meets its contract, and what is known of every machine is true of its one.
use Rattle.std.proofs.Common.{◌≤◌, length, refl, sym, subst, arith}
use Rattle.components.specs.Tables.{size}
use Rattle.machine.specs.declared.Rot.{Rot}
use Rattle.machine.specs.View.{Fit}
use Rattle.machine.proofs.New.{new-fits}
use Rattle.model.specs.declared.State.TheVariants.{PowerOnReset}
use Rattle.pending.specs.Queue.{events}
use Rattle.settling.specs.declared.Dispatch.{Dispatch}
use Rattle.sm.proofs.Starting.{start-accepted, start-fresh}
use Rattle.sm.proofs.started.Goals as goal

pub invariant_of-result-clause-accepted : goal.invariant_of-result-clause-accepted
invariant_of-result-clause-accepted c = start-accepted c.args.chain.list c.args.chain c.requires refl

pub invariant_of-result-clause-fit : goal.invariant_of-result-clause-fit
invariant_of-result-clause-fit c = subst (λ (x : Rot). Fit (size c.args.chain) x) (sym c.new-rot.ensures) (new-fits (size c.args.chain))

pub invariant_of-result-clause-few : goal.invariant_of-result-clause-few
unfolding events
invariant_of-result-clause-few c = subst (λ (d : Dispatch). length (events d.pending) ≤ 8) (sym c.new.ensures) (omega arith)

pub returns : goal.returns
returns c =
    start-fresh c.args.chain.list c.args.max_retry _
    record {
      list = refl;
      max_retry = refl;
      work = λ j. record { state = PowerOnReset; rot = c.new-rot.ensures j; sink = c.new-sink.ensures j };
      dispatch = c.new.ensures;
    }
