-- `enter_walk` meets its contract: quiesce, advance, then the state.
use Rattle.std.proofs.Common.{refl}
use Rattle.model.specs.declared.State.TheVariants.{PreSupervision}
use Rattle.components.specs.Tables.{entries}
use Rattle.holds.specs.Acts.{advancing}
use Rattle.machine.proofs.Runs.{ran_then, ran-state}
use Rattle.rot.proofs.enter_walk.Goals as goal

pub returns : goal.returns
returns c =
    ran-state PreSupervision (ran_then (advancing (entries c.args.chain.now) 0) c.quiesce_all.ensures c.advance_to_next_ungated.ensures) refl
