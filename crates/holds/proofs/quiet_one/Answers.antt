-- `quiet_one` meets its contract: the flags and one effect.
use Rattle.std.proofs.Common.{length, refl}
use Rattle.model.specs.declared.Effect.TheVariants.{AssertReset}
use Rattle.components.specs.Chain.{entries_of}
use Rattle.machine.specs.Status.{quiet}
use Rattle.machine.specs.View.{core_of}
use Rattle.machine.proofs.Runs.{ran-as, ran-emit}
use Rattle.store.specs.Stored.{off}
use Rattle.machine.proofs.Stored.{ran-change}
use Rattle.holds.proofs.Steps.{stop-says}
use Rattle.holds.proofs.quiet_one.Goals as goal

pub returns : goal.returns
returns g c =
    let a = c.args in
    let ch = entries_of (g.L.HasList.list_of a.chain.now) in
    let w = a.w.now in
    let n = length ch in
    ran-as (stop-says ch a.p (core_of n w) c.id_at.result c.id_at.ensures)
    (ran-emit (AssertReset c.id_at.result) (ran-change n w a.p c.requires.2 c.requires.1 c.requires.0 quiet off (λ b s. refl) c.off.ensures) c.emit.ensures)
