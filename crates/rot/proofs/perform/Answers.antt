-- `perform` meets its contract: its parts one after another are what the definition says of a decision.
use Rattle.std.proofs.Common.{ap, append_assoc}
use Rattle.components.specs.Tables.{entries, size}
use Rattle.machine.specs.View.{Core, out, core_of}
use Rattle.machine.proofs.Runs.{ran-as, ran-still, ran_then}
use Rattle.holds.specs.Acts.{gating_all}
use Rattle.rules.specs.Performed.{spoken, keeping, gated, nexts, performed}
use Rattle.rot.proofs.Parts.{ran-says}
use Rattle.rot.proofs.perform.Goals as goal

pub returns : goal.returns
unfolding performed
returns c =
    let a = c.args in
    let m = a.chain.now in
    let n = size m in
    let ch = entries m in
    let es = spoken a.id a.event a.d in
    let ps = gated a.d.hold ch a.place in
    let kept = keeping a.place a.d.kept (core_of n a.w.now) in
    let told = ran-still (λ (x : Core). out x es) (c.keep.ensures n m.few c.requires.1) (ran-says es c.say.ensures) in
    let held = ran_then (gating_all ch ps) told c.hold.ensures in
    let last = nexts a.d.next ch a.place (gating_all ch ps kept).core in
    ran-as (ap (out last.core) (append_assoc es (gating_all ch ps kept).said last.said)) (ran_then (nexts a.d.next ch a.place) held c.go.ensures)
