-- `walk_on` meets its contract: after the advance the cursor says whether one is left.
use Rattle.std.proofs.Common.{ap, arith}
use Rattle.components.specs.Tables.{entries, size}
use Rattle.machine.specs.View.{Core, core_of, statuses_of}
use Rattle.machine.proofs.Laws.{length-statuses}
use Rattle.machine.proofs.Runs.{ran-as, ran_then}
use Rattle.holds.proofs.Laws.{seek-le}
use Rattle.rules.specs.Entry.{enter_ready}
use Rattle.rot.proofs.Parts.{onward-on, onward-none}
use Rattle.rot.proofs.walk_on.Goals as goal

pub returns-then-chain-w : goal.returns-then-chain-w
returns-then-chain-w c =
    let a = c.args in
    let m = a.chain.now in
    let n = size m in
    let d = c.advance_to_next_ungated.ensures in
    let e = ap (λ (k : Core). k.cursor) d.core in
    let all = length-statuses n a.w.now.rot m.few c.requires.1 in
    let end = seek-le (statuses_of n a.w.now.rot) a.p (omega (arith, all)) in
    ran-as (onward-none (entries m) a.p (core_of n a.w.now) (omega (arith, e, all, end, m.counted))) (ran_then enter_ready d c.enter_ready.ensures)

pub returns-else-chain-w : goal.returns-else-chain-w
returns-else-chain-w c =
    let a = c.args in
    let m = a.chain.now in
    let d = c.advance_to_next_ungated.ensures in
    let e = ap (λ (k : Core). k.cursor) d.core in
    ran-as (onward-on (entries m) a.p (core_of (size m) a.w.now) (omega (arith, e, m.counted))) d
