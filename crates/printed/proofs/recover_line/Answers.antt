-- `printed::recover_line` meets its contract: two numbers leave room for the end.
use Rattle.std.proofs.Common.{arith, length-append, append_assoc}
use Rattle.text.proofs.Decimal.{decimal-short}
use Rattle.text.proofs.Laws.{grown, exactly}
use Rattle.printed.proofs.Wider.{widened}
use Rattle.printed.proofs.recover_line.Goals as goal

pub returns : goal.returns
returns c =
    let a = c.args in
    exactly _ (grown (grown (grown c.start.ensures (widened a.id.0 c.push_number.ensures c.from.ensures)) (widened a.attempt c.push_number-2.ensures c.from-2.ensures)) c.push.ensures) (simp append_assoc)
    (simp length-append (omega (arith, decimal-short a.id.0, decimal-short a.attempt)))
