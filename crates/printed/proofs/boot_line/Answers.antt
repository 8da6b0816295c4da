-- `printed::boot_line` meets its contract: an id has at most 3 digits, which leaves room for any number and any cause.
use Rattle.std.proofs.Common.{rules, arith, ◌<◌, ◌^◌, length-append, append_assoc}
use Rattle.text.proofs.Decimal.{decimal-short, decimal-below}
use Rattle.text.proofs.Laws.{grown, exactly}
use Rattle.printed.proofs.Wider.{widened}
use Rattle.printed.proofs.Short.{cause-short}
use Rattle.printed.proofs.boot_line.Goals as goal

pub returns : goal.returns
returns c =
    let a = c.args in
    let small : a.id.0 < 10 ^ 3 = search rules in
    exactly _ (grown (grown (grown (grown c.start.ensures (widened a.id.0 c.push_number.ensures c.from.ensures)) (widened a.checkpoint c.push_number-2.ensures c.from-2.ensures)) c.push_cause.ensures) c.push.ensures) (simp append_assoc)
    (simp length-append (omega (arith, decimal-below 2 a.id.0 small, decimal-short a.checkpoint, cause-short a.kind)))
