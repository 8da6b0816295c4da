-- `printed::status_line` meets its contract: all five fields leave room for the end.
use Rattle.std.proofs.Common.{arith, length-append, append_assoc}
use Rattle.text.proofs.Decimal.{decimal-short}
use Rattle.printed.specs.Transcript.{status_line, status_text}
use Rattle.text.proofs.Laws.{chained, begun, grown, exactly}
use Rattle.printed.proofs.Short.{lifecycle-short, flag-short}
use Rattle.printed.proofs.Wider.{widened}
use Rattle.printed.proofs.status_line.Goals as goal

pub returns : goal.returns
unfolding status_line status_text
returns c =
    let a = c.args in
    let s = a.status in
    let named = begun _ c.clear.ensures (chained c.push.ensures (widened a.id.0 c.push_number.ensures c.from.ensures)) in
    let counted = grown (grown named c.push_lifecycle.ensures) (widened s.retry c.push_number-2.ensures c.from-2.ensures) in
    exactly _ (grown (grown (grown counted c.push_flag.ensures) c.push_flag-2.ensures) c.push-2.ensures) (simp append_assoc)
    (simp length-append (omega (arith, decimal-short a.id.0, decimal-short s.retry, lifecycle-short s.lifecycle, flag-short s.awaiting_boot, flag-short s.released)))
