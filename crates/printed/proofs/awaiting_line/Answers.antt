-- `printed::awaiting_line` meets its contract: an id or none leaves room for the end.
use Rattle.std.proofs.Common.{arith, length-append, append_assoc}
use Rattle.text.proofs.Laws.{grown, exactly}
use Rattle.printed.proofs.Short.{option-short}
use Rattle.printed.proofs.awaiting_line.Goals as goal

pub returns : goal.returns
returns c =
    exactly _ (grown (grown c.start.ensures c.push_option.ensures) c.push.ensures) (simp append_assoc)
    (simp length-append (omega (arith, option-short c.args.id)))
