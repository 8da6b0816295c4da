-- `printout::refusal_line` meets its contract: a letter, three numbers and the end.
use Rattle.std.proofs.Common.{append_assoc}
use Rattle.text.proofs.Laws.{begun, grown, rejoined}
use Rattle.printout.specs.Program.{refusal_line}
use Rattle.printout.proofs.refusal_line.Goals as goal

pub returns : goal.returns
unfolding refusal_line
returns c =
    let lettered = begun _ c.clear.ensures c.push.ensures in
    let numbered = grown lettered c.push_number.ensures in
    let placed = grown (grown numbered c.push_number-2.ensures) c.push_number-3.ensures in
    rejoined _ (grown placed c.push-2.ensures) (simp append_assoc)
