-- `printout::replay` meets its contract: a longer input, or a run, and behind it the line of a refusal.
use Rattle.std.proofs.Common.{rules}
use Rattle.printout.proofs.Behind.{Awaits, longer-input, run-through, not-refused, refused}
use Rattle.printout.proofs.replay.Goals as goal
use Rattle.printout.proofs.replay.Goals.{Joined-input-le65536, then-input-le65536, else-input-le65536}

-- What is answered to the input, whichever it was.
answered : (c : Joined-input-le65536) → Awaits c.args.input.now (record { bytes = record { items = c.if-input-le65536.bytes; len = c.if-input-le65536.answer.written } }) c.if-input-le65536.answer
answered c =
    let s = c.args.input.now in
    elim c.if-input-le65536.branch [
      | then-input-le65536 w ↦ rw (w.bytes-is, w.answer-is) (run-through s _ _ w.run-answer.result _ (search rules) w.run-answer.ensures w.if-input-le65536.true)
      | else-input-le65536 w ↦ rw (w.bytes-is, w.answer-is) (longer-input s _ w.if-input-le65536.false)
    ]

pub returns-then-answer-ne0 : goal.returns-then-answer-ne0
returns-then-answer-ne0 c =
    let j = (goal.at.returns-then-answer-ne0 c).Joined-input-le65536 in
    refused _ _ j.if-input-le65536.answer (answered j) c.if-answer-ne0.true c.refusal_line.new.l _ c.refusal_line.ensures c.lengthen.ensures

pub returns-else-answer-ne0 : goal.returns-else-answer-ne0
returns-else-answer-ne0 c =
    let j = (goal.at.returns-else-answer-ne0 c).Joined-input-le65536 in
    not-refused _ _ j.if-input-le65536.answer (answered j) c.if-answer-ne0.false
