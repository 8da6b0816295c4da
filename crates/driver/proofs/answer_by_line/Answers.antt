-- `answer_by_line` meets its contract: by the next line, by another one than an R line, or by the end of the sheet.
use native.Mathlib.Omega.{arith}
use Rattle.driver.proofs.Moves.{plan-is, answers-end, answers_next}
use Rattle.driver.proofs.Unanswered.{answers-other}
use Rattle.driver.proofs.answer_by_line.Goals as goal

pub returns-then-sheet-c : goal.returns-then-sheet-c
returns-then-sheet-c c = λ limit n g. answers-end c.requires c.if-sheet-c.true

pub returns-then-sheet-c-ne82 : goal.returns-then-sheet-c-ne82
returns-then-sheet-c-ne82 c = λ limit n g. answers-other c.requires (omega arith) c.if-sheet-c-ne82.true

pub returns : goal.returns
returns c = λ limit n g.
    let next = c.next_line-next in
    plan-is (answers_next c.requires next.result next.ensures) c.answer_row.ensures
