-- `read` meets its contract: by the next line.
use Rattle.driver.proofs.Moves.{plan-is, reads-next}
use Rattle.driver.proofs.read.Goals as goal

pub returns : goal.returns
returns c = λ limit n.
    let next = c.next_line-next in
    plan-is (reads-next c.requires.0 next.result next.ensures) c.read_row.ensures
