-- `printed::state_line` meets its contract: a number leaves room for the end.
use Rattle.std.proofs.Common.{ap, ◌∙◌, arith, ℕ, length-append}
use Rattle.text.proofs.Laws.{whole}
use Rattle.text.proofs.Decimal.{decimal-short}
use Rattle.text.specs.Text.{bytes, ◌⇥◌, line, decimal}
use Rattle.printed.specs.Transcript.{state_line, state_text}
use Rattle.printed.proofs.state_line.Goals as goal

pub returns-in-Recovering : goal.returns-in-Recovering
unfolding state_line state_text
returns-in-Recovering c =
    rw c.in-Recovering.is
    (whole c.number_line.ensures (simp length-append (omega (arith, decimal-short c.from.result)))
    ∙ ap (λ (n : ℕ). line (bytes "S" ⇥ bytes "Recovering" ⇥ decimal n)) c.from.ensures)
