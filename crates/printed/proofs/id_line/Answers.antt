-- `printed::id_line` meets its contract: a name of at most 20 bytes and a number leave room for the end.
use Rattle.std.proofs.Common.{ap, ◌∙◌, ℕ, arith, length-append}
use Rattle.text.proofs.Laws.{whole}
use Rattle.text.proofs.Decimal.{decimal-short}
use Rattle.text.specs.Text.{bytes, ◌⇥◌, line, decimal}
use Rattle.printed.proofs.id_line.Goals as goal

pub returns : goal.returns
returns c =
    whole c.number_line.ensures (simp length-append (omega (arith, decimal-short c.from.result)))
    ∙ ap (λ (n : ℕ). line (bytes "X" ⇥ c.args.name.now ⇥ decimal n)) c.from.ensures
