-- `number` meets its contract: the first byte decides which rule the text goes by.
use Rattle.std.proofs.Common.{arith, sym, ◌∙◌}
use Rattle.std.proofs.lemmas.Bool.Decides.{nat_tests}
use Rattle.fields.proofs.Numbers.{number-none, number-led, number_digits}
use Rattle.fields.proofs.number.Goals as goal
use Rattle.fields.proofs.number.Goals.{in_default-via-then-f-lt2, in_default-via-else-f-lt2+in_default-1}

pub returns-in-empty : goal.returns-in-empty
returns-in-empty c = sym (number-none _ _ (omega arith))

pub returns-in-empty-2 : goal.returns-in-empty-2
returns-in-empty-2 c = sym (number-led _ _ (omega arith) (omega arith))

pub returns-in_default : goal.returns-in_default
returns-in_default c =
    let a = c.args in
    c.digits.ensures ∙ sym (number_digits _ _ (elim c.in_default.branch [ in_default-via-then-f-lt2 w ↦ grind (arith, nat_tests) | in_default-via-else-f-lt2+in_default-1 w ↦ grind (arith, nat_tests) ]) (λ p q. elim c.in_default.branch [ in_default-via-then-f-lt2 w ↦ grind (arith, nat_tests) | in_default-via-else-f-lt2+in_default-1 w ↦ grind (arith, nat_tests) ]))
