-- `text::push_decimal` meets its contract: the digits of a tenth, if there are any, and one more.
use Rattle.std.proofs.Common.{rules, arith, List, ℕ, ◌<◌, ◌^◌, subst}
use Rattle.text.specs.Lines.{Pushed}
use Rattle.text.proofs.Laws.{chained}
use Rattle.text.proofs.Decimal.{one-digit, more-digits}
use Rattle.text.proofs.+push_decimal.Goals as goal
use Rattle.text.proofs.+push_decimal.Goals.{then-n-ge10, else-n-ge10}

pub returns : goal.returns
returns t c =
    let n = c.args.n in
    let l = c.args.l.now in
    let fits : n < 2 ^ 64 = search rules in
    elim c.if-n-ge10.branch [
      | then-n-ge10 w ↦
          subst (λ (s : List ℕ). Pushed l s c.push.new.l) (more-digits n (omega arith) fits)
          (chained w.push_decimal.ensures (rw w.l-is at c.push.ensures))
      | else-n-ge10 w ↦ subst (λ (s : List ℕ). Pushed l s c.push.new.l) (one-digit n (omega arith)) (rw w.l-is at c.push.ensures)
    ]
