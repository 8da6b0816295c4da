-- `digits` meets its contract. What is too large for a word is larger than `most` too.
use Rattle.std.proofs.Common.{arith, ◌≡◌, sym, ap, ◌∙◌, [], drop, drop_of_length-le}
use Rattle.fields.specs.Fields.{digits_from}
use Rattle.fields.proofs.Numbers.{digits-other, digits-next, too_large}
use Rattle.fields.proofs.digits.Goals as goal

pub returns-then-not-is_ascii_digit : goal.returns-then-not-is_ascii_digit
returns-then-not-is_ascii_digit c =
    let l = c.loop-b in
    let f = c.args.f.now in
    sym (l.invariant.1 ∙ digits-other f l.b-index _ l.n (omega arith) c.if-not-is_ascii_digit.ensures.cases)

pub returns-in_err-checked_mul : goal.returns-in_err-checked_mul
returns-in_err-checked_mul c =
    c.from_residual.ensures
    ∙ too_large c.args.f.now c.loop-b.b-index _ c.loop-b.n (omega arith) c.loop-b.invariant.1 c.if-not-is_ascii_digit.ensures.cases (omega (arith, c.in_err-checked_mul.ensures))

pub returns-in_err-n : goal.returns-in_err-n
returns-in_err-n c =
    c.from_residual-in_err-n.ensures
    ∙ too_large c.args.f.now c.loop-b.b-index _ c.loop-b.n (omega arith) c.loop-b.invariant.1 c.if-not-is_ascii_digit.ensures.cases (omega (arith, c.in_ok-checked_mul.ensures, c.in_err-n.ensures))

pub returns-then-most-n : goal.returns-then-most-n
returns-then-most-n c =
    too_large c.args.f.now c.loop-b.b-index _ c.loop-b.n (omega arith) c.loop-b.invariant.1 c.if-not-is_ascii_digit.ensures.cases (omega (arith, c.in_ok-checked_mul.ensures, c.in_ok-n.ensures))

pub loop-b-preserved : goal.loop-b-preserved
loop-b-preserved c =
    let l = c.loop-b in
    let f = c.args.f.now in
    (omega arith, l.invariant.1 ∙ digits-next f l.b-index _ l.n (omega arith) c.if-not-is_ascii_digit.ensures.cases _ (omega (arith, c.in_ok-checked_mul.ensures, c.in_ok-n.ensures)) (omega arith))

pub returns : goal.returns
unfolding digits_from
returns c =
    let l = c.loop-b in
    let f = c.args.f.now in
    let done : drop l.b-index f ≡ [] = drop_of_length-le f (omega arith) in
    sym (l.invariant.1 ∙ ap (digits_from c.args.most l.n) done)
