-- `printed::push_flag` meets its contract: the flag as a number is 0 or 1.
use Rattle.std.proofs.Common.{◌≡◌, ◌∷◌, ap, subst, List, ℕ, Bool, true, false}
use mir.Val.{bool_byte}
use Rattle.text.specs.Text.{decimal, digits}
use Rattle.text.specs.Lines.{Pushed}
use Rattle.printed.specs.Transcript.{flag_text}
use Rattle.printed.proofs.push_flag.Goals as goal

flag-decimal : (on : Bool) (n : ℕ) → n ≡ bool_byte on → decimal n ≡ flag_text on
unfolding digits flag_text
flag-decimal true n e = ap decimal e
flag-decimal false n e = ap decimal e

pub returns : goal.returns
returns c = subst (λ (s : List ℕ). Pushed c.args.l.now (9 ∷ s) c.push_number.new.l) (flag-decimal c.args.on c.from.result c.from.ensures) c.push_number.ensures
