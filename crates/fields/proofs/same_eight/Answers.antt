-- `same_eight` meets its contract: each text's eight bytes are those that the word was made of.
use mathlib.Core.Path.{sym, ap, ◌∙◌}
use mathlib.Core.List.{List}
use Prim.Native.Nat.{ℕ}
use lib.ListN.{take}
use Rattle.std.proofs.lemmas.List.{take_rest}
use Rattle.fields.proofs.same_eight.Goals as goal

pub returns-in-Some-Some : goal.returns-in-Some-Some
returns-in-Some-Some c =
    let x = c.in-Some-Some.ensures ∙ ap (λ (l : List ℕ). take 8 l) (take_rest c.args.a.now c.args.at) in
    let y = c.in-Some-Some.ensures' ∙ ap (λ (l : List ℕ). take 8 l) (take_rest c.args.b.now c.args.at) in
    let same = c.same_word.ensures in (λ e. sym x ∙ same.0 e ∙ y, λ e. same.1 (x ∙ e ∙ sym y))
