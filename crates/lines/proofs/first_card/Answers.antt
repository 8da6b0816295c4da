-- `first_card` meets its contract: each field and the byte that ends it, and then the rest, is the line and then the rest.
use mathlib.Core.Path.{◌≡◌, sym, ap, ◌∙◌}
use mathlib.Core.List.{List, ◌∷◌, ◌++◌, append_assoc}
use Prim.Native.Nat.{ℕ, ◌≤◌}
use Rattle.std.proofs.Common.{rules}
use Rattle.text.specs.Text.{bytes, ◌⇥◌}
use Rattle.lines.specs.Grammar.{card_line}
use Rattle.lines.proofs.first_card.Goals as goal

-- A field before fields that the rest follows.
then : (a x y : List ℕ) {t l : List ℕ} → l ≡ a ⇥ t → t ≡ x ++ y → l ≡ (a ⇥ x) ++ y
then a x y e f = e ∙ ap (λ (s : List ℕ). a ⇥ s) f ∙ sym (append_assoc a (9 ∷ x) y)

pub returns : goal.returns
unfolding card_line
returns c =
    let few : c.in_ok-id.id ≤ 255 = search rules in
    let region_few : c.in_ok-region.region ≤ 255 = search rules in
    let region = then _ _ _ c.in_ok-region.ensures c.in_ok-depends_on.ensures.0 in
    let policy = then _ _ _ c.in_ok-failure_policy.ensures region in
    let kind = then _ _ _ c.in_ok-kind.ensures policy in
    let id = then _ _ _ c.in_ok-id.ensures kind in
    (ap (λ (s : List ℕ). bytes "C" ⇥ s) id, (few, region_few, c.in_ok-depends_on.ensures.1))
