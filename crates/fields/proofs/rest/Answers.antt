-- `rest` meets its contract: the part from one past the first tab on, which is empty where there is no tab.
use Rattle.std.proofs.Common.{arith, ap, ◌≡◌, refl, ◌∙◌, ℕ, ◌+◌, drop, sym, length, ◌<◌, ◌≤◌, List, [], drop_of_length-le, Option, Some, None, MatchOption, unwrap_or, Bor, ◌⊎◌}
use Rattle.std.specs.List.{slice_range}
use Rattle.std.proofs.lemmas.Slice.{between_to_end}
use Rattle.fields.specs.Fields.{after}
use Rattle.fields.proofs.Scan.{place-le}
use Rattle.fields.proofs.rest.Goals as goal

given-or : (l : List ℕ) (n : ℕ) (o : Option (Bor (List ℕ))) (d : Bor (List ℕ)) → d.now ≡ []
    → MatchOption o ((length l < n) ⊎ (length l < length l)) (λ x. (n ≤ length l) × (length l ≤ length l) × (x.now ≡ slice_range l n (length l)) × (length x.now + n ≡ length l))
    → (unwrap_or o d).now ≡ drop n l
given-or l n (Some x) d e h = h.2 ∙ between_to_end l n (length l) (omega arith)
given-or l n None d e h = e ∙ sym (drop_of_length-le l (omega arith))

pub overflow_add-place : goal.overflow_add-place
overflow_add-place c = omega (arith, place-le 9 c.args.l.now)

pub returns : goal.returns
unfolding after
returns c =
    ap (λ (x : Bor (List ℕ)). x.now) c.unwrap_or.ensures
    ∙ given-or c.args.l.now _ c.get.result _ refl c.get.ensures.lookup.0
    ∙ ap (λ (n : ℕ). drop (n + 1) c.args.l.now) c.place.ensures
