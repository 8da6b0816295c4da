-- `place` meets its contract: what `position` finds is the place, and else the length is.
use Rattle.std.proofs.Common.{rules, tests, eqb, ap, ◌∙◌, Option, ℕ, length, unwrap_or}
use Rattle.std.proofs.lemmas.Iterator.{YieldsList-from_slice}
use Rattle.std.proofs.lemmas.Iterator.Search.{position_from_yields_List}
use Rattle.fields.proofs.Scan.{place-position}
use Rattle.fields.proofs.place.Goals as goal

pub returns : goal.returns
returns c =
    let l = c.args.l.now in
    let b = c.args.b in
    let found = position_from_yields_List (λ x. eqb x b) _ _ c.position.result c.position.ensures.ran (YieldsList-from_slice l cc) (λ x b q k. search (rules, tests)) in
    c.unwrap_or.ensures ∙ ap (λ (o : Option ℕ). unwrap_or o (length l)) found ∙ place-position b l
