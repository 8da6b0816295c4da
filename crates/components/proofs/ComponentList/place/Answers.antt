-- `ComponentList::place` meets its contract: the search for the first entry with the id counts as the definition does.
use Rattle.std.proofs.Common.{rules, tests, ◌≡◌, ◌∙◌}
use Rattle.std.proofs.lemmas.Iterator.{YieldsList-from_slice}
use Rattle.std.proofs.lemmas.Iterator.Search.{position_from_yields_List}
use Rattle.components.specs.Chain.{entries_of, same_id}
use Rattle.components.proofs.Lookup.{place-found}
use Rattle.components.proofs.ComponentList.place.Goals as goal

pub returns : goal.returns
returns c =
    let s = c.args.self.now in
    let id = c.args.id in
    let kept : c.iter.result.rest.now ≡ entries_of s = c.iter.ensures.rest ∙ c.kept.ensures.0 in
    let told = position_from_yields_List (λ x. same_id x.id id) _ _ c.position.result c.position.ensures.ran (YieldsList-from_slice (entries_of s) kept) (λ x b q k. search (rules, tests)) in
    told ∙ place-found (entries_of s) id
