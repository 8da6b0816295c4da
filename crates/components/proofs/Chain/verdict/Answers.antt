-- `Chain::verdict` meets its contract: question 4 is put to every entry, and where it refuses none, 5 and 6 are.
use Rattle.std.proofs.Common.{rules, tests, arith, ◌≡◌, sym, ◌∙◌}
use Rattle.std.proofs.lemmas.Iterator.{YieldsList-from_slice}
use Rattle.std.proofs.lemmas.Iterator.Consumers.{YieldsList-from_enumerate}
use Rattle.components.specs.Chain.{entries_of, new_ids, links, first}
use Rattle.components.proofs.Asked.{asked, stopped}
use Rattle.components.proofs.Judged.{few_enough}
use Rattle.components.proofs.Chain.verdict.Goals as goal
use Rattle.components.proofs.Chain.verdict.Goals.{After-try_for_each}

-- What question 4 finds.
new : (c : After-try_for_each) → c.try_for_each.result ≡ first (entries_of c.args.self.now.list) (new_ids (entries_of c.args.self.now.list))
new c =
    let ch = entries_of c.args.self.now.list in
    asked (new_ids ch) ch _ _ _ _ c.try_for_each.ensures.ran (YieldsList-from_enumerate (YieldsList-from_slice ch cc) (cc)) (λ x w q k. search (rules, tests))

pub returns-in_err-try_for_each : goal.returns-in_err-try_for_each
returns-in_err-try_for_each c =
    let s = c.args.self.now.list in
    let ch = entries_of s in
    let found = sym (new (goal.at.returns-in_err-try_for_each c).After-try_for_each) ∙ c.in_err-try_for_each.was in
    stopped _ (first ch (links ch)) _ _ found c.from_residual.ensures ∙ few_enough s.len ch (λ e. omega arith) (omega arith)

pub returns : goal.returns
returns c =
    let s = c.args.self.now.list in
    let ch = entries_of s in
    let found = sym (new (goal.at.returns c).After-try_for_each) ∙ c.in_ok-try_for_each.was in
    let linked = asked (links ch) ch _ _ _ _ c.try_for_each-2.ensures.ran (YieldsList-from_enumerate (YieldsList-from_slice ch cc) (cc)) (λ x w q k. search (rules, tests)) in
    (rw found linked) ∙ few_enough s.len ch (λ e. omega arith) (omega arith)
