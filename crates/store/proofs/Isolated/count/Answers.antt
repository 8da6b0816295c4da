-- The ones of the words are the flags that are true, of which there are 256 at most.
use Rattle.std.proofs.Common.{◌≡◌, ℕ, ◌^◌, ◌<◌, ◌≤◌, length, get_or, sym, ◌∙◌, rules, tests, arith, Fits, w64}
use Rattle.std.specs.List.{sum_by}
use Rattle.std.proofs.lemmas.Iterator.{YieldsList-from_slice, YieldsList-from_map}
use Rattle.std.proofs.lemmas.Iterator.Consumers.{sum_by_from_yields_List, fits_by_from_yields_list}
use lib.Count.{ones}
use Rattle.store.specs.Flags.{flags, trues}
use Rattle.store.proofs.Words.{trues-words}
use Rattle.store.proofs.Set.{length-flags, trues-le}
use Rattle.store.proofs.Isolated.count.Goals as goal
use Rattle.store.proofs.Isolated.count.Goals.{After-map}

module _ (c : After-map) where
  four : length c.args.self.words ≡ 4
  four = search rules

  fits : (i : ℕ) → get_or c.args.self.words i 0 < 2 ^ 64
  fits i = let f : Fits w64 (get_or c.args.self.words i 0) = search rules in f.fits

  counted : sum_by ones c.args.self.words ≡ trues (flags c.args.self)
  unfolding flags
  counted = sym (trues-words 64 c.args.self.words fits)

  few : sum_by ones c.args.self.words ≤ 256
  few = omega (arith, counted, trues-le (flags c.args.self), length-flags c.args.self four)

pub sum-requires-clause-fits : goal.sum-requires-clause-fits
sum-requires-clause-fits c =
    let ws = c.args.self.words in
    fits_by_from_yields_list ones ws c.map.result _
    (YieldsList-from_map _ ones (YieldsList-from_slice ws cc) c.map.ensures.closure (λ x r q k. search (rules, tests)))
    (omega (arith, few c))

pub returns : goal.returns
returns c =
    let ws = c.args.self.words in
    let at_map = (goal.at.returns c).After-map in
    let e = sum_by_from_yields_List ones ws c.map.result _ c.sum.ensures.ran
    (YieldsList-from_map _ ones (YieldsList-from_slice ws cc) c.map.ensures.closure (λ x r q k. search (rules, tests))) in
    (e ∙ counted at_map, omega (arith, e, few at_map))
