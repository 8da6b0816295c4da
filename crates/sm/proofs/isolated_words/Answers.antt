-- `isolated_words` meets its contract: the words' digits are the statuses' isolation, where the parts fit.
use mathlib.Core.Path.{◌≡◌, ◌∙◌, ap, subst}
use lib.ListN.{length}
use Rattle.machine.specs.declared.Rot.{Rot}
use Rattle.store.specs.Flags.{flags}
use Rattle.sm.proofs.Words.{given, words-say}
use Rattle.sm.proofs.isolated_words.Goals as goal

pub returns : goal.returns
returns g c =
    let p = g.M.HasParts.parts c.args.m in
    let r = c.rot_of.ensures in
    let full = subst (λ (x : Rot). length x.statuses ≡ 255) r.0 r.1 in
    let e = c.isolated_words.ensures in
    (e.0 ∙ ap (λ (x : Rot). x.isolated.words) r.0, given g.M.HasParts.known (g.met.M.HasParts.fit c.args.m) (λ f. e.1 ∙ ap (λ (x : Rot). flags x.isolated) r.0 ∙ words-say p full f))
