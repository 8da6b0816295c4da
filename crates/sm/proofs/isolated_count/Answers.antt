-- `isolated_count` meets its contract: no position past the chain is counted, where the parts fit.
use mathlib.Core.Path.{◌≡◌, ◌∙◌, ap, subst}
use lib.ListN.{length}
use Rattle.machine.specs.declared.Rot.{Rot}
use Rattle.store.specs.Flags.{flags, trues}
use Rattle.sm.proofs.Words.{given, count-says}
use Rattle.sm.proofs.isolated_count.Goals as goal

pub returns : goal.returns
returns g c =
    let p = g.M.HasParts.parts c.args.m in
    let r = c.rot_of.ensures in
    let full = subst (λ (x : Rot). length x.statuses ≡ 255) r.0 r.1 in
    let e = c.count.ensures.0 ∙ ap (λ (x : Rot). trues (flags x.isolated)) r.0 in
    (e, given g.M.HasParts.known (g.met.M.HasParts.fit c.args.m) (λ f. e ∙ count-says p full f))
