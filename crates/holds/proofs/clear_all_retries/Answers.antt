-- `clear_all_retries` meets its contract: clearing what is stored of the chain's components clears what is seen of them.
use Rattle.std.proofs.Common.{refl, ap, ◌≡◌, ◌∙◌, List, ◌++◌, length, take, drop, length-take, length-drop, length-append, arith}
use Rattle.std.proofs.Math.Seq.{take_at}
use Rattle.std.proofs.lemmas.List.{length-map}
use Rattle.store.specs.Retry.{no_retry}
use Rattle.store.specs.Flags.{flags}
use Rattle.components.specs.Chain.{entries_of}
use Rattle.machine.specs.declared.ComponentStatus.{ComponentStatus}
use Rattle.machine.specs.View.{statuses_of, statuses_are, core_of}
use Rattle.holds.proofs.Laws.{clear-view}
use Rattle.machine.proofs.Runs.{ran-rot}
use Rattle.holds.proofs.clear_all_retries.Goals as goal

pub returns : goal.returns
unfolding statuses_of
returns g c =
    let w = c.args.w.now in
    let n = length (entries_of (g.L.HasList.list_of c.args.chain.now)) in
    let k = c.size-n.ensures.0 in
    let done = c.clear_retries.new.statuses in
    let rest = drop c.size-n.result w.rot.statuses in
    let e = rw k at c.clear_retries.ensures in
    let full = c.requires.statuses in
    let low = rw k at c.size-n.ensures.1 in
    let l : length done ≡ n = rw (e, length-map (take n w.rot.statuses) no_retry, length-take n w.rot.statuses) (omega arith) in
    ran-rot refl
    (ap (λ (st : List ComponentStatus). statuses_are st (core_of n w)) (clear-view n (flags w.rot.isolated) w.rot.statuses (done ++ rest) (take_at done rest n l ∙ e)))
    (λ fit. record { clean = fit.clean; low = fit.low })
    (λ sized. record { statuses = omega (arith, length-append done rest, length-drop c.size-n.result w.rot.statuses); words = sized.words })
