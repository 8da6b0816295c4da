-- `status_at` meets its contract: within the chain and the array the two parts are joined, and elsewhere stands a new status.
use Rattle.std.proofs.Common.{ap, ap₂, ◌∙◌, sym, false, arith}
use Rattle.std.proofs.lemmas.Bool.{ltb-false}
use Rattle.store.specs.Flags.{flags}
use Rattle.store.proofs.Set.{length-flags}
use Rattle.machine.specs.View.{status_of, statuses_of}
use Rattle.store.specs.Stored.{unset}
use Rattle.machine.proofs.Laws.{at-view, past-view}
use Rattle.machine.proofs.status_at.Goals as goal
use Rattle.machine.proofs.status_at.Goals.{in_default-via-in-Some+else-p-n, in_default-via-in_default}

pub returns-in-Some : goal.returns-in-Some
unfolding statuses_of
returns-in-Some c =
    let r = c.args.rot.now in
    let p = c.args.p in
    let found = c.in-Some.ensures.lookup.3 in
    let bits = length-flags r.isolated c.contains.ensures.1 in
    c.joined_with.ensures ∙ ap₂ status_of c.contains.ensures.0 (found.1 unset)
    ∙ sym (at-view c.args.n (flags r.isolated) r.statuses p (omega arith) (omega arith) found.0)

pub returns-in_default : goal.returns-in_default
unfolding statuses_of
returns-in_default c =
    let r = c.args.rot.now in
    c.joined_with-in_default.ensures ∙ ap (status_of false) c.new.ensures ∙ sym (past-view c.args.n (flags r.isolated) r.statuses c.args.p (
    elim c.in_default.branch [
      | in_default-via-in-Some+else-p-n w ↦ omega arith
      | in_default-via-in_default w ↦ omega (arith, ltb-false _ _ (sym w.in_default.ensures.lookup.0))
    ]
    ))
