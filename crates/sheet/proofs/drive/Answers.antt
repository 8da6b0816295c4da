-- `drive` meets its contract: questions 1 to 6 refuse the sheet, or its run is driven to the end.
use Rattle.std.proofs.Common.{length, ap, subst, ◌∙◌}
use Rattle.std.proofs.lemmas.Result.{err_from_is_err_and}
use Rattle.components.specs.declared.ComponentList.{ComponentList}
use Rattle.components.specs.Chain.{entries_of, verdict_of}
use Rattle.reader.specs.declared.Sheet.{Sheet}
use Rattle.reader.specs.Read.{Whole}
use Rattle.sm.specs.Gives.{Fresh}
use Rattle.driver.specs.Seen.{run_on}
use Rattle.sheet.proofs.Outcomes.{bad-told, bad-number, refused-told, refused-number, accepted-number, progress-here, refused-run, ended-run}
use Rattle.sheet.proofs.drive.Goals as goal

pub returns-in_err-read_sheet : goal.returns-in_err-read_sheet
returns-in_err-read_sheet c =
    let s = c.args.sheet.now in
    let b = c.in_err-read_sheet.field-0.0 in
    let bad = c.in_err-read_sheet.ensures in
    let p = err_from_is_err_and c.from_residual.result c.from_residual.ensures.1 in
    rw (p.1, p.2) (refused-run s c.args.out.now c.args.limit (bad-number s b bad) _ (bad-told s b bad))

pub returns-in_err-verdict : goal.returns-in_err-verdict
returns-in_err-verdict c =
    let s = c.args.sheet.now in
    let read = c.read_sheet.new.read in
    let whole = subst (λ (x : Sheet). Whole s x read) c.new-read.ensures c.in_ok-read_sheet.ensures in
    let e = c.in_err-verdict.field-0.0 in
    let verdict = c.in_err-verdict.ensures ∙ ap (λ (l : ComponentList). verdict_of l.len (entries_of l)) c.of-chain.ensures in
    let p = err_from_is_err_and c.from_residual-in_err-verdict.result c.from_residual-in_err-verdict.ensures.1 in
    rw (p.1, p.2) (refused-run s c.args.out.now c.args.limit (refused-number s read whole e verdict) _ (refused-told s read whole e verdict))

pub returns : goal.returns
returns c =
    let s = c.args.sheet.now in
    let out = c.args.out.now in
    let read = c.read_sheet.new.read in
    let whole = subst (λ (x : Sheet). Whole s x read) c.new-read.ensures c.in_ok-read_sheet.ensures in
    let verdict = c.in_ok-verdict.ensures ∙ ap (λ (l : ComponentList). verdict_of l.len (entries_of l)) c.of-chain.ensures in
    let machine = c.started-machine.result in
    let made = subst (λ (l : ComponentList). Fresh l read.max_retry machine) c.of-chain.ensures c.started-machine.ensures in
    ended-run s out c.args.limit (accepted-number s read whole verdict) (run_on s (length out) c.args.limit machine)
    (progress-here s read whole (length out) c.args.limit machine made) c.drive.result _ c.drive.ensures
