-- `judge` meets its contract: question 1, or else the verdict on the list.
use Rattle.std.proofs.Common.{ap, subst, ◌∙◌}
use Rattle.std.proofs.lemmas.Result.{err_from_is_err_and}
use Rattle.components.specs.declared.ComponentList.{ComponentList}
use Rattle.components.specs.Chain.{entries_of, verdict_of}
use Rattle.reader.specs.declared.Sheet.{Sheet}
use Rattle.reader.specs.Read.{Whole}
use Rattle.sheet.proofs.Outcomes.{bad-told, refused-told, accepted-told}
use Rattle.sheet.proofs.judge.Goals as goal

pub returns-in_err-read_sheet : goal.returns-in_err-read_sheet
returns-in_err-read_sheet c =
    let p = err_from_is_err_and c.from_residual.result c.from_residual.ensures.1 in
    rw (p.1, p.2) (bad-told c.args.sheet.now c.in_err-read_sheet.field-0.0 c.in_err-read_sheet.ensures)

pub returns-in_err-verdict : goal.returns-in_err-verdict
returns-in_err-verdict c =
    let whole = subst (λ (x : Sheet). Whole c.args.sheet.now x c.read_sheet.new.read) c.new-read.ensures c.in_ok-read_sheet.ensures in
    let p = err_from_is_err_and c.from_residual-in_err-verdict.result c.from_residual-in_err-verdict.ensures.1 in
    let verdict = c.in_err-verdict.ensures ∙ ap (λ (l : ComponentList). verdict_of l.len (entries_of l)) c.of.ensures in
    rw (p.1, p.2) (refused-told c.args.sheet.now c.read_sheet.new.read whole c.in_err-verdict.field-0.0 verdict)

pub returns : goal.returns
returns c =
    let whole = subst (λ (x : Sheet). Whole c.args.sheet.now x c.read_sheet.new.read) c.new-read.ensures c.in_ok-read_sheet.ensures in
    let verdict = c.in_ok-verdict.ensures ∙ ap (λ (l : ComponentList). verdict_of l.len (entries_of l)) c.of.ensures in
    accepted-told c.args.sheet.now c.read_sheet.new.read whole verdict
