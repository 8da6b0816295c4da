-- `decided` meets its contract: what the rule is given is what the definitions read of the machine.
use Rattle.std.proofs.Common.{sym, ap, ◌∙◌}
use Rattle.components.specs.Tables.{size}
use Rattle.machine.specs.Status.{iso, kept_of}
use Rattle.machine.proofs.Stored.{stored_at}
use Rattle.rules.specs.Decided.{decided}
use Rattle.rot.proofs.Parts.{told}
use Rattle.rot.proofs.decided.Goals as goal

pub returns : goal.returns
returns c =
    let a = c.args in
    let m = a.chain.now in
    let w = a.w.now in
    let here = stored_at (size m) w a.place c.requires.1 m.few c.requires.0 in
    let isolated = c.contains.ensures.0 ∙ sym (told _) ∙ sym (ap iso here) in
    let status = sym (ap kept_of here) in
    c.decide.ensures
    ∙ (λ j. decided
    (record { n = m.counted j; place = a.place; id = a.id; kind = c.kind_at.ensures j; policy = c.policy_at.ensures j; isolated = isolated j; cursor = w.rot.cursor; max_retry = a.max_retry })
    (record { state = w.state; window = w.rot.pending_commit; status = status j })
    a.event a.rule)
