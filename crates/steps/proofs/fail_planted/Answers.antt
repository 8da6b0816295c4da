-- `fail_planted` changes the queue of a machine: whatever is queued, it is at most 8 events, and settling ends at rest.
use Rattle.std.proofs.Common.{arith, rules, ◌≡◌, length, sym, subst, ap, ◌∙◌, [], None}
use Rattle.model.proofs.Arrays.{unmap}
use Rattle.pending.proofs.Laws.{events-length}
use Rattle.settling.specs.declared.whole.Machine.{Machine}
use Rattle.settling.specs.declared.Reply.TheVariants.{Failed}
use Rattle.settling.specs.Settle.{Model, settle}
use Rattle.settling.specs.View.{view, within, chain_of, Becomes, Rests, Valid}
use Rattle.settling.proofs.Ends.{settle-ends}
use Rattle.settling.proofs.Views.{view-waiting, view-few}
use Rattle.sm.proofs.Stepping.{replied-idle}
use Rattle.steps.proofs.fail_planted.Goals as goal

settled : (m r : Machine) → m.dispatch.waiting ≡ None → Becomes m (settle (chain_of m) m.max_retry (view m)).machine r → Valid r
settled m r w b = subst Rests (sym b.machine) (settle-ends (chain_of m) m.max_retry (view m) (view-waiting m ∙ w) (view-few m)).0

pub invariant_of-settle : goal.invariant_of-settle
invariant_of-settle c =
    let q = c.planted-dispatch.result in
    let full : length q.entries.items ≡ 8 = search (rules, unmap) in
    record {
      accepted = c.args.m.accepted;
      fit = c.args.m.fit;
      room = c.args.m.room;
      few = omega (arith, events-length q full);
    }

pub returns : goal.returns
returns c =
    let m = c.args.m in
    let idle = ap (λ (x : Model). x.waiting) (c.replied.ensures.machine (view m).core [] (omega arith)) ∙ replied-idle (within (view m).core [] m.dispatch) Failed in
    settled _ c.settle.result idle c.settle.ensures
