-- `reply` meets its contract: the waiting effect is answered and the machine settled, or the call is refused.
use Rattle.std.proofs.Common.{None, refl, sym, ap, subst, ◌∙◌}
use mathlib.Core.Bool.{not}
use Rattle.store.specs.Sink.{held}
use Rattle.settling.specs.Settle.{waiting_is, replied}
use Rattle.settling.specs.View.{view}
use Rattle.settling.proofs.Views.{held-short, view-few}
use Rattle.sm.specs.declared.CallError.TheVariants.{NothingWaits}
use Rattle.sm.specs.Calls.{Expected}
use Rattle.sm.specs.Gives.{CallGives}
use Rattle.sm.proofs.Stepping.{replied-idle, replied-few, reply-taken, reply-refused, settles, refuses}
use Rattle.sm.proofs.reply.Goals as goal

pub returns-then-is_none : goal.returns-then-is_none
returns-then-is_none c =
    let m = c.args.machine in
    let none = c.is_none.ensures ∙ ap not c.if-is_none.true in
    subst (λ (x : Expected). CallGives m x c.reported.result) (sym (reply-refused m c.args.reply none)) (refuses m NothingWaits c.reported.result c.reported.ensures)

pub returns : goal.returns
unfolding view
returns c =
    let m = c.args.machine in
    let a = c.args.reply in
    let some = c.is_none.ensures ∙ ap not c.if-is_none.false in
    subst (λ (x : Expected). CallGives m x c.reported-2.result) (sym (reply-taken m a some))
    (settles m _ _ (replied a (waiting_is None (view m))) c.reported-2.result (c.replied.ensures.machine _ (held m.work.sink) (held-short m.work m.dispatch)) (replied-idle (view m) a) (replied-few (view m) a (view-few m)) refl refl c.settle_in.ensures.reads c.reported-2.ensures)
