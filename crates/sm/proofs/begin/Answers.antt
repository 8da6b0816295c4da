-- `begin` meets its contract: the event stands alone in the queue and is settled, or the call is refused.
use Rattle.std.proofs.Common.{[], ◌∷◌, sym, ◌∙◌, refl, subst, arith}
use Rattle.settling.specs.Settle.{queue_is}
use Rattle.settling.specs.View.{view}
use Rattle.sm.specs.declared.CallError.TheVariants.{NotDone}
use Rattle.sm.specs.Calls.{Expected}
use Rattle.sm.specs.Gives.{CallGives}
use Rattle.sm.proofs.Stepping.{begun, begun-idle, begin-done, begin-refused, settles, refuses}
use Rattle.sm.proofs.begin.Goals as goal

pub returns-then-not-is_done : goal.returns-then-not-is_done
unfolding view
returns-then-not-is_done c =
    let m = c.args.machine in
    let d = sym c.is_done.ensures ∙ c.if-not-is_done.true in
    subst (λ (x : Expected). CallGives m x c.reported.result) (sym (begin-refused m c.args.event d)) (refuses m NotDone c.reported.result c.reported.ensures)

pub returns : goal.returns
unfolding view
returns c =
    let m = c.args.machine in
    let e = c.args.event in
    let d = sym c.is_done.ensures ∙ c.if-not-is_done.false in
    subst (λ (x : Expected). CallGives m x c.reported-2.result) (sym (begin-done m e d))
    (settles m _ _ (queue_is (e ∷ []) (view m)) c.reported-2.result (begun m e d _ c.enqueue.ensures) (begun-idle m e d) (omega arith) refl refl c.settle_in.ensures.reads c.reported-2.ensures)
