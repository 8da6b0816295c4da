-- `settle_in` meets its contract: after so many turns the loop stands at what as many turns of the definition give.
use Rattle.std.proofs.Common.{arith, ◌≡◌, subst}
use Rattle.settling.proofs.Looped.{After, after_none, after_more, after_all, after_rested}
use Rattle.settling.proofs.settle_in.Goals as goal

pub loop-init : goal.loop-init
loop-init c = after_none c.args.chain.now c.args.max_retry c.args.w.now c.args.d.now c.requires

pub returns-then-at_rest : goal.returns-then-at_rest
returns-then-at_rest c =
    let l = c.loop in
    after_rested c.args.chain.now c.args.max_retry c.args.w.now c.args.d.now c.requires l.counter (omega arith) l.w l.d l.invariant (c.at_rest.ensures c.if-at_rest.true)

pub loop-preserved : goal.loop-preserved
loop-preserved c =
    let l = c.loop in
    after_more c.args.chain.now c.args.max_retry c.args.w.now c.args.d.now l.counter l.w c.turn.new.w l.d c.turn.new.d l.invariant c.turn.ensures

pub returns : goal.returns
returns c =
    let a = c.args in
    let l = c.loop in
    let all : l.counter ≡ 521 = omega arith in
    after_all a.chain.now a.max_retry a.w.now a.d.now c.requires l.w l.d (subst (λ n. After a.chain.now a.max_retry a.w.now a.d.now n l.w l.d) all l.invariant)
