-- `advance` meets its contract: by what is due, and each step that has a line writes it.
use Rattle.std.specs.Prelude.{Option, None, Some, Ok}
use mathlib.Core.Path.{◌≡◌, refl, sym, ap, ◌∙◌}
use mathlib.Core.Bool.{Bool, true, false}
use mathlib.Core.List.{List, [], ◌∷◌}
use Prim.Native.Nat.{◌<◌}
use native.Mathlib.Omega.{arith}
use lib.ListN.{length, length-drop}
use Rattle.model.specs.declared.Event.{Event}
use Rattle.model.specs.declared.Effect.{Effect}
use Rattle.components.specs.Chain.{id_at}
use Rattle.components.specs.Tables.{entries, size}
use Rattle.machine.specs.Status.{status_at}
use Rattle.machine.specs.View.{statuses_of}
use Rattle.store.specs.Sink.{held}
use Rattle.settling.specs.Settle.{waiting_is, failed_is, enqueue, replied}
use Rattle.settling.proofs.Views.{held-short, moves-makes}
use Rattle.driver.specs.declared.Stage.TheVariants.{Waits, HandsOut, Takes}
use Rattle.driver.specs.Run.{SettledIn, Told, stage_by}
use Rattle.driver.specs.Plans.{stops, answers, turns, queues, hands, finishes, tells_next}
use Rattle.driver.proofs.Moves.{transcript-one, plan-is, due-is, due-reads, plan-hands, plan-takes, plan-finishes, reads-told, reads-all, rests-turn, quiet, aloud}
use Rattle.driver.proofs.advance.Goals as goal

pub returns-in-Waits : goal.returns-in-Waits
returns-in-Waits c =
    let a = c.args in
    let due = c.due.ensures a.chain.now in
    let reply = c.answer_by_line-reply.result in
    let made = moves-makes (λ es x. replied reply (waiting_is None x)) c.requires.0 (held-short a.w.now a.d.now) c.replied.ensures in
    (made.parts, quiet (answers reply c.answer_by_line-reply.new.c) (due-is _ Waits (sym due ∙ c.in-Waits.is) (c.answer_by_line-reply.ensures a.limit _ _) (λ st x. refl)) made.reads refl c.requires.2)

-- Nothing waits, and some effects are left.
more-left : (w : Option Effect) (es : List Effect) (q : List Event) → HandsOut ≡ stage_by w es q → (w ≡ None) × (0 < length es)
more-left (Some x) es q e = cc
more-left None [] [] e = cc
more-left None [] (x ∷ q) e = cc
more-left None (x ∷ es) q e = (refl, omega arith)

pub hand_next-requires : goal.hand_next-requires
unfolding held
hand_next-requires c =
    let a = c.args in
    let more = more-left _ _ _ (sym c.in-HandsOut.is ∙ c.due.ensures a.chain.now) in
    (more.0, omega (arith, more.1, length-drop a.d.now.next (held a.w.now.sink)), c.requires.0.room)

pub returns-in-HandsOut : goal.returns-in-HandsOut
returns-in-HandsOut c =
    let a = c.args in
    let due = c.due.ensures a.chain.now in
    let made = c.hand_next.ensures a.chain.now a.max_retry c.requires.0 in
    (made.parts, aloud (hands a.c.now) (due-is _ HandsOut (sym due ∙ c.in-HandsOut.is) (plan-hands c.requires.1) (λ st x. refl)) made.reads _ c.handed_line.ensures c.write_line.ensures)

pub returns-then-take : goal.returns-then-take
returns-then-take c =
    let a = c.args in
    let due = c.due.ensures a.chain.now in
    let made = c.turn.ensures in
    let plan = plan-is (plan-takes c.requires.1) (ap (λ (b : Bool). turns b c.take.new.c) (sym c.if-take.true) ∙ c.take.ensures) in
    (made.parts, quiet (turns true c.take.new.c) (due-is _ Takes (sym due ∙ c.in-Takes.is) plan (λ st x. refl)) made.reads refl c.requires.2)

pub returns-else-take : goal.returns-else-take
returns-else-take c =
    let a = c.args in
    let due = c.due.ensures a.chain.now in
    let plan = plan-is (plan-takes c.requires.1) (ap (λ (b : Bool). turns b c.take.new.c) (sym c.if-take.false) ∙ c.take.ensures) in
    (c.requires.0, quiet (turns false c.take.new.c) (due-is _ Takes (sym due ∙ c.in-Takes.is) plan (λ st x. refl)) refl refl c.requires.2)

pub returns-in-Rests : goal.returns-in-Rests
returns-in-Rests c =
    let a = c.args in
    let due = c.due.ensures a.chain.now in
    let made = moves-makes (λ es. failed_is false) c.requires.0 (held-short a.w.now a.d.now) (c.rested.ensures a.w.now.sink.effects.len) in
    let turned = sym (rests-turn (entries a.chain.now) a.max_retry _ (sym c.in-Rests.is ∙ due)) in
    (made.parts, aloud (finishes a.c.now) (plan-finishes c.requires.1 (sym due ∙ c.in-Rests.is) c.if-c-ne0.true) (made.reads ∙ turned) _ (c.state_line.ensures ∙ sym (transcript-one (SettledIn a.w.now.state))) c.write_line-in-Rests.ensures)

pub returns-in-Some : goal.returns-in-Some
returns-in-Some c =
    let a = c.args in
    let due = c.due.ensures a.chain.now in
    let event = c.in-Some.event in
    let made = moves-makes (λ es. enqueue event) c.requires.0 (held-short a.w.now a.d.now) c.enqueue.ensures in
    let plan = plan-is (due-reads _ (sym due ∙ c.in-Rests-2.is) c.if-c-ne0.false (c.read.ensures a.limit _)) (ap (λ (e : Option Event). queues e c.read.new.c) (sym c.in-Some.is)) in
    (made.parts, quiet (queues (Some event) c.read.new.c) plan made.reads refl c.requires.2)

pub returns-in_default : goal.returns-in_default
returns-in_default c =
    let a = c.args in
    let due = c.due.ensures a.chain.now in
    let plan = plan-is (due-reads _ (sym due ∙ c.in-Rests-2.is) c.if-c-ne0.false (c.read.ensures a.limit _)) (ap (λ (e : Option Event). queues e c.read.new.c) (sym c.in_default.is)) in
    (c.requires.0, quiet (queues None c.read.new.c) plan refl refl c.requires.2)

pub returns-in-Rests-3 : goal.returns-in-Rests-3
returns-in-Rests-3 c =
    let a = c.args in
    let ch = a.chain.now in
    let due = c.due.ensures ch in
    let p = a.c.now.told in
    let plan = due-reads _ (sym due ∙ c.in-Rests-3.is) c.if-c-ne0.false (reads-told c.requires.1 (omega arith) (omega arith)) in
    (c.requires.0, aloud (tells_next a.c.now) plan refl _ (c.told_line.ensures ∙ sym (transcript-one (Told (id_at (entries ch) p) (status_at (statuses_of (size ch) a.w.now.rot) p)))) c.write_line-in-Rests-3.ensures)

pub returns-in-Rests-4 : goal.returns-in-Rests-4
returns-in-Rests-4 c =
    let a = c.args in
    let ch = a.chain.now in
    let due = c.due.ensures ch in
    let plan = due-reads _ (sym due ∙ c.in-Rests-4.is) c.if-c-ne0.false (reads-all c.requires.1 (omega arith) (omega arith)) in
    (c.requires.0, quiet (stops (Ok tt) a.c.now) plan refl refl c.requires.2)
