-- `due` meets its contract: by what waits, is left and is queued.
use Rattle.std.specs.Option.{is_some}
use Rattle.std.specs.Prelude.{Option, None, Some}
use mathlib.Core.Path.{◌≡◌, refl, sym, ◌∙◌}
use mathlib.Core.Bool.{false}
use mathlib.Core.List.{List, [], ◌∷◌}
use Prim.Native.Nat.{◌<◌, ◌≤◌}
use native.Mathlib.Omega.{arith}
use lib.ListN.{length, drop, length-drop}
use Rattle.model.specs.declared.Effect.{Effect}
use Rattle.model.specs.declared.Event.{Event}
use Rattle.store.specs.Sink.{held}
use Rattle.pending.specs.Queue.{events}
use Rattle.driver.specs.declared.Stage.TheVariants.{HandsOut, Takes, Rests}
use Rattle.driver.specs.Run.{stage_by}
use Rattle.driver.proofs.due.Goals as goal

-- None waits, and some are left; or none is left and some events are queued; or none is.
hands : (w : Option Effect) (es : List Effect) (q : List Event) → is_some w ≡ false → 0 < length es → HandsOut ≡ stage_by w es q
hands (Some x) es q e h = cc
hands None [] q e h = absurd (omega arith)
hands None (x ∷ es) q e h = refl

takes : (w : Option Effect) (es : List Effect) (q : List Event) → is_some w ≡ false → length es ≤ 0 → 0 < length q → Takes ≡ stage_by w es q
takes (Some x) es q e h k = cc
takes None (x ∷ es) q e h k = absurd (omega arith)
takes None [] [] e h k = absurd (omega arith)
takes None [] (y ∷ q) e h k = refl

rests : (w : Option Effect) (es : List Effect) (q : List Event) → is_some w ≡ false → length es ≤ 0 → length q ≤ 0 → Rests ≡ stage_by w es q
rests (Some x) es q e h k = cc
rests None (x ∷ es) q e h k = absurd (omega arith)
rests None [] (y ∷ q) e h k = absurd (omega arith)
rests None [] [] e h k = refl

pub returns-then-d-count : goal.returns-then-d-count
unfolding held
returns-then-d-count c = λ ch.
    let d = c.args.d.now in
    let es = held c.args.w.now.sink in
    hands d.waiting (drop d.next es) (events d.pending) (sym c.is_some.ensures ∙ c.if-is_some.false) (omega (arith, length-drop d.next es))

pub returns-then-count-gt0 : goal.returns-then-count-gt0
unfolding held
returns-then-count-gt0 c = λ ch.
    let d = c.args.d.now in
    let es = held c.args.w.now.sink in
    takes d.waiting (drop d.next es) (events d.pending) (sym c.is_some.ensures ∙ c.if-is_some.false) (omega (arith, length-drop d.next es)) (omega arith)

pub returns-else-count-gt0 : goal.returns-else-count-gt0
unfolding held
returns-else-count-gt0 c = λ ch.
    let d = c.args.d.now in
    let es = held c.args.w.now.sink in
    rests d.waiting (drop d.next es) (events d.pending) (sym c.is_some.ensures ∙ c.if-is_some.false) (omega (arith, length-drop d.next es)) (omega arith)
