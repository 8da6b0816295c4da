-- `drive` meets its contract: what is written so far, and the steps that are left, give the whole run.
use mathlib.Core.Path.{◌≡◌, ap}
use Prim.Native.Nat.{◌<◌}
use lib.ListN.{length}
use borrow.Author.Rules.{rules}
use Rattle.model.proofs.Arrays.{unmap}
use Rattle.settling.specs.View.{view}
use Rattle.settling.specs.Parts.{together}
use Rattle.settling.proofs.Views.{parts-of}
use Rattle.settling.proofs.Looped.{left-few}
use Rattle.driver.specs.Seen.{goes_on, seen}
use Rattle.driver.proofs.Going.{Going, measure, room, began, ends, advances}
use Rattle.driver.proofs.drive.Goals as goal
use Rattle.driver.proofs.drive.Goals.{After-advance}

pub loop-c-init : goal.loop-c-init
unfolding view
loop-c-init c =
    let m = c.args.machine in
    let statuses : length m.work.rot.statuses ≡ 255 = search (rules, unmap) in
    let words : length m.work.rot.isolated.words ≡ 4 = search rules in
    let slots : length m.work.sink.effects.items ≡ 512 = search (rules, unmap) in
    (parts-of m record { sized = record { statuses = statuses; words = words }; slots = slots }, began c.args.sheet.now c.args.out.now c.args.limit m c.start-c.result c.start-c.ensures)

-- ---- A step of the loop

pub advance-requires : goal.advance-requires
advance-requires c =
    let a = c.args in
    let loop = c.loop-c in
    (loop.invariant.0, loop.invariant.1.stands, room a.sheet.now a.out.now a.limit a.machine loop.out (together a.machine.chain loop.work loop.dispatch) loop.c loop.invariant.1)

carried : (c : After-advance) →
    Going c.args.sheet.now c.args.out.now c.args.limit c.args.machine c.advance.new.out (together c.args.machine.chain c.advance.new.w c.advance.new.d) c.advance.new.c
    × (measure c.args.sheet.now c.args.limit c.args.machine (together c.args.machine.chain c.advance.new.w c.advance.new.d) c.advance.new.c < measure c.args.sheet.now c.args.limit c.args.machine (together c.args.machine.chain c.loop-c.work c.loop-c.dispatch) c.loop-c.c)
carried c =
    let a = c.args in
    let loop = c.loop-c in
    let new = c.advance.new in
    advances a.sheet.now a.out.now a.limit a.machine loop.out (together a.machine.chain loop.work loop.dispatch) loop.c loop.invariant.1 (ap goes_on c.in_default.is)
    (together a.machine.chain new.w new.d) (left-few c.advance.ensures.0) new.out new.c c.advance.ensures.1

pub loop-c-smaller : goal.loop-c-smaller
loop-c-smaller c = (carried (goal.at.loop-c-smaller c).After-advance).1

pub loop-c-preserved : goal.loop-c-preserved
loop-c-preserved c =
    let at = (goal.at.loop-c-preserved c).After-advance in
    (at.advance.ensures.0, (carried at).0)

-- ---- It ends

pub returns-in-Some : goal.returns-in-Some
unfolding seen view
returns-in-Some c =
    let a = c.args in
    let loop = c.loop-c in
    ends a.sheet.now a.out.now a.limit a.machine loop.out _ loop.c loop.invariant.1 c.in-Some.outcome c.in-Some.is c.ended.result c.ended.ensures
