-- `move_on` meets its contract: an isolated component is in the chain, so the walk goes on at the next position at most.
use Rattle.std.proofs.Common.{◌≡◌, ◌<◌, ◌≤◌, true, false, arith, rules, add-one}
use Rattle.components.specs.declared.Chain.{Chain}
use Rattle.components.specs.Tables.{size}
use Rattle.machine.specs.declared.Work.{Work}
use Rattle.machine.specs.Status.{status_at, iso}
use Rattle.machine.specs.View.{statuses_of, Sized}
use Rattle.machine.proofs.Laws.{length-statuses}
use Rattle.machine.proofs.Runs.{ran-none}
use Rattle.rot.proofs.Parts.{gated-inside}
use Rattle.rot.proofs.move_on.Goals as goal

inside : (chain : Chain) (w : Work) → Sized w.rot → iso (status_at (statuses_of chain.count w.rot) w.rot.cursor) ≡ true
    → (w.rot.cursor < size chain) × (size chain ≤ 255)
inside chain w sized gated =
    let short = chain.few in
    let long = length-statuses (size chain) w.rot short sized in
    (omega (arith, long, gated-inside (statuses_of (size chain) w.rot) w.rot.cursor (rw (← chain.counted) gated)), short)

pub overflow_add-cursor : goal.overflow_add-cursor
overflow_add-cursor c = let i = inside c.args.chain.now c.args.w.now c.requires (search rules) in omega arith

pub walk_on-requires : goal.walk_on-requires
walk_on-requires c = let i = inside c.args.chain.now c.args.w.now c.requires (search rules) in (omega arith, c.requires)

pub returns-then-is_gated : goal.returns-then-is_gated
returns-then-is_gated c =
    let w = c.args.w.now in
    let m = c.args.chain.now in
    let g : iso (status_at (statuses_of m.count w.rot) w.rot.cursor) ≡ true = search rules in
    rw (rw m.counted at g, ← add-one w.rot.cursor) c.walk_on.ensures

pub returns-else-is_gated : goal.returns-else-is_gated
returns-else-is_gated c =
    let w = c.args.w.now in
    let m = c.args.chain.now in
    let g : iso (status_at (statuses_of m.count w.rot) w.rot.cursor) ≡ false = search rules in
    rw (rw m.counted at g) ran-none
