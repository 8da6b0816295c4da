-- `hand_next` meets its contract: the turn of a machine in which nothing waits and some effects are left.
use Rattle.std.proofs.Common.{List, length, ap, ◌∙◌, arith, get_or}
use Rattle.std.proofs.lemmas.List.{get_or_default}
use Rattle.model.specs.declared.Effect.{Effect}
use Rattle.model.specs.declared.Effect.TheVariants.{ReadFirmware}
use Rattle.store.specs.Sink.{held}
use Rattle.settling.proofs.Views.{held-short, hands-turn}
use Rattle.settling.proofs.hand_next.Goals as goal

-- The place in the batch, which has at most 512 effects.
pub bounds-batch-d : goal.bounds-batch-d
unfolding held
bounds-batch-d c = omega (arith, c.requires.1, ap length c.as_slice-batch.ensures)

pub offset_bounds-batch-d : goal.offset_bounds-batch-d
offset_bounds-batch-d c = omega (arith, c.requires.1, c.requires.2, held-short c.args.w.now c.args.d.now)

pub hand_out-requires : goal.hand_out-requires
unfolding held
hand_out-requires c = omega (arith, c.requires.1, ap length c.as_slice-batch.ensures)

pub returns : goal.returns
unfolding held
returns c = λ ch max k.
    let batch = c.as_slice-batch.ensures in
    let next = c.args.d.now.next in
    let filler = ReadFirmware record { 0 = 0 } in
    let effect = get_or c.as_slice-batch.result.now next filler in
    hands-turn max k c.requires.0 c.requires.1 (omega (arith, ap length batch)) effect c.hand_out.ensures
    (ap (λ (l : List Effect). get_or l next filler) batch ∙ get_or_default (held c.args.w.now.sink) next filler effect c.requires.1)
