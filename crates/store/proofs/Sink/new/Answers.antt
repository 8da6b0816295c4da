-- `Sink::new` meets its contract: the list with no item, as the sink's own.
use Rattle.std.proofs.Common.{ap}
use Rattle.model.specs.declared.Effect.{Effect}
use Rattle.bounded.specs.declared.Bounded.{Bounded}
use Rattle.store.specs.declared.Sink.{Sink}
use Rattle.store.proofs.Sink.new.Goals as goal

abbrev wrapped : Bounded Effect 512 → Sink
wrapped b = record { effects = b }

pub returns : goal.returns
returns c = ap wrapped c.new.ensures
