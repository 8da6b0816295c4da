-- A sink: the effects that it holds, the empty one, one effect more.
use Rattle.std.specs.Prelude.{List}
use Rattle.model.specs.declared.Effect.{Effect}
use Rattle.model.specs.declared.Effect.TheVariants.{LatchLockdown}
use Rattle.bounded.specs.Items.{items_of, no_items, appended}
use Rattle.store.specs.declared.Sink.{Sink}

-- The effects that a sink holds, in order.
unfoldable pub held : Sink → List Effect
held s = items_of s.effects

-- The sink with no effect.
abbrev pub empty_sink : Sink
empty_sink = record { effects = no_items LatchLockdown }

-- The sink with one effect more where there is room for it, and else the sink itself.
unfoldable pub with_effect : Sink → Effect → Sink
with_effect s e = record { effects = appended s.effects e }
