-- Whom an event is about.
use Rattle.std.specs.Prelude.{Option, None, Some}
use Rattle.model.specs.declared.ComponentId.{ComponentId}

-- The component that an event names, or j where it names none.
abbrev pub whom : ComponentId → Option ComponentId → ComponentId
whom j None = j
whom j (Some i) = i
