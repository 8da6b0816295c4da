-- Who is isolated, as the C side reads it: a flag for each of 256 positions, none set past the chain.
use Rattle.std.specs.Prelude.{◌-◌, Bool, false, List, ◌++◌, map, length, replicate}
use Rattle.machine.specs.Status.{iso}
use Rattle.settling.specs.declared.parts.MachineParts.{MachineParts}
use Rattle.settling.specs.View.{listed, read}

abbrev pub isolation : MachineParts → List Bool
isolation p = map iso (read p).core.statuses ++ replicate (256 - length (listed p)) false
