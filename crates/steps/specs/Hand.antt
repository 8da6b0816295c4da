-- What is kept from line to line.
use Rattle.std.specs.Prelude.{Option, None, Some}
use Rattle.settling.specs.declared.whole.Machine.{Machine}
use Rattle.settling.specs.View.{Valid}

-- The machine at hand, if there is one, may be called.
abbrev pub Callable : Option Machine → Type 0
Callable None = Unit {0}
Callable (Some m) = Valid m
