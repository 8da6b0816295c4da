-- What is stored of a component, but for its retry count alone: that of a new one, and with both flags off.
use Rattle.std.specs.Prelude.{false}
use Rattle.store.specs.declared.Status.{Status}

abbrev pub unset : Status
unset = record { retry = 0; awaiting_boot = false; released = false }

abbrev pub off : Status → Status
off s = record { retry = s.retry; awaiting_boot = false; released = false }
