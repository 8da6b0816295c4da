-- The positions that an order lists.
use Rattle.std.specs.Prelude.{ℕ, List}
use Rattle.bounded.specs.Items.{items_of}
use Rattle.holds.specs.declared.Order.{Order}

abbrev pub listed : Order → List ℕ
listed o = items_of o.places
