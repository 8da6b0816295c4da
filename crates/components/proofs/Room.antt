-- How many components a chain has: all entries of a list that is not too long.
use Prim.Native.Nat.{◌≤◌}
use mathlib.Core.Path.{◌≡◌}
use native.Mathlib.Omega.{arith}
use lib.ListN.{length, take, length-take}
use Rattle.std.proofs.lemmas.List.{take_min}
use Rattle.components.specs.declared.ComponentList.{ComponentList}
use Rattle.components.specs.Chain.{entries_of}
use Rattle.components.proofs.Walk.{kept-length}
use Rattle.components.specs.declared.Chain.{Chain}
use Rattle.components.specs.Tables.{entries}

-- Of a list that is not too long every entry is in the chain.
pub all-kept : (c : Chain) → length c.list.entries ≡ 255 → c.list.len ≤ 255 → length (entries c) ≡ c.list.len
all-kept c full h = omega (arith, kept-length c.list full)

-- The chain is as many of the first entries as it has components.
pub first-kept : (l : ComponentList) → take (length (entries_of l)) l.entries ≡ entries_of l
first-kept l = rw (length-take l.len l.entries) (take_min l.len l.entries)
