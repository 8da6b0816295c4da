-- The entries that a list keeps: how many, and which.
use Prim.Native.Nat.{ℕ, ◌<◌, min}
use mathlib.Core.Path.{◌≡◌, ◌∙◌, ap}
use native.Mathlib.Omega.{arith}
use lib.ListN.{length, get_or, length-take}
use lib.Seq.{get_or-take}
use Rattle.components.specs.declared.ComponentList.{ComponentList}
use Rattle.components.specs.Chain.{entries_of, blank, at}

module _ (l : ComponentList) (full : length l.entries ≡ 255) where
  pub kept-length : length (entries_of l) ≡ min l.len 255
  kept-length = length-take l.len l.entries ∙ ap (min l.len) full

  pub kept_at : (i : ℕ) → i < length (entries_of l) → at (entries_of l) i ≡ get_or l.entries i blank
  kept_at i h = get_or-take l.len l.entries i blank (omega (arith, kept-length))
