-- Dependents over links: they are in the chain, and a cascade that holds a component holds all of them.
use mathlib.Core.Path.{◌≡◌, sym, subst, ap, ◌∙◌}
use mathlib.Core.List.{List, Memᴰ}
use Prim.Native.Nat.{ℕ, ◌<◌}
use lib.ListN.{length}
use Rattle.components.specs.Chain.{position, Sound}
use Rattle.model.specs.declared.ComponentId.{ComponentId}
use Rattle.model.specs.declared.Component.{Component}
use Rattle.components.proofs.Lookup.{own-place}
use Rattle.components.specs.Links.{place, parent}
use Rattle.holds.specs.Cascade.{cascade}
use Rattle.holds.proofs.Closed.{cascade-closed}
use Rattle.history.specs.Demand.{DependsOn, DependsOver, directly, further}

module _ (n : ℕ) (ch : List Component) (s : Sound n ch) where
  on-place : {i j : ComponentId} (d : DependsOn ch i j) → position ch i ≡ d.place
  on-place d = ap (position ch) (sym d.here) ∙ own-place n ch s d.place d.inside

  on-inside : {i j : ComponentId} → DependsOn ch i j → position ch i < length ch
  on-inside d = subst (λ (k : ℕ). k < length ch) (sym (on-place d)) d.inside

  on-parent : {i j : ComponentId} → DependsOn ch i j → parent ch (position ch i) ≡ position ch j
  on-parent d = ap (parent ch) (on-place d) ∙ ap (place ch) d.link

  pub over-inside : {i j : ComponentId} → DependsOver ch i j → position ch i < length ch
  over-inside (directly d) = on-inside d
  over-inside (further d o) = on-inside d

  pub cascade-over : (p : ℕ) → p < length ch → {i j : ComponentId} → DependsOver ch i j → Memᴰ (position ch j) (cascade ch p) → Memᴰ (position ch i) (cascade ch p)
  cascade-over p b (directly {i = i} {j = j} d) m = cascade-closed n ch s p b (position ch j) (position ch i) m (on-inside d) (on-parent d)
  cascade-over p b (further {i = i} {j = j} d o) m = cascade-closed n ch s p b (position ch j) (position ch i) (cascade-over p b o m) (on-inside d) (on-parent d)
