-- A list of components from place to place: what is left of it tells where an id stands.
use Prim.Native.Nat.{ℕ, suc, ◌+◌, ◌<◌, ◌≤◌}
use mathlib.Core.Path.{◌≡◌}
use mathlib.Core.Bool.{Bool, true, false}
use mathlib.Core.List.{List}
use native.Mathlib.Numerals.{add-one}
use native.Mathlib.Omega.{arith}
use lib.ListN.{length, drop, drop_of_length-le}
use lib.Seq.{drop-cons}
use Rattle.model.specs.declared.ComponentId.{ComponentId}
use Rattle.model.specs.declared.Component.{Component}
use Rattle.model.specs.Vocabulary.{pick}
use Rattle.components.specs.Chain.{blank, position, same_id, at}

module _ (ch : List Component) (id : ComponentId) (i : ℕ) where
  here : i < length ch → (b : Bool) → same_id (at ch i).id id ≡ b → position (drop i ch) id ≡ pick b 0 (suc (position (drop (suc i) ch) id))
  unfolding position
  here h b t = rw (drop-cons ch i blank h, t)

  -- The id stands at place i,
  pub position_here : i < length ch → same_id (at ch i).id id ≡ true → i + position (drop i ch) id ≡ i
  position_here h t = omega (arith, here h true t)

  -- or it does not,
  pub position-next : i < length ch → same_id (at ch i).id id ≡ false → i + position (drop i ch) id ≡ i + 1 + position (drop (i + 1) ch) id
  position-next h t = rw (add-one i) (omega (arith, here h false t))

  -- or the list has ended.
  pub position-end : length ch ≤ i → i + position (drop i ch) id ≡ i
  unfolding position
  position-end h = rw (drop_of_length-le ch {i = i} h) (omega arith)
