-- What crates above may cite of a sink.
use Prim.Native.Nat.{ℕ, ◌+◌, ◌<◌}
use mathlib.Core.Path.{◌≡◌, ap}
use mathlib.Core.List.{[], ◌∷◌, ◌++◌}
use lib.ListN.{length, take}
use Rattle.model.specs.declared.Effect.{Effect}
use Rattle.bounded.specs.declared.Bounded.{Bounded}
use Rattle.bounded.proofs.Laws.{with-room, one-more, same-array}
use Rattle.store.specs.declared.Sink.{Sink}
use Rattle.store.specs.Sink.{held, with_effect}

-- A sink of length 0 holds nothing.
pub none-held : (s : Sink) → s.effects.len ≡ 0 → held s ≡ []
unfolding held
none-held s z = ap (λ (n : ℕ). take n s.effects.items) z

module _ (s : Sink) (e : Effect) where
  -- Where there is room the sink has one effect more, after those that it held.
  pub with-len : s.effects.len < 512 → (with_effect s e).effects.len ≡ s.effects.len + 1
  unfolding with_effect
  with-len h = ap (λ (b : Bounded Effect 512). b.len) (with-room s.effects e h)

  pub with-held : length s.effects.items ≡ 512 → s.effects.len < 512 → held (with_effect s e) ≡ held s ++ (e ∷ [])
  unfolding held with_effect
  with-held f h = one-more s.effects e f h

  -- The array stays as long.
  pub with-slots : length (with_effect s e).effects.items ≡ length s.effects.items
  unfolding with_effect
  with-slots = same-array s.effects e
