-- A number made wider is pushed as itself.
use mathlib.Core.Path.{◌≡◌, subst}
use mathlib.Core.List.{◌∷◌}
use Prim.Native.Nat.{ℕ}
use Rattle.text.specs.declared.Line.{Line}
use Rattle.text.specs.Text.{decimal}
use Rattle.text.specs.Lines.{Pushed}

pub widened : {l r : Line} {n : ℕ} (m : ℕ) → Pushed l (9 ∷ decimal n) r → n ≡ m → Pushed l (9 ∷ decimal m) r
widened {l} {r} {n} m p e = subst (λ (k : ℕ). Pushed l (9 ∷ decimal k) r) e p
