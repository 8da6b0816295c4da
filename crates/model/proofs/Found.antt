-- What a search gives in std's terms, and a place that a definition counts.
use Rattle.std.specs.Prelude.{Some, None, unwrap_or}
use Rattle.std.proofs.Common.{cond}
use Prim.Native.Nat.{ℕ, suc, ◌+◌, ◌≤◌}
use mathlib.Core.Path.{◌≡◌, refl}
use mathlib.Core.Bool.{Bool, true, false}
use native.Mathlib.Omega.{arith}
use lib.Dec.{ltb}
use borrow.Author.Tests.{ltb-false}
use Rattle.model.specs.Vocabulary.{pick}

pub place-step : (t : Bool) (n : ℕ) → pick t 0 (suc n) ≡ cond t 0 (1 + n)
place-step true n = refl
place-step false n = omega arith

pub as-found : (t : Bool) (n : ℕ) → cond t (Some n) None ≡ pick t (Some n) None
as-found true n = refl
as-found false n = refl

-- Where no place is found, the length stands for it.
pub found-or : (t : Bool) (n p : ℕ) → ltb p n ≡ t → p ≤ n → unwrap_or (pick t (Some p) None) n ≡ p
found-or true n p e h = refl
found-or false n p e h = omega (arith, ltb-false p n e)
