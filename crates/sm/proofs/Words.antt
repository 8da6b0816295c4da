-- The four isolated words against the statuses: position p is flagged exactly where its component is isolated.
use Prim.Native.Nat.{ℕ, zero, suc, ◌-◌, ◌≤◌}
use native.Mathlib.Omega.{arith}
use mathlib.Core.Path.{◌≡◌, refl, sym, ap, ◌∙◌}
use mathlib.Core.Bool.{Bool, true, false}
use mathlib.Core.List.{List, [], ◌∷◌, ◌++◌, map}
use lib.ListN.{length, take, replicate, take-append-drop, length-take}
use Rattle.store.specs.Flags.{flags, trues}
use Rattle.store.specs.declared.Status.{Status}
use Rattle.machine.specs.Status.{iso}
use Rattle.machine.specs.View.{joined, statuses_of}
use Rattle.settling.specs.declared.parts.MachineParts.{MachineParts}
use Rattle.settling.specs.View.{listed, read, Fits, Given}
use Rattle.sm.specs.Isolation.{isolation}

iso-joined : (bs : List Bool) (ss : List Status) → length bs ≤ length ss → map iso (joined bs ss) ≡ bs
unfolding joined
iso-joined [] ss h = refl
iso-joined (b ∷ bs) [] h = absurd (omega arith)
iso-joined (true ∷ bs) (s ∷ ss) h = ap (λ (l : List Bool). true ∷ l) (iso-joined bs ss (omega arith))
iso-joined (false ∷ bs) (s ∷ ss) h = ap (λ (l : List Bool). false ∷ l) (iso-joined bs ss (omega arith))

trues-none : (bs : List Bool) (n : ℕ) → trues (bs ++ replicate n false) ≡ trues bs
unfolding trues
trues-none [] zero = refl
trues-none [] (suc n) = trues-none [] n
trues-none (true ∷ bs) n = ap suc (trues-none bs n)
trues-none (false ∷ bs) n = trues-none bs n

module _ (p : MachineParts) (full : length p.work.rot.statuses ≡ 255) (f : Fits p) where
  flagged : map iso (read p).core.statuses ≡ take (length (listed p)) (flags p.work.rot.isolated)
  unfolding statuses_of
  flagged = iso-joined (take (length (listed p)) (flags p.work.rot.isolated)) (take (length (listed p)) p.work.rot.statuses) (omega (arith, f.0, length-take (length (listed p)) (flags p.work.rot.isolated), length-take (length (listed p)) p.work.rot.statuses))

  pub words-say : flags p.work.rot.isolated ≡ isolation p
  words-say = sym (take-append-drop (length (listed p)) (flags p.work.rot.isolated)) ∙ (λ j. sym flagged j ++ f.1.clean j)

  pub count-says : trues (flags p.work.rot.isolated) ≡ trues (map iso (read p).core.statuses)
  count-says = ap trues words-say ∙ trues-none (map iso (read p).core.statuses) (256 - length (listed p))

-- What follows from the premise, where it is known and where it is not.
pub given : (known : Bool) {premise conclusion : Type 0} → Given known premise premise → (premise → conclusion) → Given known premise conclusion
given true p f = f p
given false p f = f
