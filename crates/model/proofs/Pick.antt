-- Choices by a test: what holds of each answer under its outcome holds of the choice.
use mathlib.Core.Path.{◌≡◌, refl}
use mathlib.Core.Bool.{Bool, true, false}
use Rattle.model.specs.Vocabulary.{pick}

pub pick_p {ℓ ℓ'} : {A : Type ℓ} (P : A → Type ℓ') (t : Bool) {a b : A} → (t ≡ true → P a) → (t ≡ false → P b) → P (pick t a b)
pick_p P true h k = h refl
pick_p P false h k = k refl
