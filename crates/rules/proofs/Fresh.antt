-- A decision that is about to be reported holds no report yet.
use mathlib.Core.Path.{◌≡◌, refl}
use mathlib.Core.Bool.{false}
use Rattle.model.specs.declared.FailurePolicy.{FailurePolicy}
use Rattle.model.specs.declared.FailurePolicy.TheVariants.{Required, Isolable, Cascading}
use Rattle.model.specs.declared.BootFailureKind.{BootFailureKind}
use Rattle.model.specs.declared.BootFailureKind.TheVariants.{TimedOut, DeviceRetriable, DeviceFatal}
use Rattle.model.proofs.Pick.{pick_p}
use Rattle.rules.specs.declared.Facts.{Facts}
use Rattle.rules.specs.declared.Kept.{Kept}
use Rattle.rules.specs.declared.Situation.{Situation}
use Rattle.rules.specs.declared.Decision.{Decision}
use Rattle.rules.specs.Decided.{recovers, following, held_by, gate_or, corrupts, failed_by}

abbrev Fresh : Decision → Type 0
Fresh d = d.reports ≡ false

pub fresh-corrupts : (f : Facts) (k : Kept) (s : Situation) → Fresh (corrupts f k s)
fresh-corrupts f k s = pick_p Fresh f.isolated (λ _. refl) (λ _. by f.policy)
  where
    by : (x : FailurePolicy) → Fresh (gate_or (held_by x) (recovers f k s) k (following s))
    by Required = refl
    by Isolable = refl
    by Cascading = refl

pub fresh-failed : (f : Facts) (k : Kept) (x : BootFailureKind) (s : Situation) → Fresh (failed_by f k x s)
fresh-failed f k TimedOut s = refl
fresh-failed f k DeviceRetriable s = refl
fresh-failed f k DeviceFatal s = fresh-corrupts f k s
