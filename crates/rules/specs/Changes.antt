-- What is kept with one part changed, and the decisions that are made of it.
use Rattle.std.specs.Prelude.{Bool, false, ℕ}
use Rattle.model.specs.declared.State.{State}
use Rattle.rules.specs.declared.Kept.{Kept}
use Rattle.rules.specs.declared.Says.{Says}
use Rattle.rules.specs.declared.Says.TheVariants.{Nothing}
use Rattle.rules.specs.declared.Hold.{Hold}
use Rattle.rules.specs.declared.Hold.TheVariants.{Nobody}
use Rattle.rules.specs.declared.Next.{Next}
use Rattle.rules.specs.declared.Next.TheVariants.{Stay, Walk}
use Rattle.rules.specs.declared.Decision.{Decision}

abbrev pub state_to : State → Kept → Kept
state_to s k = record { state = s; window = k.window; status = k.status }

abbrev pub window_to : Bool → Kept → Kept
window_to b k = record { state = k.state; window = b; status = k.status }

abbrev pub retry_to : ℕ → Kept → Kept
retry_to n k = record { state = k.state; window = k.window; status = record { retry = n; awaiting_boot = k.status.awaiting_boot; released = k.status.released } }

abbrev pub booted_to : Kept → Kept
booted_to k = record { state = k.state; window = k.window; status = record { retry = k.status.retry; awaiting_boot = false; released = k.status.released } }

abbrev pub goes_on : Kept → Says → Next → Decision
goes_on k es x = record { kept = k; reports = false; says = es; hold = Nobody; next = x }

abbrev pub stays : Kept → Says → Decision
stays k es = goes_on k es Stay

abbrev pub holds : Kept → Hold → Next → Decision
holds k h x = record { kept = k; reports = false; says = Nothing; hold = h; next = x }

-- The walk starts anew.
abbrev pub walks : Kept → Decision
walks k = goes_on k Nothing Walk
