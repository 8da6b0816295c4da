-- The rules in the order of their numbers in the table.
use Rattle.std.specs.Prelude.{List, [], ◌∷◌, ℕ, get_or}
use Rattle.model.specs.declared.ComponentId.{ComponentId}
use Rattle.model.specs.declared.Component.{Component}
use Rattle.machine.specs.View.{Core, Out, stay}
use Rattle.model.specs.declared.Event.{Event}
use Rattle.table.specs.Payload.{power_of, boot_of}
use Rattle.rules.specs.Entry.{enter_locked, enter_updating}
use Rattle.rules.specs.Updates.{power, confirm, commit_timeout, attest, defer, update_verified, update_rejected}
use Rattle.rules.specs.Walks.{pass, verify_failed, progress, component_ready, awaited}
use Rattle.rules.specs.Corruption.{corrupt}
use Rattle.rules.specs.Failures.{timeout, boot_failed}
use Rattle.rules.specs.Cases.{follows, before, recovering, restored_in, unavailable_in}
use Rattle.rules.specs.declared.Situation.TheVariants.{Walking, Updated, Elsewhere}

-- By number, for the event e and the component i that it names.
unfoldable pub numbered : List Component → ℕ → Event → ComponentId → Core → List Out
numbered ch max e i c =
    stay c
    ∷ power ch (power_of e) c
    ∷ pass ch i c
    ∷ verify_failed ch i c
    ∷ component_ready ch i (awaited c.state) c
    ∷ progress ch i c
    ∷ attest c
    ∷ enter_updating c
    ∷ defer c
    ∷ update_verified c
    ∷ update_rejected c
    ∷ confirm i c
    ∷ corrupt ch (follows Walking ch) (before Walking) i c
    ∷ corrupt ch (follows Elsewhere ch) (before Elsewhere) i c
    ∷ corrupt ch (follows Updated ch) (before Updated) i c
    ∷ restored_in ch max i (recovering c.state) c
    ∷ unavailable_in ch i (recovering c.state) c
    ∷ enter_locked c
    ∷ boot_failed ch (follows Walking ch) (before Walking) i (boot_of e).checkpoint (boot_of e).kind c
    ∷ boot_failed ch (follows Elsewhere ch) (before Elsewhere) i (boot_of e).checkpoint (boot_of e).kind c
    ∷ timeout ch (before Elsewhere) i c
    ∷ commit_timeout c
    ∷ []

-- The rule of number k, and nothing where there is none.
abbrev pub numbered_by : List Component → ℕ → Event → ComponentId → ℕ → Core → Out
numbered_by ch max e i k c = get_or (numbered ch max e i c) k (stay c)
