-- The turns of a call under way lead to the machine that the call gives, and to the events that it settles: a turn more leads
-- there too, and a machine at rest is that machine, with all the events taken.
use Rattle.std.specs.Prelude.{Option, None, Some}
use mathlib.Core.Path.{◌≡◌, refl, sym, subst, ap, ◌∙◌}
use mathlib.Core.List.{List, []}
use Prim.Native.Nat.{ℕ, zero, suc, ◌+◌, ◌≤◌}
use native.Mathlib.Omega.{arith}
use lib.ListN.{length}
use Rattle.model.specs.declared.Component.{Component}
use Rattle.model.specs.declared.Event.{Event}
use Rattle.settling.specs.Settle.{Model, Run, next_event, noted, turned, turns, settle}
use Rattle.settling.specs.View.{Rests}
use Rattle.settling.proofs.Ends.{turned-stays}

-- Some number of turns from the one gives the other.
pub data Leads (ch : List Component) (max : ℕ) : Run → Run → Type 0 where
  here : {r : Run} → Leads ch max r r
  after : {r q : Run} → Leads ch max (turned ch max r) q → Leads ch max r q

noted_more : (o : Option Event) (es : List Event) → length es ≤ length (noted o es)
noted_more None es = omega arith
noted_more (Some e) es = omega arith

module _ (ch : List Component) (max : ℕ) where
  turns-lead : (n : ℕ) (r : Run) → Leads ch max r (turns ch max n r)
  unfolding turns
  turns-lead zero r = here
  turns-lead (suc n) r = after (turns-lead n (turned ch max r))

  pub settle-leads : (m : Model) → Leads ch max record { machine = m; settled = [] } (settle ch max m)
  unfolding settle
  settle-leads m = turns-lead (length m.left + 9) record { machine = m; settled = [] }

  -- A turn more leads to the same machine at rest.
  pub turn-leads : {r q : Run} → Leads ch max r q → Rests q.machine → Leads ch max (turned ch max r) q
  turn-leads (here {r = r}) h = subst (λ (x : Run). Leads ch max x r) (sym (turned-stays ch max r h)) here
  turn-leads (after l) h = l

  -- Where a turn changes nothing, this is the machine.
  pub stays : {r q : Run} → Leads ch max r q → turned ch max r ≡ r → r ≡ q
  stays here h = refl
  stays (after l) h = sym h ∙ stays l (ap (turned ch max) h)

  -- No event is taken back.
  pub takes-more : {r q : Run} → Leads ch max r q → length r.settled ≤ length q.settled
  takes-more here = omega arith
  takes-more (after {r = r} l) = omega (arith, noted_more (next_event r.machine) r.settled, takes-more l)
