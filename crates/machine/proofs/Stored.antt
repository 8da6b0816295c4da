-- One component of a machine at work: what is stored of it, and a change of that in place.
use mathlib.Core.Path.{◌≡◌, refl, sym, ap, ◌∙◌}
use mathlib.Core.Bool.{Bool, false}
use mathlib.Core.List.{List}
use Prim.Native.Nat.{ℕ, ◌≤◌, ◌<◌}
use native.Mathlib.Omega.{arith}
use lib.ListN.{get_or, set, length-set}
use lib.Seq.{set-get_or}
use Rattle.store.specs.Flags.{flags}
use Rattle.store.proofs.Set.{length-flags}
use Rattle.store.specs.declared.Status.{Status}
use Rattle.store.specs.Stored.{unset}
use Rattle.machine.specs.declared.ComponentStatus.{ComponentStatus}
use Rattle.machine.specs.declared.Work.{Work}
use Rattle.machine.specs.Status.{status_at, touch}
use Rattle.machine.specs.View.{stay, status_of, statuses_of, statuses_are, core_of, Sized, Ran}
use Rattle.machine.proofs.Laws.{at-view, change-view}
use Rattle.machine.proofs.Runs.{rot_is, ran-rot}

module _ (n : ℕ) (w : Work) (p : ℕ) (sized : Sized w.rot) (few : n ≤ 255) (h : p < n) where
  pub stored_at : status_at (statuses_of n w.rot) p ≡ status_of (get_or (flags w.rot.isolated) p false) (get_or w.rot.statuses p unset)
  unfolding statuses_of
  stored_at =
      let full = sized.statuses in
      let bits = length-flags w.rot.isolated sized.words in
      at-view n (flags w.rot.isolated) w.rot.statuses p h (omega arith) (omega arith)

  -- What is stored changes by g, where f says the same of a status.
  pub ran-change : (f : ComponentStatus → ComponentStatus) (g : Status → Status) → ((b : Bool) (s : Status) → status_of b (g s) ≡ f (status_of b s))
      → {x : Status} → x ≡ g (get_or w.rot.statuses p unset)
      → Ran n w (stay (statuses_are (touch f (statuses_of n w.rot) p) (core_of n w)))
      (rot_is (record { statuses = set w.rot.statuses p x; isolated = w.rot.isolated; cursor = w.rot.cursor; pending_commit = w.rot.pending_commit }) w)
  unfolding statuses_of
  ran-change f g same {x} is =
      let bs = flags w.rot.isolated in
      let full = sized.statuses in
      let bits = length-flags w.rot.isolated sized.words in
      ran-rot refl
      (ap (λ (st : List ComponentStatus). statuses_are st (core_of n w))
      (change-view n bs w.rot.statuses (omega arith) (omega arith) p f g (get_or bs p false) (sym (set-get_or bs p false)) is (same (get_or bs p false)) h))
      (λ fit. record { clean = fit.clean; low = fit.low })
      (λ places. record { statuses = length-set w.rot.statuses p x ∙ places.statuses; words = places.words })
