-- `gate_at` meets its contract: nothing where the component is isolated; else the set and what is stored at p change together, and
-- two effects follow.
use Rattle.std.proofs.Common.{◌≡◌, ℕ, ◌≤◌, ◌<◌, Bool, true, false, ap, sym, refl, ◌∙◌, List, get_or, drop, length, length-set, rules, arith}
use Rattle.std.proofs.Math.Seq.{drop-set-lt}
use Rattle.store.specs.Flags.{flags}
use Rattle.store.proofs.Set.{length-flags}
use Rattle.store.specs.Stored.{off}
use Rattle.components.specs.Chain.{entries_of}
use Rattle.machine.specs.declared.ComponentStatus.{ComponentStatus}
use Rattle.machine.specs.declared.Rot.{Rot}
use Rattle.machine.specs.Status.{status_at, iso, is_isolated}
use Rattle.machine.specs.View.{lifecycle_of, statuses_of, statuses_are, core_of, Sized}
use Rattle.machine.proofs.Laws.{change-view, length-statuses, seen-at}
use Rattle.machine.proofs.Runs.{ran-none, ran-as, ran-emit, ran-rot}
use Rattle.holds.specs.Holds.{isolate}
use Rattle.holds.proofs.Steps.{gate-again, gate-new}
use Rattle.holds.proofs.gate_at.Goals as goal

told : (b : Bool) → is_isolated (lifecycle_of b) ≡ b
told true = refl
told false = refl

-- The set says who is isolated.
seen : (n : ℕ) (r : Rot) (p : ℕ) → n ≤ 255 → Sized r → p < n → iso (status_at (statuses_of n r) p) ≡ get_or (flags r.isolated) p false
seen n r p low sized h = ap iso (seen-at n r p (length-statuses n r low sized) h) ∙ told _

pub returns-then-contains : goal.returns-then-contains
returns-then-contains g c =
    let ch = entries_of (g.L.HasList.list_of c.args.chain.now) in
    let w = c.args.w.now in
    let low = rw c.size-n.ensures.0 at c.size-n.ensures.1 in
    let full : length w.rot.statuses ≡ 255 = search rules in
    let sized : Sized w.rot = record { statuses = full; words = c.contains.ensures.1 } in
    ran-as (gate-again ch c.args.p (core_of (length ch) w) (seen (length ch) w.rot c.args.p low sized c.requires ∙ sym c.contains.ensures.0 ∙ c.if-contains.true)) ran-none

pub returns : goal.returns
unfolding statuses_of
returns g c =
    let ch = entries_of (g.L.HasList.list_of c.args.chain.now) in
    let n = length ch in
    let w = c.args.w.now in
    let p = c.args.p in
    let low = rw c.size-n.ensures.0 at c.size-n.ensures.1 in
    let full : length w.rot.statuses ≡ 255 = search rules in
    let sized : Sized w.rot = record { statuses = full; words = c.contains.ensures.1 } in
    let shown = seen n w.rot p low sized c.requires ∙ sym c.contains.ensures.0 in
    let bits = length-flags w.rot.isolated sized.words in
    let now-in = c.insert-w.ensures in
    ran-as (gate-new ch p (core_of n w) _ c.id_at-id.ensures (shown ∙ c.if-contains.false))
    (ran-emit _ (ran-emit _
    (ran-rot refl
    (ap (λ (st : List ComponentStatus). statuses_are st (core_of n w))
    (change-view n (flags w.rot.isolated) w.rot.statuses (omega arith) (omega arith) p isolate off true now-in c.off-held.ensures (λ s. refl) c.requires))
    (λ fit. record { clean = ap (drop n) now-in ∙ drop-set-lt n (flags w.rot.isolated) p true (omega arith) ∙ fit.clean; low = fit.low })
    (λ sized. record { statuses = length-set w.rot.statuses p c.off-held.result ∙ sized.statuses; words = search rules }))
    c.emit.ensures) c.emit-2.ensures)
