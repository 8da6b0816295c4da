-- `advance_to_next_ungated` meets its contract: the search over the set is the search over the statuses.
use Rattle.std.proofs.Common.{◌≡◌, ℕ, ◌≤◌, length, refl, sym, ap, ◌∙◌, arith}
use Rattle.model.specs.declared.Effect.TheVariants.{ReadFirmware, VerifyFirmware}
use Rattle.components.specs.Chain.{entries_of, id_at}
use Rattle.store.specs.Flags.{flags, next_free}
use Rattle.store.proofs.Set.{length-flags, next-from, next-range}
use Rattle.holds.specs.Advance.{seek}
use Rattle.machine.specs.declared.Work.{Work}
use Rattle.machine.specs.View.{out, stay, core_of, cursor_at, statuses_of, Sized, Ran}
use Rattle.holds.proofs.Laws.{ahead-view}
use Rattle.machine.proofs.Runs.{rot_is, ran-rot, ran-as, ran-emit}
use Rattle.holds.proofs.Steps.{verify-found, verify-none}
use Rattle.holds.proofs.advance_to_next_ungated.Goals as goal

module _ (n : ℕ) (w : Work) (p q : ℕ) (sized : Sized w.rot) (low : n ≤ 255) (h : p ≤ n) (e : q ≡ next_free (flags w.rot.isolated) p n) where
  -- What the set's search finds is what the definition seeks.
  found : q ≡ seek (statuses_of n w.rot) p
  unfolding statuses_of
  found =
      let r = w.rot in
      let full = sized.statuses in
      let bits = length-flags r.isolated sized.words in
      e ∙ next-from (flags r.isolated) p n h ∙ sym (ahead-view n (flags r.isolated) r.statuses (omega arith) (omega arith) p)

  -- The cursor is there, and it is in the chain or at its end.
  went : Ran n w (stay (cursor_at (seek (statuses_of n w.rot) p) (core_of n w)))
      (rot_is (record { statuses = w.rot.statuses; isolated = w.rot.isolated; cursor = q; pending_commit = w.rot.pending_commit }) w)
  unfolding statuses_of
  went =
      ran-rot refl (ap (λ (j : ℕ). cursor_at j (core_of n w)) found)
      (λ fit. record { clean = fit.clean; low = omega (arith, e, (next-range (flags w.rot.isolated) p n h).1) })
      (λ places. record { statuses = places.statuses; words = places.words })

pub returns-then-next-n : goal.returns-then-next-n
returns-then-next-n g c =
    let a = c.args in
    let ch = entries_of (g.L.HasList.list_of a.chain.now) in
    let w = a.w.now in
    let n = length ch in
    let q = c.next_free-next.result in
    let e = rw c.size-n.ensures.0 at c.next_free-next.ensures in
    let low : n ≤ 255 = rw c.size-n.ensures.0 at c.size-n.ensures.1 in
    let sized = c.requires.1 in
    let f = found n w a.p q sized low c.requires.0 e in
    let aim = seek (statuses_of n w.rot) a.p in
    ran-as (ap (out (cursor_at aim (core_of n w))) (verify-found ch aim c.id_at-id.result (c.id_at-id.ensures ∙ ap (id_at ch) f) (omega arith)))
    (ran-emit (VerifyFirmware c.id_at-id.result) (ran-emit (ReadFirmware c.id_at-id.result) (went n w a.p q sized low c.requires.0 e) c.emit.ensures) c.emit-then-next-n.ensures)

pub returns-else-next-n : goal.returns-else-next-n
returns-else-next-n g c =
    let a = c.args in
    let ch = entries_of (g.L.HasList.list_of a.chain.now) in
    let w = a.w.now in
    let n = length ch in
    let q = c.next_free-next.result in
    let e = rw c.size-n.ensures.0 at c.next_free-next.ensures in
    let low : n ≤ 255 = rw c.size-n.ensures.0 at c.size-n.ensures.1 in
    let sized = c.requires.1 in
    let f = found n w a.p q sized low c.requires.0 e in
    let aim = seek (statuses_of n w.rot) a.p in
    ran-as (ap (out (cursor_at aim (core_of n w))) (verify-none ch aim (omega arith))) (went n w a.p q sized low c.requires.0 e)
