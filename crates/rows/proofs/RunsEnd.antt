-- Every run ends, whatever the room and the limit: a run has more steps than there is to do, and each step leaves less to do.
-- For that at most 512 effects may be left, which is so since one event hands out at most 2 N + 1, with N at most 255.
use Rattle.std.specs.Prelude.{Option, None, Some}
use mathlib.Core.Path.{◌≡◌, refl, ap, ◌∙◌}
use mathlib.Core.Bool.{Bool, true, false}
use mathlib.Core.List.{List, [], ◌∷◌}
use Prim.Native.Nat.{ℕ, zero, suc, ◌+◌, ◌≤◌, ◌<◌}
use native.Mathlib.Omega.{arith}
use lib.Dec.{eqb, leb, ltb}
use lib.ListN.{length, length-take, length-replicate}
use Rattle.model.specs.declared.Component.{Component}
use Rattle.model.specs.declared.Event.{Event}
use Rattle.model.specs.declared.Effect.{Effect}
use Rattle.model.proofs.Pick.{pick_p}
use Rattle.pending.specs.Queue.{has_room, emits}
use Rattle.machine.specs.Status.{fresh}
use Rattle.rot.proofs.Bound.{step-length}
use Rattle.settling.specs.declared.Reply.{Reply}
use Rattle.settling.specs.declared.Reply.TheVariants.{Done, Then, Failed}
use Rattle.settling.specs.Settle.{Model, waiting_is, left_is, enqueue, replied, hand_out, turn_by, turn_of}
use Rattle.sm.specs.Calls.{start_of}
use Rattle.lines.specs.declared.Row.{Row}
use Rattle.lines.specs.declared.Row.TheVariants.{Retry, Card, Begin, Answer}
use Rattle.reader.specs.Read.{rows_in, cards_in}
use Rattle.driver.specs.declared.Stage.{Stage}
use Rattle.driver.specs.declared.Stage.TheVariants.{Waits, HandsOut, Takes, Rests}
use Rattle.driver.specs.Run.{Entry, Setting, Point, Step, Progress, start_point, answering, reading, transcript, stage_of, step_by, step_from, recorded, steps, to_do, run_from}
use Rattle.driver.proofs.Less.{step_less}
use Rattle.history.proofs.Few.{Reached, step-reached, step-few, start-reached}
use Rattle.sheet.specs.Sheet.{progress_of}
use Rattle.rows.specs.Handed.{RunsEnd}

module _ (s : Setting) (n255 : length s.chain ≤ 255) where
  abbrev ch : List Component
  ch = s.chain

  abbrev max : ℕ
  max = s.max_retry

  -- ---- The machine

  -- A status for each component, a state that the chain reaches, and at most 512 effects left.
  pub record Fits (m : Model) : Type 0 where
    pub statuses : length m.core.statuses ≡ length ch
    pub reached : Reached ch m.core.state
    pub few : length m.left ≤ 512

  -- No more effects are left than before.
  shorter : (m : Model) (es : List Effect) (w : Option Effect) (q : List Event) (f : Bool) → length es ≤ length m.left → Fits m
      → Fits record { core = m.core; waiting = w; left = es; queue = q; failed = f }
  shorter m es w q f l h = record { statuses = h.statuses; reached = h.reached; few = omega (arith, l, h.few) }

  enqueue-fits : (e : Event) (m : Model) → Fits m → Fits (enqueue e m)
  enqueue-fits e m h =
      pick_p Fits (has_room m.queue) (λ t. shorter m m.left _ _ _ (omega arith) h)
      (λ t. pick_p Fits m.failed (λ u. h) (λ u. shorter m [] _ _ _ (omega arith) h))

  replied-fits : (a : Reply) (m : Model) → Fits m → Fits (replied a m)
  replied-fits Done m h = h
  replied-fits (Then e) m h = enqueue-fits e m h
  replied-fits Failed m h =
      pick_p Fits m.failed (λ t. shorter m [] _ _ _ (omega arith) h) (λ t. shorter m [] _ _ _ (omega arith) h)

  hand-fits : (x : Effect) (es : List Effect) (m : Model) (o : Option Event) → length es ≤ length m.left → Fits m
      → Fits (hand_out x es m o)
  hand-fits x es m None l h = shorter m es (Some x) _ _ l h
  hand-fits x es m (Some e) l h = enqueue-fits e (left_is es m) (shorter m es _ _ _ l h)

  turn-fits-by : (m : Model) (w : Option Effect) (es : List Effect) (q : List Event) → m.left ≡ es → Fits m
      → Fits (turn_by ch max m w es q)
  turn-fits-by m (Some x) es q l h = h
  turn-fits-by m None (x ∷ es) q l h = hand-fits x es m (emits x) (omega (arith, ap length l)) h
  turn-fits-by m None [] (e ∷ q) l h = record {
    statuses = step-length ch max m.core e h.statuses ∙ h.statuses;
    reached = step-reached ch max m.core e h.reached;
    few = omega (arith, n255, step-few ch max m.core e h.reached h.statuses);
  }
  turn-fits-by m None [] [] l h = shorter m m.left _ _ _ (omega arith) h

  turn-fits : (m : Model) → Fits m → Fits (turn_of ch max m)
  turn-fits m h = turn-fits-by m m.waiting m.left m.queue refl h

  -- ---- A step

  abbrev Kept : Step → Type 0
  Kept t = Fits t.point.machine

  answering-fits : (p : Point) (rs : List (Option Row)) → Fits p.machine → Fits (answering p rs).machine
  answering-fits p rs h = by_row rs
    where
      reply : (a : Reply) → Fits (replied a (waiting_is None p.machine))
      reply a =
          replied-fits a (waiting_is None p.machine)
          (shorter p.machine p.machine.left None _ _ (omega arith) h)

      by_row : (rs : List (Option Row)) → Fits (answering p rs).machine
      by_row [] = reply Done
      by_row (Some (Retry n) ∷ rs) = reply Done
      by_row (Some (Card c) ∷ rs) = reply Done
      by_row (Some (Begin e) ∷ rs) = reply Done
      by_row (Some (Answer a) ∷ rs) = reply a
      by_row (None ∷ rs) = reply Done

  reading-fits : (p : Point) (rs : List (Option Row)) → Fits p.machine → Kept (reading s p rs)
  reading-fits p [] h = pick_p Kept (ltb p.told (length ch)) (λ t. h) (λ t. h)
  reading-fits p (Some (Retry n) ∷ rs) h = h
  reading-fits p (Some (Card c) ∷ rs) h = h
  reading-fits p (Some (Begin e) ∷ rs) h = enqueue-fits e p.machine h
  reading-fits p (Some (Answer a) ∷ rs) h = h
  reading-fits p (None ∷ rs) h = h

  step-by-fits : (p : Point) (g : Stage) → Fits p.machine → Kept (step_by s p g)
  step-by-fits p Waits h = answering-fits p p.rows h
  step-by-fits p HandsOut h = turn-fits p.machine h
  step-by-fits p Takes h =
      pick_p (λ (q : Point). Fits q.machine) (leb s.limit p.settled) (λ t. h) (λ t. turn-fits p.machine h)
  step-by-fits p Rests h = pick_p Kept (eqb p.work 0) (λ t. reading-fits p p.rows h) (λ t. turn-fits p.machine h)

  pub step_fits : (p : Point) → Fits p.machine → Kept (step_from s p)
  unfolding step_from
  step_fits p h = step-by-fits p (stage_of p.machine) h

  pub start_fits : (rs : List (Option Row)) → Fits (start_point ch rs).machine
  unfolding start_point start_of
  start_fits rs = record { statuses = length-replicate (length ch) fresh; reached = start-reached ch; few = omega arith }

  -- ---- A run

  module _ (room : ℕ) where
    -- More than k steps are left, where the run goes on.
    record Enough (k : ℕ) (p : Progress) : Type 0 where
      machine : Fits p.point.machine
      less : p.point.going ≡ true → to_do s p.point < k

    records : (k : ℕ) (es : List Entry) (p : Point) → p.going ≡ true → Fits p.machine → to_do s p < suc k
        → Enough k (recorded room es (step_from s p))
    unfolding recorded
    records k es p g h l =
        let t : Step = step_from s p in
        pick_p (Enough k) (leb (length (transcript es) + length (transcript t.said)) room)
        (λ f. record { machine = step_fits p h; less = λ on. omega (arith, l, step_less s p (step_fits p h).few on) })
        (λ f. record { machine = step_fits p h; less = λ on. absurd cc })

    none_left : (b : Bool) (n : ℕ) → (b ≡ true → n < 0) → b ≡ false
    none_left true n h = absurd (omega (arith, h refl))
    none_left false n h = refl

    steps-end : (k : ℕ) (p : Progress) → Enough k p → (steps s room k p).point.going ≡ false
    unfolding steps
    steps-end zero p h = none_left p.point.going (to_do s p.point) h.less
    steps-end (suc k) p h =
        pick_p (λ (q : Progress). q.point.going ≡ false) p.point.going
        (λ g. steps-end k (recorded room p.said (step_from s p.point))
        (records k p.said p.point g h.machine (h.less g)))
        (λ g. g)

    run_ends : (rs : List (Option Row)) → (run_from s room (start_point ch rs)).point.going ≡ false
    unfolding run_from
    run_ends rs =
        steps-end (suc (to_do s (start_point ch rs))) record { point = start_point ch rs; said = [] }
        record { machine = start_fits rs; less = λ g. omega arith }

pub runs-end : RunsEnd
unfolding progress_of
runs-end s room limit = run_ends _ (omega (arith, length-take 255 (cards_in s))) room (rows_in s)
