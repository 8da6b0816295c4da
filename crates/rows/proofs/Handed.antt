-- A run is tied to the history of its calls: every step keeps that, and how it stops tells what it leaves unwritten. A
-- history of the code's own calls answers as the definitions do, so that this and demand 3 hold of it.
use Rattle.std.specs.Prelude.{None, Ok, Err, Option}
use mathlib.Core.Path.{◌≡◌, refl, sym, subst, ap, ◌∙◌}
use mathlib.Core.Logic.{inl, inr, ⊎_elim}
use mathlib.Core.Bool.{Bool, true, false}
use mathlib.Core.List.{List, [], ◌∷◌, ◌++◌, append-nil}
use Prim.Native.Nat.{ℕ, zero, suc, ◌+◌, ◌≤◌, ◌<◌}
use native.Mathlib.Omega.{arith}
use borrow.Author.Tests.{leb-true, leb-false}
use lib.Dec.{eqb, leb}
use lib.ListN.{length, length-append, length-take}
use Rattle.model.specs.Vocabulary.{pick}
use Rattle.model.specs.declared.Component.{Component}
use Rattle.model.specs.declared.Effect.{Effect}
use Rattle.model.proofs.Pick.{pick_p}
use Rattle.components.specs.declared.ComponentList.{ComponentList}
use Rattle.components.specs.declared.ChainError.TheVariants.{Empty, TooLong, DuplicateId, UnknownDependency, ForwardDependency}
use Rattle.components.specs.Chain.{no_entries, answer_of, Verdict, no_refusal}
use Rattle.sm.specs.Calls.{start_of}
use Rattle.lines.specs.declared.Row.{Row}
use Rattle.reader.specs.Read.{bad_line, rows_in, retry_in, cards_in, pushed_all}
use Rattle.reader.proofs.Kept.{kept-cards, kept-verdict}
use Rattle.driver.specs.Run.{Entry, Setting, Step, Progress, start_point, stopped, transcript, step_from, recorded, steps, to_do, run_from}
use Rattle.driver.proofs.Going.{transcript-append}
use Rattle.sheet.specs.Sheet.{chain_in, verdict_in, Outcome, check_of, progress_of, ended, run_of}
use Rattle.history.specs.History.{Call, machine_after, answers_to, log_of}
use Rattle.history.specs.Demand.{Demand3}
use Rattle.history.proofs.Theorem.{demand-3}
use Rattle.history.proofs.Exists.{not-empty}
use Rattle.rows.specs.Handed.{call_at, calls_in, calls_from, calls_of, effects_in, handed_out, call_lines, Granted, FirstEffects, FirstLines, Counted, unfit, Tied, RunsTied, XLines, Transcripts}
use Rattle.rows.proofs.RunsEnd.{runs-end, Fits, step_fits, start_fits}
use Rattle.rows.proofs.HandedCalls.{effects-append, last, log, lines, Effects}
use Rattle.rows.proofs.HandedSteps.{one-effect, ends-quiet, goes, ends, Standing, effects-at, Spoken, Stopped, After, step}

-- Two choices by one test.
pick-both : {A B : Type 0} (P : A → B → Type 0) (t : Bool) {a c : A} {b d : B} → (t ≡ true → P a b) → (t ≡ false → P c d)
    → P (pick t a c) (pick t b d)
pick-both P true h k = h refl
pick-both P false h k = k refl

-- ---- A run

module _ (s : Setting) (n255 : length s.chain ≤ 255) (room : ℕ) where
  -- What is said of a run that gave this after the calls ks.
  record Done (o : Outcome) (ks : List Call) : Type 0 where
    granted : Granted (answers_to s.chain s.max_retry ks)
    rested : o.number ≡ 0 → (last s ks).waiting ≡ None
    effects : FirstEffects o (log s ks)
    lines_of : FirstLines o room (lines s ks) (ends s ks)
    count : Counted o s.limit (log s ks)

  -- And as long as it goes on, where it stands.
  record Stays (p : Progress) (ks : List Call) : Type 0 where
    here : Standing s p.point p.said ks
    machine : Fits s n255 p.point.machine
    room_for : length (transcript p.said) ≤ room

  record Onward (p : Progress) (ks : List Call) : Type 0 where
    stands : p.point.going ≡ true → Stays p ks
    stops : p.point.going ≡ false → Done (ended p) ks

  -- The effects of the lines that are not written are those handed out without an X line.
  effects-split : (ks : List Call) (said rest : List Entry) → Effects s ks → lines s ks ++ ends s ks ≡ said ++ rest
      → handed_out (log s ks) ≡ effects_in said ++ effects_in rest
  effects-split ks said rest x e =
      x.handed ∙ sym (append-nil (effects_in (lines s ks)))
      ∙ ap (λ (xs : List Effect). effects_in (lines s ks) ++ xs) (sym (ends-quiet s ks))
      ∙ sym (effects-append (lines s ks) (ends s ks)) ∙ ap effects_in e ∙ effects-append said rest

  -- It stops with 0, 7 or 9.
  stopped-done : (o : Outcome) (ks : List Call) → Effects s ks → o.settled ≤ s.limit
      → length (transcript o.said) ≤ room → Stopped s o.settled o.number o.said ks → Done o ks
  stopped-done o ks x low fits h = record {
    granted = x.granted;
    rested = λ z. h.rested (λ k. absurd (omega (arith, z, k)));
    effects = record {
      rest = effects_in h.rest;
      first = effects-split ks o.said h.rest x h.first;
      few = omega (arith, h.one);
      all = λ n8 n9. h.none n9;
    };
    lines_of = record { rest = h.rest; first = h.first; few = h.few; fits = fits; ends = h.left room };
    count = record { same = λ n9. (h.same n9, omega (arith, h.same n9, low)); past = h.past };
  }

  -- Or with 8, since the line that a step writes does not fit.
  full-done : (es : List Entry) (ks : List Call) (t : Step) → Effects s ks → t.point.settled ≤ s.limit
      → length (transcript es) ≤ room → room < length (transcript es) + length (transcript t.said) → Spoken s es ks t
      → Done (ended record { point = stopped 8 0 t.point; said = es }) ks
  full-done es ks t x low short long h =
      let e : Entry = h.line in
      let size : length (transcript (es ++ (e ∷ []))) ≡ length (transcript es) + length (transcript t.said) =
      ap length (transcript-append es (e ∷ [])) ∙ length-append (transcript es) (transcript (e ∷ []))
      ∙ ap (λ (l : List Entry). length (transcript es) + length (transcript l)) (sym h.this) in
      record {
        granted = x.granted;
        rested = λ z. absurd (omega (arith, z));
        effects = record {
          rest = effects_in (e ∷ h.rest);
          first = effects-split ks es (e ∷ h.rest) x h.first;
          few = one-effect e h.rest h.quiet;
          all = λ n8 n9. absurd (n8 refl);
        };
        lines_of = record {
          rest = e ∷ h.rest;
          first = h.first;
          few = omega (arith, h.few);
          fits = short;
          ends = unfit e h.rest (omega (arith, long, size));
        };
        count = record { same = λ n9. (h.count, omega (arith, h.count, low)); past = λ k. absurd (omega (arith, k)) };
      }

  -- What a step says is written where it fits; a step that says nothing always fits.
  writes : (es : List Entry) (ks : List Call) (t : Step) → length (transcript es) ≤ room → Fits s n255 t.point.machine
      → After s true es ks t → Onward (recorded room es t) ks
  unfolding recorded transcript
  writes es ks t short f a =
      let x : Effects s ks = effects-at s t.point (es ++ t.said) ks a.stands in
      let both : ℕ = length (transcript es) + length (transcript t.said) in
      let size : length (transcript (es ++ t.said)) ≡ both =
      ap length (transcript-append es t.said) ∙ length-append (transcript es) (transcript t.said) in
      let next : Progress = record { point = t.point; said = es ++ t.said } in
      pick_p (λ (p : Progress). Onward p ks) (leb both room)
      (λ b. let fits : length (transcript (es ++ t.said)) ≤ room = omega (arith, size, leb-true both room b) in
      record {
        stands = λ g. record { here = a.stands; machine = f; room_for = fits };
        stops = λ g.
            stopped-done (ended next) ks x a.stands.low fits (a.stops refl g);
      })
      (λ b.
      let long : room < both = leb-false both room b in
      record {
        stands = λ g. goes g refl;
        stops = λ g. ⊎_elim (λ e. absurd (omega (arith, short, long, ap (λ (l : List Entry). length (transcript l)) e)))
            (λ h. full-done es ks t x a.stands.low short long h) a.speaks;
      })

  walk : (n : ℕ) (p : Progress) (ks : List Call) → Onward p ks → Onward (steps s room n p) (calls_in s room n p ks)
  unfolding steps calls_in
  walk zero p ks h = h
  walk (suc n) p ks h =
      let t : Step = step_from s p.point in
      let js : List Call = call_at p.point ++ ks in
      pick-both Onward p.point.going
      (λ g.
      let k : Stays p ks = h.stands g in
      walk n (recorded room p.said t) js
      (writes p.said js t k.room_for (step_fits s n255 p.point k.machine)
      (subst (λ (b : Bool). After s b p.said js t) g (step s p.said ks p.point k.here k.machine.statuses))))
      (λ g. h)

  -- Before the first line nothing is called, written or to come.
  starts : (rs : List (Option Row)) → Onward record { point = start_point s.chain rs; said = [] } []
  unfolding start_point start_of machine_after log_of answers_to call_lines handed_out effects_in transcript
  starts rs = record {
    stands = λ g. record {
      here = record {
        line = omega arith;
        low = omega arith;
        here = inr (
          refl,
          record {
            idle = (refl, (refl, refl, refl));
            through = record { machine = refl; count = refl };
            written = refl;
            early = inl (refl, refl);
            effects = record { granted = tt; handed = refl };
          },
        );
      };
      machine = start_fits s n255 rs;
      room_for = omega arith;
    };
    stops = λ g. goes refl g;
  }

  whole : (rs : List (Option Row))
      → Onward (run_from s room (start_point s.chain rs)) (calls_from s room (start_point s.chain rs))
  unfolding run_from
  whole rs =
      walk (suc (to_do s (start_point s.chain rs))) record { point = start_point s.chain rs; said = [] } [] (starts rs)

-- ---- The theorems

run_is : (s : List ℕ) (room limit : ℕ) → (check_of s).number ≡ 0 → run_of s room limit ≡ ended (progress_of s room limit)
unfolding run_of
run_is s room limit h = ap (λ (n : ℕ). pick (eqb n 0) (ended (progress_of s room limit)) (check_of s)) h

pub runs-tied : RunsTied
unfolding progress_of calls_of
runs-tied s room limit h =
    let t : Setting = record { chain = chain_in s; max_retry = retry_in s; limit = limit } in
    let ks : List Call = calls_of s room limit in
    let n255 : length (chain_in s) ≤ 255 = omega (arith, length-take 255 (cards_in s)) in
    let d : Done t n255 room (run_of s room limit) ks =
    subst (λ (o : Outcome). Done t n255 room o ks) (sym (run_is s room limit h))
    ((whole t n255 room (rows_in s)).stops (runs-end s room limit)) in
    record { granted = d.granted; rested = d.rested; effects = d.effects; lines = d.lines_of; settled = d.count }

pub x-lines : XLines
x-lines s room limit h = (runs-tied s room limit h).effects

-- Number 0 is the answer to an accepted chain alone.
no_number : (v : Verdict) → (answer_of v).number ≡ 0 → v ≡ no_refusal
no_number (Ok u) h = refl
no_number (Err Empty) h = absurd (omega (arith, h))
no_number (Err TooLong) h = absurd (omega (arith, h))
no_number (Err (DuplicateId i)) h = absurd (omega (arith, h))
no_number (Err (UnknownDependency i d)) h = absurd (omega (arith, h))
no_number (Err (ForwardDependency i d)) h = absurd (omega (arith, h))

passed : (s : List ℕ) → (check_of s).number ≡ 0 → verdict_in s ≡ no_refusal
unfolding check_of
passed s =
    pick_p (λ (o : Outcome). o.number ≡ 0 → verdict_in s ≡ no_refusal) (eqb (bad_line s) 0) (λ t h. no_number (verdict_in s) h)
    (λ t h. absurd (omega (arith, h)))

pub transcripts-demanded : Transcripts
transcripts-demanded s room limit h =
    let l : ComponentList = pushed_all no_entries (cards_in s) in
    let ks : List Call = calls_of s room limit in
    record {
      every = λ rs m f.
          let d : Demand3 (chain_in s) (retry_in s) ks rs =
          subst (λ (ch : List Component). Demand3 ch (retry_in s) ks rs) (kept-cards (cards_in s))
          (demand-3 l (retry_in s) ks rs m f) in
          (d, subst (Tied s room limit) (sym d.answers) (runs-tied s room limit h));
      some = not-empty l (retry_in s) ks (kept-verdict (cards_in s) ∙ passed s h);
    }
