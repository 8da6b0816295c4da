-- What `check` and `run` answer, by the questions that refuse a sheet: question 1, questions 2 to 6, or none of them.
use Rattle.std.specs.Prelude.{Result, Ok, Err}
use mathlib.Core.Path.{◌≡◌, refl, sym, ap, ◌∙◌}
use mathlib.Core.Bool.{Bool, true, false}
use mathlib.Core.List.{List, []}
use Prim.Native.Nat.{ℕ}
use native.Mathlib.Omega.{arith}
use borrow.Author.Tests.{eq-eqb, ne_eqb}
use lib.Dec.{eqb}
use lib.ListN.{length}
use Rattle.model.specs.Vocabulary.{pick}
use Rattle.components.specs.declared.ComponentList.{ComponentList}
use Rattle.components.specs.declared.ChainError.{ChainError}
use Rattle.components.specs.declared.ChainError.TheVariants.{Empty, TooLong, DuplicateId, UnknownDependency, ForwardDependency}
use Rattle.components.specs.Chain.{entries_of, verdict_of, answer_of, Verdict, no_refusal}
use Rattle.text.specs.Lines.{over}
use Rattle.settling.specs.declared.whole.Machine.{Machine}
use Rattle.sm.specs.Calls.{start_of}
use Rattle.sm.specs.Gives.{Fresh}
use Rattle.reader.specs.declared.Sheet.{Sheet}
use Rattle.reader.specs.declared.BadSheet.{BadSheet}
use Rattle.reader.specs.Read.{rows_in, bad_line, cards_in, no_lines, Whole, Bad}
use Rattle.reader.proofs.Good.{retry-whole}
use Rattle.reader.proofs.Kept.{kept-cards, kept-verdict}
use Rattle.driver.specs.declared.End.{End}
use Rattle.driver.specs.declared.RunError.{RunError}
use Rattle.driver.specs.Run.{Entry, Progress, transcript, start_point, run_from}
use Rattle.driver.specs.Seen.{number_in, place_in, run_on, Ran}
use Rattle.sheet.specs.declared.Answer.{Answer}
use Rattle.sheet.specs.declared.Refusal.TheVariants as R
use Rattle.sheet.specs.Sheet.{chain_in, verdict_in, Outcome, check_of, progress_of, ended, run_of, numbers_of, RunGives}
use Rattle.sheet.specs.Refused.{told, outcome_of}

-- A call that has written and settled nothing.
abbrev nothing : ℕ → ℕ → ℕ → Outcome
nothing n p q = record { number = n; place = p; other = q; settled = 0; said = [] }

nothing-numbers : (n p q : ℕ) → numbers_of (nothing n p q) ≡ record { number = n; place = p; other = q; written = 0; settled = 0 }
unfolding numbers_of transcript
nothing-numbers n p q = refl

-- Every refusal has a number.
refused-some : (e : ChainError) → (answer_of (Err e)).number ≡ 0 → ⊥
refused-some Empty h = omega arith
refused-some TooLong h = omega arith
refused-some (DuplicateId i) h = omega arith
refused-some (UnknownDependency i d) h = omega arith
refused-some (ForwardDependency i d) h = omega arith

module _ (s : List ℕ) where
  abbrev judged : Verdict → Outcome
  judged v = nothing (answer_of v).number (answer_of v).place (answer_of v).other

  check-bad : (bad_line s ≡ 0 → ⊥) → check_of s ≡ nothing 1 (bad_line s) 0
  unfolding check_of
  check-bad h = ap (λ (b : Bool). pick b (judged (verdict_in s)) (nothing 1 (bad_line s) 0)) (ne_eqb (bad_line s) 0 h)

  check-good : bad_line s ≡ 0 → check_of s ≡ judged (verdict_in s)
  unfolding check_of
  check-good h = ap (λ (b : Bool). pick b (judged (verdict_in s)) (nothing 1 (bad_line s) 0)) (eq-eqb (bad_line s) 0 h)

  -- Question 1 refuses the sheet.
  module _ {before after : Sheet} (b : BadSheet) (g : Bad s before b after) where
    bad-check : check_of s ≡ nothing 1 b.line 0
    bad-check = check-bad (λ z. omega (arith, g.some, g.line)) ∙ ap (λ (n : ℕ). nothing 1 n 0) (sym g.line)

    pub bad-told : told (Err (R.BadLine b.line)) 0 0 ≡ numbers_of (check_of s)
    bad-told = sym (ap numbers_of bad-check ∙ nothing-numbers 1 b.line 0)

    pub bad-number : (check_of s).number ≡ 0 → ⊥
    bad-number z = let one : ◌≡◌ {A = ℕ} 1 0 = sym (ap (λ (o : Outcome). o.number) bad-check) ∙ z in omega arith

  module _ (r : Sheet) (w : Whole s no_lines r) where
    verdict-here : verdict_of r.list.len (entries_of r.list) ≡ verdict_in s
    verdict-here = ap (λ (l : ComponentList). verdict_of l.len (entries_of l)) w.list ∙ kept-verdict (cards_in s)

    chain-here : entries_of r.list ≡ chain_in s
    chain-here = ap (λ (l : ComponentList). entries_of l) w.list ∙ kept-cards (cards_in s)

    -- What questions 2 to 6 answer.
    module _ (v : Verdict) (e : v ≡ verdict_of r.list.len (entries_of r.list)) where
      check-judged : check_of s ≡ judged v
      check-judged = check-good w.good ∙ ap judged (sym (e ∙ verdict-here))

      judged-told : record { number = (answer_of v).number; place = (answer_of v).place; other = (answer_of v).other; written = 0; settled = 0 } ≡ numbers_of (check_of s)
      judged-told = sym (ap numbers_of check-judged ∙ nothing-numbers (answer_of v).number (answer_of v).place (answer_of v).other)

      judged-number : (check_of s).number ≡ (answer_of v).number
      judged-number = ap (λ (o : Outcome). o.number) check-judged

    -- One of them refuses the sheet.
    module _ (f : ChainError) (e : Err f ≡ verdict_of r.list.len (entries_of r.list)) where
      pub refused-told : told (Err (R.Chain f)) 0 0 ≡ numbers_of (check_of s)
      refused-told = judged-told (Err f) e

      pub refused-number : (check_of s).number ≡ 0 → ⊥
      refused-number z = refused-some f (sym (judged-number (Err f) e) ∙ z)

    -- None does.
    module _ (e : no_refusal ≡ verdict_of r.list.len (entries_of r.list)) where
      pub accepted-told : told (Ok tt) 0 0 ≡ numbers_of (check_of s)
      accepted-told = judged-told no_refusal e

      pub accepted-number : (check_of s).number ≡ 0
      accepted-number = judged-number no_refusal e

    -- The run on the machine that is made of the list.
    pub progress-here : (room limit : ℕ) (m : Machine) → Fresh r.list r.max_retry m → run_on s room limit m ≡ progress_of s room limit
    unfolding progress_of start_point
    progress-here room limit m f =
        let chain = f.chain ∙ chain-here in
        let retry = f.max_retry ∙ retry-whole s r w in
        let machine = f.machine ∙ ap start_of chain-here in
        λ j. run_from (record { chain = chain j; max_retry = retry j; limit = limit }) room record { machine = machine j; rows = rows_in s; line = 1; work = 0; settled = 0; told = 0; going = true; number = 0; place = 0 }

-- ---- Runs

-- The numbers of how a run ended.
outcome-told : (o : Result (Unit {0}) RunError) (w n : ℕ) → told (outcome_of o) w n ≡ record { number = number_in o; place = place_in o; other = 0; written = w; settled = n }
outcome-told (Ok u) w n = refl
outcome-told (Err e) w n = refl

module _ (s out : List ℕ) (limit : ℕ) where
  abbrev whole : Outcome
  whole = ended (progress_of s (length out) limit)

  said-none : (check_of s).said ≡ []
  unfolding check_of
  said-none = pick-none (eqb (bad_line s) 0)
    where
      pick-none : (b : Bool) → (pick b (judged s (verdict_in s)) (nothing 1 (bad_line s) 0)).said ≡ []
      pick-none true = refl
      pick-none false = refl

  -- Questions 1 to 6 refuse the sheet: nothing is written.
  pub refused-run : ((check_of s).number ≡ 0 → ⊥) → (r : Answer) → r ≡ numbers_of (check_of s) → RunGives s out limit r out
  unfolding run_of numbers_of over transcript
  refused-run h r e =
      let x : run_of s (length out) limit ≡ check_of s = ap (λ (b : Bool). pick b whole (check_of s)) (ne_eqb (check_of s).number 0 h) in
      record {
        numbers = e ∙ sym (ap numbers_of x);
        buffer = ap (λ (es : List Entry). over out (transcript es)) (sym (ap (λ (o : Outcome). o.said) x ∙ said-none));
        within = let none : r.written ≡ 0 = ap (λ (a : Answer). a.written) e ∙ ap (λ (es : List Entry). length (transcript es)) said-none in omega (arith, none);
        ended = λ z. absurd (h z);
      }

  -- None of them does.
  pub ended-run : (check_of s).number ≡ 0 → (x : Progress) → x ≡ progress_of s (length out) limit → (e : End) (exit : List ℕ) → Ran out x e exit
      → RunGives s out limit (told (outcome_of e.outcome) e.written e.settled) exit
  unfolding run_of numbers_of
  ended-run h x p e exit g =
      let o : run_of s (length out) limit ≡ ended x = ap (λ (b : Bool). pick b whole (check_of s)) (eq-eqb (check_of s).number 0 h) ∙ ap (λ (y : Progress). ended y) (sym p) in
      record {
        numbers =
            outcome-told e.outcome e.written e.settled
            ∙ (λ j. record { number = g.number j; place = g.place j; other = 0; written = g.written j; settled = g.settled j }) ∙ sym (ap numbers_of o);
        within = omega (arith, g.written, g.within);
        buffer = g.buffer ∙ ap (λ (y : Outcome). over out (transcript y.said)) (sym o);
        ended = λ z. ap (λ (y : Progress). y.point.going) (sym p) ∙ g.ended;
      }
