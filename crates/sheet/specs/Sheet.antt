-- Section 5 and questions 1 to 9: what `check` and `run` answer to a sheet.
use Rattle.std.specs.Prelude.{◌≡◌, false, List, [], ℕ, ◌≤◌, eqb, length, take}
use Rattle.model.specs.Vocabulary.{pick}
use Rattle.model.specs.declared.Component.{Component}
use Rattle.components.specs.Chain.{verdict_of, answer_of, Verdict}
use Rattle.text.specs.Lines.{over}
use Rattle.reader.specs.Read.{rows_in, bad_line, retry_in, cards_in}
use Rattle.driver.specs.Run.{Entry, transcript, Progress, start_point, run_from}
use Rattle.sheet.specs.declared.Answer.{Answer}

-- The chain: the components of the C lines. Of more than 255, which question 3 refuses, the first 255 are kept.
abbrev pub chain_in : List ℕ → List Component
chain_in s = take 255 (cards_in s)

-- Questions 2 to 6.
abbrev pub verdict_in : List ℕ → Verdict
verdict_in s = verdict_of (length (cards_in s)) (chain_in s)

-- What a call makes of a sheet: a number, two places, events settled, and the lines of the transcript.
pub record Outcome : Type 0 where
  pub number : ℕ
  pub place : ℕ
  pub other : ℕ
  pub settled : ℕ
  pub said : List Entry

-- Questions 1 to 6: they write and settle nothing.
unfoldable pub check_of : List ℕ → Outcome
check_of s =
    pick (eqb (bad_line s) 0)
    (record { number = (answer_of (verdict_in s)).number; place = (answer_of (verdict_in s)).place; other = (answer_of (verdict_in s)).other; settled = 0; said = [] })
    (record { number = 1; place = bad_line s; other = 0; settled = 0; said = [] })

-- The run of a sheet that none of them refuses: with so much room, up to a limit.
unfoldable pub progress_of : List ℕ → ℕ → ℕ → Progress
progress_of s room limit = run_from (record { chain = chain_in s; max_retry = retry_in s; limit = limit }) room (start_point (chain_in s) (rows_in s))

abbrev pub ended : Progress → Outcome
ended p = record { number = p.point.number; place = p.point.place; other = 0; settled = p.point.settled; said = p.said }

unfoldable pub run_of : List ℕ → ℕ → ℕ → Outcome
run_of s room limit = pick (eqb (check_of s).number 0) (ended (progress_of s room limit)) (check_of s)

-- The five numbers of an outcome.
unfoldable pub numbers_of : Outcome → Answer
numbers_of o = record { number = o.number; place = o.place; other = o.other; written = length (transcript o.said); settled = o.settled }

-- A run answers the five numbers of its outcome, and the buffer is as it was but for the transcript at its start, which is no
-- longer than the buffer. A run that was not refused by questions 1 to 6 has ended: the outcome is not one that was cut off.
pub record RunGives (s out : List ℕ) (limit : ℕ) (r : Answer) (exit : List ℕ) : Type 0 where
  pub numbers : r ≡ numbers_of (run_of s (length out) limit)
  pub buffer : exit ≡ over out (transcript (run_of s (length out) limit).said)
  pub within : r.written ≤ length out
  pub ended : (check_of s).number ≡ 0 → (progress_of s (length out) limit).point.going ≡ false
