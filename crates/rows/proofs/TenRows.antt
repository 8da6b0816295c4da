-- The ten rows are computed. A run's definition goes on for as many steps as could ever be needed, some 67 millions at the
-- limit of 65,536: so it is computed for 40 steps, and a law says that a run that has ended is the same after more.
use mathlib.Core.Path.{◌≡◌, refl, ap, ◌∙◌}
use mathlib.Core.Bool.{Bool, true, false}
use mathlib.Core.List.{List, [], ◌∷◌}
use Prim.Native.Nat.{ℕ, zero, suc, ◌≤◌}
use Prim.Native.String.{String}
use lib.ListN.{take}
use lib.Dec.{leb}
use borrow.Author.Tests.{leb-true}
use native.Mathlib.Omega.{arith}
use Rattle.text.specs.Text.{digits}
use Rattle.components.specs.Chain.{position, first_from}
use Rattle.holds.specs.Cascade.{below, children_in, children_of, spread, cascade}
use Rattle.holds.specs.Holds.{gates, gates_say}
use Rattle.holds.specs.Advance.{isolated_ahead, quiet_says}
use Rattle.rot.specs.Step.{step_of}
use Rattle.settling.specs.Settle.{turns, settle}
use Rattle.sm.specs.Calls.{begin_of, reply_of, start_of}
use Rattle.fields.specs.Fields.{place_of, same_bytes, before, after, digits_from, number_of, lookup}
use Rattle.events.specs.Read.{failure_event, plain_event, id_event, power_good, id_fields, field_event, event_of}
use Rattle.lines.specs.Read.{with_dependency, with_region, with_policy, with_kind, card_of, retry_of, row_of}
use Rattle.reader.specs.Read.{pieces, rows_of, rows_in, bad_from, bad_line, retry_from, retry_in, cards_of, cards_in}
use Rattle.printed.specs.Transcript.{effect_text, state_text, lifecycle_text, flag_text, status_text, effect_line, state_line, status_line}
use Rattle.driver.specs.Run.{Setting, Point, Progress, transcript, start_point, step_from, recorded, steps, to_do, run_from}
use Rattle.driver.proofs.Going.{steps-stay}
use Rattle.sheet.specs.Sheet.{chain_in, ended, check_of, progress_of, run_of}
use Rattle.model.specs.Vocabulary.{pick}
use Rattle.rows.specs.Rows.{RunOf, Answer, text, t_lines, calls, shown, answer_to, sheet, Row, ten_rows, Right}

-- ---- A run that has ended

either : (b : Bool) (p few many : Progress) → (few.point.going ≡ false → many ≡ few) → (pick b few p).point.going ≡ false → pick b many p ≡ pick b few p
either true p few many same e = same e
either false p few many same e = refl

longer : (s : Setting) (room n k : ℕ) (p : Progress) → n ≤ k → (steps s room n p).point.going ≡ false → steps s room k p ≡ steps s room n p
unfolding steps
longer s room zero k p h e = steps-stay s room k p e
longer s room (suc n) zero p h e = absurd (omega arith)
longer s room (suc n) (suc k) p h e =
    let q = recorded room p.said (step_from s p.point) in
    either p.point.going p (steps s room n q) (steps s room k q) (longer s room n k q (omega arith)) e

-- ---- The run of a sheet

abbrev setting_of : List ℕ → ℕ → Setting
setting_of s limit = record { chain = chain_in s; max_retry = retry_in s; limit = limit }

abbrev start_on : List ℕ → Point
start_on s = start_point (chain_in s) (rows_in s)

abbrev after_steps : List ℕ → ℕ → ℕ → ℕ → Progress
after_steps s room limit n = steps (setting_of s limit) room n record { point = start_on s; said = [] }

run_in : (s : List ℕ) (room limit n : ℕ) → (check_of s).number ≡ 0 → n ≤ suc (to_do (setting_of s limit) (start_on s)) → (after_steps s room limit n).point.going ≡ false
    → run_of s room limit ≡ ended (after_steps s room limit n)
unfolding run_of progress_of run_from
run_in s room limit n c h e = rw c (ap ended (longer (setting_of s limit) room n (suc (to_do (setting_of s limit) (start_on s))) record { point = start_on s; said = [] } h e))

-- So many steps are enough for the run of these lines: it gives what stands after them.
run_row : (ls : List String) (n : ℕ) → (check_of (text ls)).number ≡ 0 → leb n (suc (to_do (setting_of (text ls) 65536) (start_on (text ls)))) ≡ true
    → (after_steps (text ls) 65536 65536 n).point.going ≡ false → (a : Answer) → shown (ended (after_steps (text ls) 65536 65536 n)) ≡ a → answer_to (RunOf ls) ≡ a
run_row ls n c h e a same = ap shown (run_in (text ls) 65536 65536 n c (leb-true n (suc (to_do (setting_of (text ls) 65536) (start_on (text ls)))) h) e) ∙ same

-- ---- Row by row

abbrev Each : List Row → Type 0
Each [] = Unit {0}
Each (r ∷ rs) = (answer_to r.question ≡ r.answer) × Each rs

together : (rs : List Row) → Each rs → Right rs
together [] e = refl
together (r ∷ rs) (e, es) = λ j. e j ∷ together rs es j

pub ten-rows : Right ten_rows
unfolding text position first_from place_of same_bytes before after digits_from number_of lookup failure_event plain_event id_event power_good id_fields field_event event_of with_dependency with_region with_policy with_kind card_of retry_of row_of pieces rows_of rows_in bad_from bad_line retry_from retry_in cards_of cards_in check_of start_of start_point step_from recorded steps to_do digits effect_text state_text lifecycle_text flag_text status_text effect_line state_line status_line transcript below children_in children_of spread cascade gates gates_say isolated_ahead quiet_says step_of turns settle begin_of reply_of t_lines calls
ten-rows =
    let first = run_row (take 3 sheet) 40 refl refl refl in
    let both = run_row sheet 40 refl refl refl in
    together ten_rows (refl, (refl, (refl, (refl, (first _ refl, (both _ refl, (refl, (refl, (refl, (refl, tt))))))))))
