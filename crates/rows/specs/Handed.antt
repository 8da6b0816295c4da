-- Section 4: the X lines of a run are, in order, the first effects that a history of step calls hands out. Section 5: its S
-- and T lines are those of the machine after these calls, and it settles the events that they settle, up to the limit. Which
-- calls these are, the lists of effects and of lines, and what is said of them.
use Rattle.std.specs.Prelude.{◌≡◌, false, List, [], ◌∷◌, ◌++◌, ℕ, zero, suc, ◌≤◌, ◌<◌, eqb, length, Option, None, Some}
use Rattle.model.specs.Vocabulary.{pick}
use Rattle.model.specs.declared.Component.{Component}
use Rattle.model.specs.declared.Effect.{Effect}
use Rattle.components.specs.Chain.{no_entries}
use Rattle.settling.specs.declared.whole.Machine.{Machine}
use Rattle.settling.specs.declared.Reply.{Reply}
use Rattle.settling.specs.declared.Reply.TheVariants.{Done}
use Rattle.settling.specs.Settle.{Model}
use Rattle.lines.specs.declared.Row.{Row}
use Rattle.lines.specs.declared.Row.TheVariants as R
use Rattle.reader.specs.Read.{rows_in, retry_in, cards_in, pushed_all}
use Rattle.driver.specs.declared.Stage.{Stage}
use Rattle.driver.specs.declared.Stage.TheVariants.{Waits, HandsOut, Takes, Rests}
use Rattle.driver.specs.Run.{Entry, Effected, SettledIn, Told, Setting, Point, Progress, transcript, start_point, stage_of, step_from, recorded, to_do}
use Rattle.history.specs.History.{Call, Begin, ReplyTo, machine_after, Answered, answers_to, Item, Taken, HandedOut, log_of, settled}
use Rattle.history.specs.Demand.{Follows, Demand3, History}
use Rattle.sheet.specs.Sheet.{chain_in, Outcome, check_of, progress_of, run_of}
use Rattle.rows.specs.Rows.{t_lines}

-- ---- The calls of a run, the newest first as in a history

-- An effect waits for the next line; if that isn't an R line, the reply is ok.
abbrev pub reply_at : List (Option Row) → Reply
reply_at [] = Done
reply_at (Some (R.Retry n) ∷ rs) = Done
reply_at (Some (R.Card c) ∷ rs) = Done
reply_at (Some (R.Begin e) ∷ rs) = Done
reply_at (Some (R.Answer a) ∷ rs) = a
reply_at (None ∷ rs) = Done

-- With no event at work, an E line begins its event.
abbrev pub begin_at : List (Option Row) → List Call
begin_at [] = []
begin_at (Some (R.Retry n) ∷ rs) = []
begin_at (Some (R.Card c) ∷ rs) = []
begin_at (Some (R.Begin e) ∷ rs) = Begin e ∷ []
begin_at (Some (R.Answer a) ∷ rs) = []
begin_at (None ∷ rs) = []

-- The call that a step makes, or none.
abbrev pub call_by : Stage → ℕ → List (Option Row) → List Call
call_by Waits work rs = ReplyTo (reply_at rs) ∷ []
call_by HandsOut work rs = []
call_by Takes work rs = []
call_by Rests work rs = pick (eqb work 0) (begin_at rs) []

abbrev pub call_at : Point → List Call
call_at p = call_by (stage_of p.machine) p.work p.rows

-- The calls of at most n steps, as long as the run goes on, in front of the earlier calls ks.
unfoldable pub calls_in : Setting → ℕ → ℕ → Progress → List Call → List Call
calls_in s room zero p ks = ks
calls_in s room (suc n) p ks =
    pick p.point.going (calls_in s room n (recorded room p.said (step_from s p.point)) (call_at p.point ++ ks)) ks

-- The calls of a whole run: of as many steps as the run has.
abbrev pub calls_from : Setting → ℕ → Point → List Call
calls_from s room p = calls_in s room (suc (to_do s p)) record { point = p; said = [] } []

unfoldable pub calls_of : List ℕ → ℕ → ℕ → List Call
calls_of s room limit =
    calls_from (record { chain = chain_in s; max_retry = retry_in s; limit = limit }) room (start_point (chain_in s) (rows_in s))

-- ---- Effects, the oldest first as in a transcript

-- Those of the X lines.
unfoldable pub effects_in : List Entry → List Effect
effects_in [] = []
effects_in (Effected x ∷ es) = x ∷ effects_in es
effects_in (SettledIn s ∷ es) = effects_in es
effects_in (Told i s ∷ es) = effects_in es

-- Those that a log hands out. Its newest item stands first.
unfoldable pub handed_out : List Item → List Effect
handed_out [] = []
handed_out (Taken e ∷ log) = handed_out log
handed_out (HandedOut x ∷ log) = handed_out log ++ (x ∷ [])

-- ---- Lines, the oldest first too

-- The line of a call: an X line for the effect that it gives, or, where no effect waits, an S line for the machine after it.
abbrev pub line_by : Model → Option Effect → Entry
line_by m (Some x) = Effected x
line_by m None = SettledIn m.core.state

-- The lines of a list of calls that were answered so, one for each call.
unfoldable pub call_lines : List Component → ℕ → List Call → List Answered → List Entry
call_lines ch max [] rs = []
call_lines ch max (k ∷ ks) [] = []
call_lines ch max (k ∷ ks) (r ∷ rs) = call_lines ch max ks rs ++ (line_by (machine_after ch max (k ∷ ks)) r.effect ∷ [])

-- The T lines of the machine after them, in chain order.
abbrev pub end_lines : List Component → ℕ → List Call → List Entry
end_lines ch max ks = t_lines ch (machine_after ch max ks).core.statuses

-- ---- The statements

-- Every run has ended: its steps are as many as it needs, whatever the room and the limit.
abbrev pub RunsEnd : Type 0
RunsEnd = (s : List ℕ) (room limit : ℕ) → (progress_of s room limit).point.going ≡ false

-- No call was refused.
abbrev pub Granted : List Answered → Type 0
Granted [] = Unit {0}
Granted (r ∷ rs) = (r.number ≡ 0) × Granted rs

-- The X lines of a run are the first effects handed out. At most one more was: a run that stops with 8 or 9 may end before
-- its line. Any other run wrote them all.
pub record FirstEffects (run : Outcome) (log : List Item) : Type 0 where
  pub rest : List Effect
  pub first : handed_out log ≡ effects_in run.said ++ rest
  pub few : length rest ≤ 1
  pub all : (run.number ≡ 8 → ⊥) → (run.number ≡ 9 → ⊥) → rest ≡ []

-- What a run that wrote these lines has not written, by its number; ts are the T lines. With 0 it wrote all; with 7 it met an R
-- line before the T lines; with 8 the next line is longer than the room left; with 9 the last call would take an event past
-- the limit, and its line and the T lines are not written.
pub data Unwritten (room : ℕ) (said ts : List Entry) : ℕ → List Entry → Type 0 where
  nothing : Unwritten room said ts 0 []
  tellings : Unwritten room said ts 7 ts
  unfit : (e : Entry) (es : List Entry) → room < length (transcript (said ++ (e ∷ []))) → Unwritten room said ts 8 (e ∷ es)
  under_way : (e : Entry) → Unwritten room said ts 9 (e ∷ ts)

-- The lines of a run are the first of these, as many as fit: one for each call, then the T lines. Of the calls' lines at most
-- one is not written.
pub record FirstLines (run : Outcome) (room : ℕ) (lines ts : List Entry) : Type 0 where
  pub rest : List Entry
  pub first : lines ++ ts ≡ run.said ++ rest
  pub few : length rest ≤ suc (length ts)
  pub fits : length (transcript run.said) ≤ room
  pub ends : Unwritten room run.said ts run.number rest

-- The run settled the events that the calls settled, and these are within the limit; or it stopped at the limit with 9, and the
-- calls settled more.
pub record Counted (run : Outcome) (limit : ℕ) (log : List Item) : Type 0 where
  pub same : (run.number ≡ 9 → ⊥) → (run.settled ≡ settled log) × (settled log ≤ limit)
  pub past : run.number ≡ 9 → (run.settled ≡ limit) × (limit < settled log)

-- The same of a sheet that questions 1 to 6 do not refuse, when its calls are answered so.
module _ (s : List ℕ) (room limit : ℕ) (rs : List Answered) where
  abbrev pub FirstOf : Type 0
  FirstOf = FirstEffects (run_of s room limit) (log_of (chain_in s) (retry_in s) (calls_of s room limit) rs)

  abbrev pub LinesOf : Type 0
  LinesOf =
      FirstLines (run_of s room limit) room (call_lines (chain_in s) (retry_in s) (calls_of s room limit) rs)
      (end_lines (chain_in s) (retry_in s) (calls_of s room limit))

  abbrev pub CountOf : Type 0
  CountOf = Counted (run_of s room limit) limit (log_of (chain_in s) (retry_in s) (calls_of s room limit) rs)

  -- Also no call is refused, and a run that ends with 0 leaves no effect waiting.
  pub record Tied : Type 0 where
    pub granted : Granted rs
    pub rested : (run_of s room limit).number ≡ 0 → (machine_after (chain_in s) (retry_in s) (calls_of s room limit)).waiting ≡ None
    pub effects : FirstOf
    pub lines : LinesOf
    pub settled : CountOf

-- Of the answers that document 01 gives to the calls.
abbrev pub RunsTied : Type 0
RunsTied = (s : List ℕ) (room limit : ℕ) → (check_of s).number ≡ 0
    → Tied s room limit (answers_to (chain_in s) (retry_in s) (calls_of s room limit))

abbrev pub XLines : Type 0
XLines = (s : List ℕ) (room limit : ℕ) → (check_of s).number ≡ 0
    → FirstOf s room limit (answers_to (chain_in s) (retry_in s) (calls_of s room limit))

-- Of every history of the code's own calls, on the list that the reader makes of the sheet, demand 3 holds, and the run is tied
-- to it: its X lines, all its lines and its settled count. There is such a history.
pub record Transcribed (s : List ℕ) (room limit : ℕ) : Type 0 where
  pub every : (rs : List Answered) (m : Machine)
      → Follows (pushed_all no_entries (cards_in s)) (retry_in s) (calls_of s room limit) rs m
      → Demand3 (chain_in s) (retry_in s) (calls_of s room limit) rs × Tied s room limit rs
  pub some : History (pushed_all no_entries (cards_in s)) (retry_in s) (calls_of s room limit)

abbrev pub Transcripts : Type 0
Transcripts = (s : List ℕ) (room limit : ℕ) → (check_of s).number ≡ 0 → Transcribed s room limit
