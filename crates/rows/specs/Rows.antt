-- The ten rows of 01 in one table, and what it is for them to be right.
use Rattle.std.specs.Prelude.{◌≡◌, false, List, [], ◌∷◌, ◌++◌, map, ℕ, zero, suc, ◌+◌, eqb, length, take, Option, None, Some}
use Rattle.model.specs.declared.Effect.{Effect}
use Prim.Native.String.{String}
use Rattle.model.specs.Vocabulary.{pick, id_of, plain_attrs, depending_on}
use Rattle.model.specs.declared.Component.{Component}
use Rattle.model.specs.declared.ComponentKind.TheVariants.{Active}
use Rattle.model.specs.declared.FailurePolicy.{FailurePolicy}
use Rattle.model.specs.declared.FailurePolicy.TheVariants.{Required, Cascading}
use Rattle.model.specs.declared.State.TheVariants.{Recovering}
use Rattle.model.specs.declared.Event.{Event}
use Rattle.model.specs.declared.Event.TheVariants.{Restored}
use Rattle.components.specs.declared.Answer as C
use Rattle.components.specs.Chain.{verdict_of, answer_of}
use Rattle.machine.specs.declared.ComponentStatus.{ComponentStatus}
use Rattle.machine.specs.Status.{fresh, lift, retry_is}
use Rattle.machine.specs.View.{Core}
use Rattle.settling.specs.declared.Reply.TheVariants.{Done}
use Rattle.settling.specs.Settle.{Model}
use Rattle.sm.specs.Calls.{Expected, begin_of, reply_of}
use Rattle.text.specs.Text.{bytes, line}
use Rattle.driver.specs.Run.{Entry, Effected, SettledIn, Told, transcript}
use Rattle.sheet.specs.Sheet.{Outcome, run_of}

-- ---- Questions and answers

-- A row asks for the verdict on a list of components, for the run of a sheet, or for what an event does to a machine with a
-- chain, a max_retry and no effect waiting.
pub data Question : Type 0 where
  VerdictOn : List Component → Question
  RunOf : List String → Question
  BeginOn : List Component → ℕ → Core → Event → Question

-- The number, the two places, how many events were settled, and the bytes of the transcript.
pub record Answer : Type 0 where
  pub number : ℕ
  pub place : ℕ
  pub other : ℕ
  pub settled : ℕ
  pub written : List ℕ

-- The bytes of whole lines.
unfoldable pub text : List String → List ℕ
text [] = []
text (l ∷ ls) = line (bytes l) ++ text ls

abbrev pub refusal : ℕ → ℕ → ℕ → Answer
refusal n p q = record { number = n; place = p; other = q; settled = 0; written = [] }

abbrev pub writes : ℕ → List String → Answer
writes k ls = record { number = 0; place = 0; other = 0; settled = k; written = text ls }

-- ---- What the definitions answer

-- The T lines, in chain order.
unfoldable pub t_lines : List Component → List ComponentStatus → List Entry
t_lines [] ss = []
t_lines (c ∷ cs) [] = []
t_lines (c ∷ cs) (s ∷ ss) = Told c.id s ∷ t_lines cs ss

-- What a step call gave, put before what the calls after it give: an X line if an effect waits. If none does it was the last
-- call: an S line and the T lines end the transcript. The number is the first that is not 0.
abbrev pub called_by : List Component → Expected → Outcome → Option Effect → Outcome
called_by ch r o (Some x) = record { number = pick (eqb r.number 0) o.number r.number; place = 0; other = 0; settled = length r.settled + o.settled; said = Effected x ∷ o.said }
called_by ch r o None = record { number = r.number; place = 0; other = 0; settled = length r.settled; said = SettledIn r.machine.core.state ∷ t_lines ch r.machine.core.statuses }

-- What a step call gave and what at most n - 1 more give, each of which answers Done to the effect that waits. Where they are
-- too few, the S line is missing.
unfoldable pub calls : List Component → ℕ → ℕ → Expected → Outcome
calls ch max zero r = record { number = 0; place = 0; other = 0; settled = 0; said = [] }
calls ch max (suc n) r = called_by ch r (calls ch max n (reply_of ch max r.machine Done)) r.effect

abbrev pub resting : Core → Model
resting c = record { core = c; waiting = None; left = []; queue = []; failed = false }

abbrev pub judged : C.Answer → Answer
judged a = refusal a.number a.place a.other

abbrev pub shown : Outcome → Answer
shown o = record { number = o.number; place = o.place; other = o.other; settled = o.settled; written = transcript o.said }

-- The limit and the room for the transcript are those of `replay`. The longest of the rows has 6 step calls.
abbrev pub answer_to : Question → Answer
answer_to (VerdictOn cs) = judged (answer_of (verdict_of (length cs) cs))
answer_to (RunOf ls) = shown (run_of (text ls) 65536 65536)
answer_to (BeginOn ch max c e) = shown (calls ch max 6 (begin_of ch max (resting c) e))

-- ---- The table

-- What 01 leaves free is Active, Required, region 0 and no dependency.
abbrev pub component : ℕ → FailurePolicy → Component
component n p = record { id = id_of n; attrs = plain_attrs Active p }

abbrev pub depending : ℕ → ℕ → Component
depending n d = record { id = id_of n; attrs = depending_on (id_of d) (plain_attrs Active Required) }

abbrev pub recovering : ℕ → ℕ → List ComponentStatus → Core
recovering n cursor st = record { state = Recovering (id_of n); cursor = cursor; statuses = st; window = false }

-- The sheet of section 5. Its first E line is the third line.
abbrev pub sheet : List String
sheet = "B\t2" ∷ "C\t7\tActive\tRequired\t0\t-" ∷ "E\tPowerGood\tProvisioned" ∷ "E\tVerificationPassed\t7" ∷ []

-- Recovering(7), Required, retry 0, Restored(7).
abbrev pub restoring : ℕ → Question
restoring max = BeginOn (component 7 Required ∷ []) max (recovering 7 0 (fresh ∷ [])) (Restored (id_of 7))

-- Component 1 Required, released, 2 Cascading, exhausted: max_retry is 2, and one retry is counted already.
abbrev pub exhausting : Question
exhausting = BeginOn (component 1 Required ∷ component 2 Cascading ∷ []) 2 (recovering 2 1 (lift fresh ∷ retry_is 1 fresh ∷ [])) (Restored (id_of 2))

-- A question, and 01's answer.
pub record Row : Type 0 where
  pub question : Question
  pub answer : Answer

abbrev pub asked : Question → Answer → Row
asked q a = record { question = q; answer = a }

abbrev pub ten_rows : List Row
ten_rows =
    asked (VerdictOn []) (refusal 2 0 0)
    ∷ asked (VerdictOn (component 4 Required ∷ component 4 Required ∷ [])) (refusal 4 4 0)
    ∷ asked (VerdictOn (depending 5 5 ∷ [])) (refusal 6 5 5)
    ∷ asked (VerdictOn (depending 5 9 ∷ [])) (refusal 5 5 9)
    ∷ asked (RunOf (take 3 sheet))
    (writes 1 ("X\tReadFirmware\t7" ∷ "X\tVerifyFirmware\t7" ∷ "S\tPreSupervision" ∷ "T\t7\tNominal\t0\t0\t0" ∷ []))
    ∷ asked (RunOf sheet)
    (writes 2 ("X\tReadFirmware\t7" ∷ "X\tVerifyFirmware\t7" ∷ "S\tPreSupervision" ∷ "X\tReleaseReset\t7" ∷ "S\tReady" ∷ "T\t7\tNominal\t0\t1\t1" ∷ []))
    ∷ asked (restoring 0) (writes 2 ("X\tReportRecoveryFailed\t7" ∷ "X\tLatchLockdown" ∷ "S\tLocked" ∷ "T\t7\tNominal\t1\t0\t0" ∷ []))
    ∷ asked (restoring 1) (writes 2 ("X\tReportRecoveryFailed\t7" ∷ "X\tLatchLockdown" ∷ "S\tLocked" ∷ "T\t7\tNominal\t1\t0\t0" ∷ []))
    ∷ asked (restoring 2) (writes 1 ("X\tReadFirmware\t7" ∷ "X\tVerifyFirmware\t7" ∷ "S\tPreSupervision" ∷ "T\t7\tNominal\t1\t0\t0" ∷ []))
    ∷ asked exhausting
    (writes 1 ("X\tAssertReset\t2" ∷ "X\tReportIsolated\t2" ∷ "X\tAssertReset\t1" ∷ "X\tReadFirmware\t1" ∷ "X\tVerifyFirmware\t1" ∷ "S\tPreSupervision" ∷ "T\t1\tNominal\t0\t0\t0" ∷ "T\t2\tIsolated\t0\t0\t0" ∷ []))
    ∷ []

-- What the definitions answer to each question is what stands beside it.
abbrev pub Right : List Row → Type 0
Right rs = map (λ (r : Row). answer_to r.question) rs ≡ map (λ (r : Row). r.answer) rs
