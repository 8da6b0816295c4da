-- Section 4: a history, what document 01 gives for it, and its log: which events were settled and which effects were
-- handed out. Lists of calls, of answers and of what happened all have the newest first.
use Rattle.std.specs.Prelude.{◌≡◌, Bool, ℕ, suc, eqb, Option, None, Some}
use mathlib.Core.List.{List, [], ◌∷◌, ◌++◌, map, Memᴰ}
use Rattle.model.specs.Vocabulary.{pick}
use Rattle.model.specs.declared.ComponentId.{ComponentId}
use Rattle.model.specs.declared.Component.{Component}
use Rattle.model.specs.declared.Event.{Event}
use Rattle.model.specs.declared.Effect.{Effect}
use Rattle.model.specs.declared.Effect.TheVariants.{VerifyFirmware, ReleaseReset, ReportIsolated}
use Rattle.settling.specs.Settle.{Model}
use Rattle.settling.specs.declared.Reply.{Reply}
use Rattle.sm.specs.Calls.{Expected, begin_of, reply_of, start_of}

-- ---- Calls and answers

-- A step call: begin an event, or reply to the waiting effect.
pub data Call : Type 0 where
  Begin : Event → Call
  ReplyTo : Reply → Call

-- What a call on the machine m is to give.
abbrev pub expected : List Component → ℕ → Model → Call → Expected
expected ch max m (Begin e) = begin_of ch max m e
expected ch max m (ReplyTo a) = reply_of ch max m a

-- The machine after a list of calls, from the one that new gives: from the chain, max_retry and the calls alone.
unfoldable pub machine_after : List Component → ℕ → List Call → Model
machine_after ch max [] = start_of ch
machine_after ch max (k ∷ ks) = (expected ch max (machine_after ch max ks) k).machine

-- What the call k, after the calls ks, is to give.
abbrev pub expected_after : List Component → ℕ → List Call → Call → Expected
expected_after ch max ks k = expected ch max (machine_after ch max ks) k

-- What a call answers: a number, and the effect that waits or none.
pub record Answered : Type 0 where
  pub number : ℕ
  pub effect : Option Effect

-- The answers that document 01 gives to a list of calls.
unfoldable pub answers_to : List Component → ℕ → List Call → List Answered
answers_to ch max [] = []
answers_to ch max (k ∷ ks) = record { number = (expected_after ch max ks k).number; effect = (expected_after ch max ks k).effect } ∷ answers_to ch max ks

-- ---- The log

-- An event was taken to be settled, or an effect was handed out.
pub data Item : Type 0 where
  Taken : Event → Item
  HandedOut : Effect → Item

abbrev pub given : Option Effect → List Item
given None = []
given (Some x) = HandedOut x ∷ []

-- An effect is handed out by the call that answers 0 and gives it.
abbrev pub handed_by : Answered → List Item
handed_by r = pick (eqb r.number 0) (given r.effect) []

-- What happened in a list of calls that were answered so: the events that they settled by the definitions, and the effects
-- that their answers handed out. A call settles before it hands out. There are as many answers as calls.
unfoldable pub log_of : List Component → ℕ → List Call → List Answered → List Item
log_of ch max [] rs = []
log_of ch max (k ∷ ks) [] = []
log_of ch max (k ∷ ks) (r ∷ rs) = (handed_by r ++ map Taken (expected_after ch max ks k).settled) ++ log_of ch max ks rs

-- ---- Readings of a log

-- The event being settled: the last one taken.
abbrev pub settling : List Item → Option Event
settling [] = None
settling (Taken e ∷ l) = Some e
settling (HandedOut x ∷ l) = settling l

-- How many events have been settled. Counted so, the first one taken has number 1.
abbrev pub settled : List Item → ℕ
settled [] = 0
settled (Taken e ∷ l) = suc (settled l)
settled (HandedOut x ∷ l) = settled l

-- How many effects were handed out by the settled events whose number passes a test: an effect belongs to the last event
-- taken before it.
abbrev pub effects_of : (ℕ → Bool) → List Item → ℕ
effects_of test [] = 0
effects_of test (Taken e ∷ l) = effects_of test l
effects_of test (HandedOut x ∷ l) = pick (test (settled l)) (suc (effects_of test l)) (effects_of test l)

-- The component was reported isolated.
abbrev pub Reported : List Item → ComponentId → Type 0
Reported l j = Memᴰ (HandedOut (ReportIsolated j)) l

-- The latest VerifyFirmware named i, and no ReleaseReset has stood since.
pub record LatestVerified (l : List Item) (i : ComponentId) : Type 0 where
  pub since : List Item
  pub before : List Item
  pub there : l ≡ since ++ (HandedOut (VerifyFirmware i) ∷ before)
  pub latest : (j : ComponentId) → Memᴰ (HandedOut (VerifyFirmware j)) since → ⊥
  pub unreleased : (j : ComponentId) → Memᴰ (HandedOut (ReleaseReset j)) since → ⊥
