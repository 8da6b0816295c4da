-- Demand 3: one statement about a whole history of the code's own calls.
use Rattle.std.specs.Prelude.{◌≡◌, List, [], ◌∷◌, ◌++◌, ℕ, ◌+◌, ◌*◌, ◌≤◌, ◌<◌, eqb, leb, length, Some, Ok}
use Rattle.components.specs.Chain.{entries_of, verdict_of, position, id_at, depends_at, no_refusal}
use Rattle.model.specs.declared.ComponentId.{ComponentId}
use Rattle.model.specs.declared.Component.{Component}
use Rattle.components.specs.declared.ComponentList.{ComponentList}
use Rattle.model.specs.declared.FailurePolicy.TheVariants.{Cascading}
use Rattle.model.specs.declared.Event.TheVariants.{VerificationPassed}
use Rattle.model.specs.declared.Effect.{Effect}
use Rattle.model.specs.declared.Effect.TheVariants.{VerifyFirmware, ReleaseReset, RecoverComponent}
use Rattle.components.specs.Links.{policy_at}
use Rattle.settling.specs.declared.whole.Machine.{Machine}
use Rattle.settling.specs.View.{view, chain_of}
use Rattle.sm.specs.declared.Called.{Called}
use Rattle.sm.specs.Gives.{NewGives, number_of, CallGives}
use Rattle.history.specs.History.{Call, expected, Answered, answers_to, Item, HandedOut, log_of, settling, settled, effects_of, Reported, LatestVerified}

-- ---- The code's own calls

-- What the code returned, but for the machine.
abbrev pub answered : Called → Answered
answered r = record { number = number_of r.answer; effect = r.effect }

-- A history: from the machine that new gives for an accepted list, each call takes the machine that the one before
-- returned, after a refusal too. Of the code it cites what the contracts of new, begin and reply ensure, and nothing else: the
-- calls ask for nothing.
pub data Follows (l : ComponentList) (max : ℕ) : List Call → List Answered → Machine → Type 0 where
  made : (m : Machine) → NewGives l max (Ok m) → Follows l max [] [] m
  called : {ks : List Call} {rs : List Answered} {m : Machine} (k : Call) (r : Called) → Follows l max ks rs m
      → CallGives m (expected (chain_of m) m.max_retry (view m) k) r → Follows l max (k ∷ ks) (answered r ∷ rs) r.machine

-- ---- The five parts

-- VerifyFirmware, ReleaseReset and RecoverComponent, where they name i.
pub data Serves (i : ComponentId) : Effect → Type 0 where
  verifies : Serves i (VerifyFirmware i)
  releases : Serves i (ReleaseReset i)
  recovers : (attempt : ℕ) → Serves i (RecoverComponent i attempt)

-- The component i of the chain depends directly on j.
pub record DependsOn (ch : List Component) (i j : ComponentId) : Type 0 where
  pub place : ℕ
  pub inside : place < length ch
  pub here : id_at ch place ≡ i
  pub link : depends_at ch place ≡ Some j

-- Over links it depends on its dependency, on that one's dependency, and so on.
pub data DependsOver (ch : List Component) : ComponentId → ComponentId → Type 0 where
  directly : {i j : ComponentId} → DependsOn ch i j → DependsOver ch i j
  further : {i j k : ComponentId} → DependsOn ch i j → DependsOver ch j k → DependsOver ch i k

-- Each call answered the number, and the effect or none, that document 01 gives.
abbrev pub Answers : List Component → ℕ → List Call → List Answered → Type 0
Answers ch max ks rs = rs ≡ answers_to ch max ks

-- Every ReleaseReset for a component was handed out while its VerificationPassed was being settled, the latest
-- VerifyFirmware before it named that component, and no ReleaseReset stood between the two.
abbrev pub Release : List Item → Type 0
Release log = (later past : List Item) (i : ComponentId) → log ≡ later ++ (HandedOut (ReleaseReset i) ∷ past)
    → (settling past ≡ Some (VerificationPassed i)) × LatestVerified past i

-- No VerifyFirmware, ReleaseReset or RecoverComponent named a component once it, or a Cascading one it depends on over
-- any links, was reported isolated.
abbrev pub Isolation : List Component → List Item → Type 0
Isolation ch log = (later past : List Item) (x : Effect) (i j : ComponentId) → log ≡ later ++ (HandedOut x ∷ past) → Serves i x → Reported past j
    → (j ≡ i → ⊥) × (policy_at ch (position ch j) ≡ Cascading → DependsOver ch i j → ⊥)

-- No settled event handed out over 2 N + 1 effects.
abbrev pub Small : ℕ → List Item → Type 0
Small n log = (k : ℕ) → effects_of (eqb k) log ≤ 2 * n + 1

-- For every k up to the number settled, the first k settled events together handed out at most 4 k + 2 N effects.
abbrev pub Total : ℕ → List Item → Type 0
Total n log = (k : ℕ) → k ≤ settled log → effects_of (λ e. leb e k) log ≤ 4 * k + 2 * n

-- The five parts together, of a chain, max_retry, the calls, and what the code answered to them.
pub record Demand3 (ch : List Component) (max : ℕ) (ks : List Call) (rs : List Answered) : Type 0 where
  pub answers : Answers ch max ks rs
  pub release : Release (log_of ch max ks rs)
  pub isolation : Isolation ch (log_of ch max ks rs)
  pub small : Small (length ch) (log_of ch max ks rs)
  pub total : Total (length ch) (log_of ch max ks rs)

-- ---- The statement, and that it is about something

-- For every accepted list, every max_retry and every history of calls on what new gives for them.
abbrev pub Demanded : Type 0
Demanded = (l : ComponentList) (max : ℕ) (ks : List Call) (rs : List Answered) (m : Machine) → Follows l max ks rs m → Demand3 (entries_of l) max ks rs

-- There is such a history for every accepted list, every max_retry and every list of calls.
pub record History (l : ComponentList) (max : ℕ) (ks : List Call) : Type 0 where
  pub answers : List Answered
  pub machine : Machine
  pub follows : Follows l max ks answers machine

abbrev pub NotEmpty : Type 0
NotEmpty = (l : ComponentList) (max : ℕ) (ks : List Call) → verdict_of l.len (entries_of l) ≡ no_refusal → History l max ks
