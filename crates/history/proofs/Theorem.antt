-- Demand 3. The code is where the definitions say, and so are its answers; what every call keeps over the definitions then
-- holds of the code's own log.
use mathlib.Core.Path.{◌≡◌, refl, sym, subst, ap, ◌∙◌}
use mathlib.Core.List.{List, [], ◌∷◌}
use Prim.Native.Nat.{ℕ}
use Rattle.components.specs.Chain.{entries_of, verdict_of, Sound, no_refusal}
use Rattle.model.specs.declared.Component.{Component}
use Rattle.components.specs.declared.ComponentList.{ComponentList}
use Rattle.components.proofs.Accepted.{accepted}
use Rattle.settling.specs.declared.whole.Machine.{Machine}
use Rattle.settling.specs.Settle.{Model}
use Rattle.settling.specs.View.{view, chain_of, Valid}
use Rattle.components.specs.Tables.{entries}
use Rattle.components.specs.declared.Chain.{Chain}
use Rattle.sm.specs.Calls.{Expected}
use Rattle.sm.specs.Gives.{Fresh, number_of}
use Rattle.history.specs.History.{Call, expected, machine_after, expected_after, Answered, answers_to, log_of}
use Rattle.history.specs.Demand.{Follows, made, called, Demanded}
use Rattle.history.proofs.Parts.{Inv}
use Rattle.history.proofs.Logs.{Kept}
use Rattle.history.proofs.Calls.{Rested, call-rested, start-rested, rested-kept}
use Rattle.history.proofs.Readings.{kept-release, kept-isolation, kept_small, kept-total}

-- ---- Over the definitions

module _ (n : ℕ) (ch : List Component) (s : Sound n ch) (max : ℕ) where
  rested : (ks : List Call) → Rested n ch s max (machine_after ch max ks) (log_of ch max ks (answers_to ch max ks))
  unfolding machine_after log_of answers_to
  rested [] = start-rested n ch s max
  rested (k ∷ ks) = call-rested n ch s max (machine_after ch max ks) k (log_of ch max ks (answers_to ch max ks)) (rested ks)

  -- Between two calls: a status for each component, Isolated ones with both flags off, an Isolated Cascading component with
  -- all its dependents over links Isolated, and in a walk the cursor's component not Isolated.
  pub always-inv : (ks : List Call) → Inv ch (machine_after ch max ks).core
  always-inv ks = (rested ks).inv

  -- Every history of the definitions is kept.
  pub always-kept : (ks : List Call) → Kept ch (log_of ch max ks (answers_to ch max ks))
  always-kept ks = rested-kept n ch s max (machine_after ch max ks) (log_of ch max ks (answers_to ch max ks)) (rested ks)

-- ---- The code

-- The code's machine is the definitions', for the same chain and max_retry, and its answers are theirs.
pub record Agrees (l : ComponentList) (max : ℕ) (ks : List Call) (rs : List Answered) (m : Machine) : Type 0 where
  pub verdict : verdict_of l.len (entries_of l) ≡ no_refusal
  pub chain : chain_of m ≡ entries_of l
  pub max_retry : m.max_retry ≡ max
  pub machine : view m ≡ machine_after (entries_of l) max ks
  pub answers : rs ≡ answers_to (entries_of l) max ks
  pub valid : Valid m

pub agrees : (l : ComponentList) (max : ℕ) {ks : List Call} {rs : List Answered} {m : Machine} → Follows l max ks rs m → Agrees l max ks rs m
unfolding machine_after answers_to
agrees l max (made m g) =
    let f : Fresh l max m = g.1 in
    record { verdict = g.0; chain = f.chain; max_retry = f.max_retry; machine = f.machine; answers = refl; valid = f.valid }
agrees l max (called {ks = ks} {rs = rs} {m = m} k r f g) =
    let a : Agrees l max ks rs m = agrees l max f in
    let ch : List Component = entries_of l in
    let x : expected (chain_of m) m.max_retry (view m) k ≡ expected_after ch max ks k =
    ap (λ (c : List Component). expected c m.max_retry (view m) k) a.chain
    ∙ ap (λ (b : ℕ). expected ch b (view m) k) a.max_retry
    ∙ ap (λ (w : Model). expected ch max w k) a.machine in
    let number : number_of r.answer ≡ (expected_after ch max ks k).number = g.number ∙ ap (λ (y : Expected). y.number) x in
    let effect : r.effect ≡ (expected_after ch max ks k).effect = g.effect ∙ ap (λ (y : Expected). y.effect) x in
    let rest : rs ≡ answers_to ch max ks = a.answers in
    record {
      verdict = a.verdict;
      chain = ap (λ (c : Chain). entries c) g.chain ∙ a.chain;
      max_retry = g.max_retry ∙ a.max_retry;
      machine = g.machine ∙ ap (λ (y : Expected). y.machine) x;
      answers = λ i. record { number = number i; effect = effect i } ∷ rest i;
      valid = g.valid a.valid;
    }

-- ---- The theorem

pub demand-3 : Demanded
demand-3 l max ks rs m f =
    let a : Agrees l max ks rs m = agrees l max f in
    let ch : List Component = entries_of l in
    let kept : Kept ch (log_of ch max ks rs) =
    subst (λ (ts : List Answered). Kept ch (log_of ch max ks ts)) (sym a.answers) (always-kept l.len ch ((accepted l.len ch).0 a.verdict) max ks) in
    record {
      answers = a.answers;
      release = kept-release ch (log_of ch max ks rs) kept;
      isolation = kept-isolation ch (log_of ch max ks rs) kept;
      small = kept_small ch (log_of ch max ks rs) kept;
      total = kept-total ch (log_of ch max ks rs) kept;
    }
