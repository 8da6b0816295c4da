-- What holds between two events, what an outcome of one is to keep of it, and that the parts of the rules keep it.
use Rattle.std.specs.Prelude.{Option, Some}
use mathlib.Core.Path.{◌≡◌, refl, sym, subst, ap, ◌∙◌}
use mathlib.Core.Logic.{⊎_elim}
use mathlib.Core.List.Memᴰ
use mathlib.Core.List.{List, [], ◌∷◌, map, Memᴰ}
use mathlib.Core.Bool.{Bool, true, false}
use Prim.Native.Nat.{ℕ, ◌+◌, ◌≤◌, ◌<◌}
use native.Mathlib.Omega.{arith}
use lib.Dec.{ltb}
use lib.ListN.{length, get_or, length-set, length-append, length-map, get_or-map}
use Rattle.components.specs.Chain.{position, id_at, Sound}
use Rattle.model.specs.declared.ComponentId.{ComponentId}
use Rattle.model.specs.declared.Component.{Component}
use Rattle.model.specs.declared.FailurePolicy.TheVariants.{Isolable, Cascading}
use Rattle.model.specs.declared.State.{State}
use Rattle.model.specs.declared.State.TheVariants.{PowerOnReset, PreSupervision, AwaitingReady, Ready, Updating, Recovering, Locked}
use Rattle.model.specs.declared.Event.{Event}
use Rattle.model.specs.declared.Effect.{Effect}
use Rattle.model.proofs.Pick.{pick_p}
use Rattle.components.specs.Links.{policy_at}
use Rattle.holds.specs.Cascade.{cascade}
use Rattle.holds.proofs.Below.{by-test, Within}
use Rattle.machine.specs.declared.ComponentStatus.{ComponentStatus}
use Rattle.machine.specs.Status.{fresh, status_at, iso, touch, lift, booted, retry_is, quiet}
use Rattle.holds.specs.Holds.{gates, gates_say}
use Rattle.holds.specs.Advance.{seek, verify_says, quiet_says, quiesced}
use Rattle.machine.specs.View.{Core, Out, out, after, in_state, cursor_at, statuses_are}
use Rattle.rules.specs.Entry.{enter_locked, enter_ready, enter_recovering, enter_walk, onward}
use Rattle.rules.specs.Corruption.{gate_then}
use Rattle.rot.proofs.Weight.{gates-length, gates-cost, weigh, weight}
use Rattle.history.specs.Demand.{DependsOver}
use Rattle.history.proofs.Over.{over-inside, cascade-over}
use Rattle.history.proofs.Statuses.{both, iso_at, Mono, Off, AllOff, set_cases, sum-touch, sum-map, weight-sum, lives, store, gates-keep, gates-off, gates-has, gates-back, gates-live, quiet-cost, seek-free}
use Rattle.history.proofs.Sorts.{Said, last, said-append, last-append, gates-said, gates-last, verify-said, verify-last, verify-two, quiet-said}

-- The states that release the cursor's component.
abbrev pub walking : State → Bool
walking PowerOnReset = false
walking PreSupervision = true
walking (AwaitingReady o) = true
walking Ready = false
walking Updating = false
walking (Recovering i) = false
walking Locked = false

-- An Isolated Cascading component has all its dependents over links Isolated.
abbrev pub Closed : List Component → List ComponentStatus → Type 0
Closed ch st = (i j : ComponentId) → DependsOver ch i j → policy_at ch (position ch j) ≡ Cascading → iso_at st (position ch j) ≡ true → iso_at st (position ch i) ≡ true

-- A status for each component, Isolated ones with both flags off, and closed.
pub record Base (ch : List Component) (st : List ComponentStatus) : Type 0 where
  pub sized : length st ≡ length ch
  pub off : AllOff st
  pub closed : Closed ch st

-- In a walk the cursor's component is not Isolated.
pub record Inv (ch : List Component) (c : Core) : Type 0 where
  pub base : Base ch c.statuses
  pub free : walking c.state ≡ true → iso_at c.statuses c.cursor ≡ false

-- In a walk the cursor's component is the one under check.
abbrev pub Linked : List Component → Core → Option ComponentId → Type 0
Linked ch c old = walking c.state ≡ true → c.cursor < length ch → old ≡ Some (id_at ch c.cursor)

-- The outcome o of the event e, from the statuses st and with old under check: its effects cost n, but for what is drawn
-- from the store.
pub record Ok (ch : List Component) (st : List ComponentStatus) (e : Event) (old : Option ComponentId) (n : ℕ) (o : Out) : Type 0 where
  pub inv : Inv ch o.core
  pub mono : Mono st o.core.statuses
  pub said : Said ch o.core.statuses e old o.said
  pub link : Linked ch o.core (last old o.said)
  pub cost : length o.said + store o.core.statuses ≤ n + store st

-- ---- Statuses that isolate nobody anew; k more are released at most.

pub record Tame (k : ℕ) (st su : List ComponentStatus) : Type 0 where
  pub sized : length su ≡ length st
  pub same : (p : ℕ) → iso_at su p ≡ iso_at st p
  pub off : AllOff st → AllOff su
  pub cost : store su ≤ k + store st

pub base-tame : (ch : List Component) (k : ℕ) (st su : List ComponentStatus) → Base ch st → Tame k st su → Base ch su
base-tame ch k st su b t = record {
  sized = t.sized ∙ b.sized;
  off = t.off b.off;
  closed = λ i j o p h. t.same (position ch i) ∙ b.closed i j o p (sym (t.same (position ch j)) ∙ h);
}

pub tame-refl : (st : List ComponentStatus) → Tame 0 st st
tame-refl st = record { sized = refl; same = λ p. refl; off = λ h. h; cost = omega arith }

tame-touch : (g : ComponentStatus → ComponentStatus) (k : ℕ) (st : List ComponentStatus) (p : ℕ)
    → iso (g (status_at st p)) ≡ iso_at st p → (Off (status_at st p) → Off (g (status_at st p)))
    → weigh (g (status_at st p)) ≤ weigh (status_at st p) → lives (g (status_at st p)) ≤ k + lives (status_at st p) → Tame k st (touch g st p)
tame-touch g k st p h i w j = record {
  sized = length-set st p (g (status_at st p));
  same = λ q. set_cases (λ s. iso s ≡ iso_at st q) st p (g (status_at st p)) q fresh (λ e. h ∙ ap (iso_at st) (sym e)) refl;
  off = λ a q. set_cases Off st p (g (status_at st p)) q fresh (λ e. i (a p)) (a q);
  cost = omega (arith, weight-sum st, weight-sum (touch g st p), sum-touch weigh g 0 st p (omega arith), sum-touch lives g k st p j);
}

tame-map : (g : ComponentStatus → ComponentStatus) (st : List ComponentStatus) → g fresh ≡ fresh
    → ((s : ComponentStatus) → iso (g s) ≡ iso s) → ((s : ComponentStatus) → Off s → Off (g s))
    → ((s : ComponentStatus) → weigh (g s) ≤ weigh s) → ((s : ComponentStatus) → lives (g s) ≤ lives s) → Tame 0 st (map g st)
tame-map g st f h i w j = record {
  sized = length-map st g;
  same = λ q. ap iso (at-q q) ∙ h (status_at st q);
  off = λ a q. subst Off (sym (at-q q)) (i (status_at st q) (a q));
  cost = omega (arith, weight-sum st, weight-sum (map g st), sum-map weigh g st w, sum-map lives g st j);
}
  where
    at-q : (q : ℕ) → get_or (map g st) q fresh ≡ g (get_or st q fresh)
    at-q q = ap (λ (d : ComponentStatus). get_or (map g st) q d) (sym f) ∙ get_or-map g st q fresh

pub tame-retries : (st : List ComponentStatus) → Tame 0 st (map (retry_is 0) st)
tame-retries st = tame-map (retry_is 0) st refl (λ s. refl) (λ s a. a) (λ s. omega arith) (λ s. omega arith)

-- With its flags off a component weighs no more.
quiet-weight : (s : ComponentStatus) → weigh (quiet s) ≤ weigh s
quiet-weight s = by-test (iso s) (λ t. rw t (omega arith)) (λ t. rw t (omega arith))

pub tame-quiesced : (st : List ComponentStatus) → Tame 0 st (map quiesced st)
tame-quiesced st =
    tame-map quiesced st refl
    (λ s. pick_p (λ (r : ComponentStatus). iso r ≡ iso s) s.released (λ t. refl) (λ t. refl))
    (λ s a. pick_p Off s.released (λ t u. (refl, refl)) (λ t. a))
    (λ s. pick_p (λ (r : ComponentStatus). weigh r ≤ weigh s) s.released (λ t. quiet-weight s) (λ t. omega arith))
    (λ s. pick_p (λ (r : ComponentStatus). lives r ≤ lives s) s.released (λ t. omega arith) (λ t. omega arith))

pub tame-booted : (st : List ComponentStatus) (p : ℕ) → Tame 0 st (touch booted st p)
tame-booted st p = tame-touch booted 0 st p refl (λ a u. (refl, (a u).1)) (omega arith) (omega arith)

pub tame-retry : (n : ℕ) (st : List ComponentStatus) (p : ℕ) → Tame 0 st (touch (retry_is n) st p)
tame-retry n st p = tame-touch (retry_is n) 0 st p refl (λ a. a) (omega arith) (omega arith)

pub tame-quiet : (st : List ComponentStatus) (p : ℕ) → Tame 0 st (touch quiet st p)
tame-quiet st p = tame-touch quiet 0 st p refl (λ a u. (refl, refl)) (quiet-weight (status_at st p)) (omega arith)

pub tame-lift : (st : List ComponentStatus) (p : ℕ) → iso_at st p ≡ false → Tame 1 st (touch lift st p)
tame-lift st p f = tame-touch lift 1 st p refl (λ a u. both (iso_at st p) u f) (rw f (omega arith)) (omega arith)

-- ---- The parts of the rules

module _ (n : ℕ) (ch : List Component) (s : Sound n ch) (e : Event) where
  -- Tame statuses, in a state that has its invariant.
  pub tame-ok : (old : Option ComponentId) (k : ℕ) (st : List ComponentStatus) (c : Core) (es : List Effect) (b : ℕ) → Base ch st → Tame k st c.statuses
      → (walking c.state ≡ true → iso_at c.statuses c.cursor ≡ false) → Said ch c.statuses e old es → Linked ch c (last old es)
      → length es + k ≤ b → Ok ch st e old b (out c es)
  tame-ok old k st c es b h t f d l z = record {
    inv = record { base = base-tame ch k st c.statuses h t; free = f };
    mono = λ q u. t.same q ∙ u;
    said = d;
    link = l;
    cost = omega (arith, t.cost);
  }

  -- A state that releases nothing.
  pub rest_ok : (old : Option ComponentId) (st : List ComponentStatus) (c : Core) (es : List Effect) (b : ℕ) → Base ch st → Tame 0 st c.statuses
      → walking c.state ≡ false → Said ch c.statuses e old es → length es ≤ b → Ok ch st e old b (out c es)
  rest_ok old st c es b h t w d z = tame-ok old 0 st c es b h t (λ u. both (walking c.state) u w) d (λ u v. both (walking c.state) u w) (omega arith)

  pub locked-ok : (old : Option ComponentId) (c : Core) → Base ch c.statuses → Ok ch c.statuses e old 4 (enter_locked c)
  locked-ok old c h = rest_ok old c.statuses (in_state Locked c) _ 4 h (tame-refl c.statuses) refl (tt, tt) (omega arith)

  pub ready-ok : (old : Option ComponentId) (c : Core) → Base ch c.statuses → Ok ch c.statuses e old 0 (enter_ready c)
  ready-ok old c h = rest_ok old c.statuses (enter_ready c).core [] 0 h (tame-retries c.statuses) refl tt (omega arith)

  pub recovering-ok : (old : Option ComponentId) (i : ComponentId) (c : Core) → Base ch c.statuses → iso_at c.statuses (position ch i) ≡ false
      → Ok ch c.statuses e old 1 (enter_recovering ch i c)
  recovering-ok old i c h f =
      rest_ok old c.statuses (enter_recovering ch i c).core _ 1 h (tame-quiet c.statuses (position ch i)) refl
      ((tame-quiet c.statuses (position ch i)).same (position ch i) ∙ f, tt) (omega arith)

  -- A new walk pays for what it quiesces from those that were released.
  pub walk-ok : (old : Option ComponentId) (c : Core) → Base ch c.statuses → Ok ch c.statuses e old 2 (enter_walk ch c)
  walk-ok old c h =
      let st : List ComponentStatus = c.statuses in
      let su : List ComponentStatus = map quiesced st in
      let k : ℕ = seek su 0 in
      let t : Tame 0 st su = tame-quiesced st in
      let f : iso_at su k ≡ false = seek-free su 0 in
      let w : weight su ≤ weight st = omega (arith, weight-sum st, weight-sum su, sum-map weigh quiesced st (λ r. pick_p (λ (u : ComponentStatus). weigh u ≤ weigh r) r.released (λ v. quiet-weight r) (λ v. omega arith))) in
      record {
        inv = record { base = base-tame ch 0 st su h t; free = λ u. f };
        mono = λ q u. t.same q ∙ u;
        said = said-append ch su e old (quiet_says ch st) (verify_says ch k) (quiet-said ch su e old ch st) (verify-said n ch s e su (last old (quiet_says ch st)) k f);
        link = λ u v. last-append old (quiet_says ch st) (verify_says ch k) ∙ verify-last ch (last old (quiet_says ch st)) k v;
        cost = omega (arith, length-append (quiet_says ch st) (verify_says ch k), quiet-cost ch st, verify-two ch k, w);
      }

  pub onward-ok : (old : Option ComponentId) (p : ℕ) (to : State) (c : Core) → Base ch c.statuses → Ok ch c.statuses e old 2 (onward ch p to c)
  onward-ok old p to c h =
      let st : List ComponentStatus = c.statuses in
      let k : ℕ = seek st p in
      let f : iso_at st k ≡ false = seek-free st p in
      pick_p (Ok ch st e old 2) (ltb k (length ch))
      (λ t. tame-ok old 0 st (in_state to (cursor_at k c)) (verify_says ch k) 2 h (tame-refl st) (λ u. f) (verify-said n ch s e st old k f) (λ u v. verify-last ch old k v) (omega (arith, verify-two ch k)))
      (λ t. rest_ok old st (enter_ready (cursor_at (length ch) c)).core [] 2 h (tame-retries st) refl tt (omega arith))

  pub onward-same : (p : ℕ) (to : State) (c : Core) (q : ℕ) → iso_at (onward ch p to c).core.statuses q ≡ iso_at c.statuses q
  onward-same p to c q =
      pick_p (λ (o : Out). iso_at o.core.statuses q ≡ iso_at c.statuses q) (ltb (seek c.statuses p) (length ch))
      (λ t. refl)
      (λ t. (tame-retries c.statuses).same q)

  -- What comes before an outcome.
  pub after-ok : (old new : Option ComponentId) (st su : List ComponentStatus) (es : List Effect) (o : Out) (d b m : ℕ) → last old es ≡ new → Mono st su → Said ch o.core.statuses e old es
      → length es + store su ≤ d + store st → d + b ≤ m → Ok ch su e new b o → Ok ch st e old m (after es o)
  after-ok old new st su es o d b m q j w h g k = record {
    inv = k.inv;
    mono = λ r u. k.mono r (j r u);
    said = said-append ch o.core.statuses e old es o.said w (subst (λ (x : Option ComponentId). Said ch o.core.statuses e x o.said) (sym q) k.said);
    link = λ u v. last-append old es o.said ∙ ap (λ (x : Option ComponentId). last x o.said) q ∙ k.link u v;
    cost = omega (arith, length-append es o.said, k.cost);
  }

  pub weaken : (old : Option ComponentId) (st : List ComponentStatus) (o : Out) (a b : ℕ) → a ≤ b → Ok ch st e old a o → Ok ch st e old b o
  weaken old st o a b h k = record { inv = k.inv; mono = k.mono; said = k.said; link = k.link; cost = omega (arith, k.cost) }

  -- Gates, and what follows them: the gates are paid for by the weight.
  pub gates-ok : (old : Option ComponentId) (ps : List ℕ) (k : Core → Out) (c : Core) (b : ℕ) → Base ch c.statuses → Within (length ch) ps
      → Ok ch (gates c.statuses ps) e old b (k (statuses_are (gates c.statuses ps) c)) → Ok ch c.statuses e old b (gate_then ch ps k c)
  gates-ok old ps k c b h w o =
      after-ok old old c.statuses (gates c.statuses ps) (gates_say ch c.statuses ps) (k (statuses_are (gates c.statuses ps) c)) 0 b b
      (gates-last ch c.statuses old ps) (gates-keep c.statuses ps)
      (gates-said n ch s e c.statuses (k (statuses_are (gates c.statuses ps) c)).core.statuses old ps h.sized w o.mono)
      (omega (arith, gates-cost ch c.statuses ps (λ q m. subst (λ (i : ℕ). q < i) (sym h.sized) (w q m)), gates-live c.statuses ps))
      (omega arith) o

-- ---- Statuses after the gates of a policy

base-gates : (ch : List Component) (st : List ComponentStatus) (ps : List ℕ) → Base ch st → Closed ch (gates st ps) → Base ch (gates st ps)
base-gates ch st ps b k = record { sized = gates-length st ps ∙ b.sized; off = gates-off st ps b.off; closed = k }

pub base-cascade : (n : ℕ) (ch : List Component) → Sound n ch → (st : List ComponentStatus) (p : ℕ) → p < length ch → Base ch st → Base ch (gates st (cascade ch p))
base-cascade n ch s st p l b =
    base-gates ch st (cascade ch p) b
    (λ i j o pol h.
    ⊎_elim
    (λ (u : iso_at st (position ch j) ≡ true). gates-keep st (cascade ch p) (position ch i) (b.closed i j o pol u))
    (λ (u : Memᴰ (position ch j) (cascade ch p)). gates-has st (cascade ch p) (position ch i) (subst (λ (k : ℕ). position ch i < k) (sym b.sized) (over-inside n ch s o)) (cascade-over n ch s p l o u))
    (gates-back st (cascade ch p) (position ch j) h))

pub base-one : (ch : List Component) (st : List ComponentStatus) (p : ℕ) → policy_at ch p ≡ Isolable → Base ch st → Base ch (gates st (p ∷ []))
base-one ch st p f b =
    base-gates ch st (p ∷ []) b
    (λ i j o pol h.
    ⊎_elim
    (λ (u : iso_at st (position ch j) ≡ true). gates-keep st (p ∷ []) (position ch i) (b.closed i j o pol u))
    (λ (u : Memᴰ (position ch j) (p ∷ [])). absurd (never (position ch j) pol (Memᴰ.eq_of_singleton u)))
    (gates-back st (p ∷ []) (position ch j) h))
  where
    never : (x : ℕ) → policy_at ch x ≡ Cascading → x ≡ p → ⊥
    never x pol q = let z : ◌≡◌ {A = ℕ} 0 1 = cc in omega arith
