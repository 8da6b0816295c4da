-- Every rule keeps what an outcome is to keep, at a cost of 4 effects at most: the theorem `step_ok`.
use Rattle.std.specs.Prelude.{Option, None, Some}
use mathlib.Core.Path.{◌≡◌, refl, sym, subst, ap, ◌∙◌}
use mathlib.Core.List.{List, [], ◌∷◌}
use mathlib.Core.Bool.{Bool, true, false}
use Prim.Native.Nat.{ℕ, suc, ◌+◌, ◌≤◌, ◌<◌}
use native.Mathlib.Omega.{arith}
use lib.Dec.{ltb, eqb}
use lib.ListN.{length}
use borrow.Author.Tests.{ltb-true, eqb-true}
use Rattle.model.specs.Vocabulary.{named}
use Rattle.components.specs.Chain.{position, id_at, same_id, Sound}
use Rattle.model.specs.declared.ComponentId.{ComponentId}
use Rattle.model.specs.declared.Component.{Component}
use Rattle.model.specs.declared.FailurePolicy.{FailurePolicy}
use Rattle.model.specs.declared.FailurePolicy.TheVariants.{Required, Isolable, Cascading}
use Rattle.model.specs.declared.PowerOnResult.{PowerOnResult}
use Rattle.model.specs.declared.PowerOnResult.TheVariants.{Provisioned, Unprovisioned, SelfVerificationFailed}
use Rattle.model.specs.declared.BootFailureKind.{BootFailureKind}
use Rattle.model.specs.declared.State.{State}
use Rattle.model.specs.declared.State.TheVariants.{PowerOnReset, PreSupervision, AwaitingReady, Ready, Updating, Recovering, Locked}
use Rattle.model.specs.declared.Event.{Event}
use Rattle.model.specs.declared.Event.TheVariants.{PowerGood, VerificationPassed, VerificationFailed, ComponentReady, Booted, AttestationChallenge, UpdateRequest, UpdateVerified, UpdateRejected, BootConfirmed, CorruptionDetected, Restored, RecoveryUnavailable, RecoveryFailed, BootFailed, Timeout, CommitTimeout, EffectFailed}
use Rattle.model.specs.declared.Effect.{Effect}
use Rattle.model.specs.declared.Effect.TheVariants.{ReleaseReset, SignAttestation, AuthenticateUpdate, StageUpdate, ActivateUpdate, DiscardStaged, CommitSvnFloor, ReportRecoveryFailed, ReportBootFailed, ReportUpdateDeferred, Emit}
use Rattle.model.proofs.Pick.{pick_p}
use Rattle.components.proofs.Lookup.{position-holds}
use Rattle.components.specs.Links.{policy_at, kind_at}
use Rattle.holds.specs.Cascade.{cascade}
use Rattle.holds.proofs.Below.{by-test, Within, within-one}
use Rattle.holds.proofs.Closed.{cascade-within}
use Rattle.machine.specs.declared.ComponentStatus.{ComponentStatus}
use Rattle.machine.specs.Status.{status_at, touch, lift, retry_is, bump}
use Rattle.holds.specs.Holds.{gates}
use Rattle.machine.specs.View.{Core, Out, out, stay, after, in_state, statuses_are, window_is}
use Rattle.rules.specs.Entry.{enter_locked, enter_ready, enter_updating, enter_recovering, enter_walk, onward}
use Rattle.rules.specs.Walks.{released_in, pass, verify_failed, no_wait, progress, component_ready}
use Rattle.rules.specs.Corruption.{by_policy, gate_then, recover, corrupt, move_on, abortion}
use Rattle.rules.specs.Failures.{timeout, boot_failed, by_kind}
use Rattle.rules.specs.Recovery.{restored, unavailable, retry_at, start_over, exhausted}
use Rattle.rules.specs.Updates.{power}
use Rattle.rot.specs.Step.{by_state, rule, in_chain, step_of}
use Rattle.rot.proofs.Choice.{by_kind_p}
use Rattle.history.proofs.Statuses.{both, iso_at, AllOff}
use Rattle.history.proofs.Sorts.{Said, last}
use Rattle.history.proofs.Parts.{walking, Base, Inv, Linked, Ok, Tame, base-tame, tame-refl, tame-booted, tame-retry, tame-lift, tame-ok, rest_ok, locked-ok, ready-ok, recovering-ok, walk-ok, onward-ok, onward-same, after-ok, weaken, gates-ok, base-cascade, base-one}

-- Choices by a policy and by a state, where each answer is told which it was.
told_policy : {A : Type 0} (P : A → Type 0) (f : FailurePolicy) {a b c : A} → (f ≡ Required → P a) → (f ≡ Isolable → P b) → (f ≡ Cascading → P c) → P (by_policy f a b c)
told_policy P Required h i j = h refl
told_policy P Isolable h i j = i refl
told_policy P Cascading h i j = j refl

pub told_state : {A : Type 0} (P : A → Type 0) (s : State) {a b d e g : A} {c : Option ComponentId → A} {f : ComponentId → A}
    → (s ≡ PowerOnReset → P a) → (s ≡ PreSupervision → P b) → ((o : Option ComponentId) → s ≡ AwaitingReady o → P (c o)) → (s ≡ Ready → P d)
    → (s ≡ Updating → P e) → ((i : ComponentId) → s ≡ Recovering i → P (f i)) → (s ≡ Locked → P g) → P (by_state s a b c d e f g)
told_state P PowerOnReset t u v w x y z = t refl
told_state P PreSupervision t u v w x y z = u refl
told_state P (AwaitingReady o) t u v w x y z = v o refl
told_state P Ready t u v w x y z = w refl
told_state P Updating t u v w x y z = x refl
told_state P (Recovering i) t u v w x y z = y i refl
told_state P Locked t u v w x y z = z refl

-- What awaits its boot is not Isolated.
awaiting-free : (st : List ComponentStatus) (p : ℕ) → AllOff st → (status_at st p).awaiting_boot ≡ true → iso_at st p ≡ false
awaiting-free st p a h = by-test (iso_at st p) (λ t. both (status_at st p).awaiting_boot h (a p t).0) (λ t. t)

module _ (n : ℕ) (ch : List Component) (s : Sound n ch) (e : Event) (old : Option ComponentId) where
  from-tame : (st su : List ComponentStatus) (o : Out) (b : ℕ) → Tame 0 st su → Ok ch su e old b o → Ok ch st e old b o
  from-tame st su o b t k = after-ok n ch s e old old st su [] o 0 b b refl (λ q u. t.same q ∙ u) tt (omega (arith, t.cost)) (omega arith) k

  stay-ok : (c : Core) (b : ℕ) → Inv ch c → Linked ch c old → Ok ch c.statuses e old b (stay c)
  stay-ok c b v l = tame-ok n ch s e old 0 c.statuses c [] b v.base (tame-refl c.statuses) v.free tt l (omega arith)

  -- Effects of no sort, in the state that is.
  say-ok : (c d : Core) (es : List Effect) (b : ℕ) → Inv ch c → Linked ch c old → d.state ≡ c.state → d.cursor ≡ c.cursor → Tame 0 c.statuses d.statuses
      → Said ch d.statuses e old es → last old es ≡ old → length es ≤ b → Ok ch c.statuses e old b (out d es)
  say-ok c d es b v l p q t w r h =
      tame-ok n ch s e old 0 c.statuses d es b v.base t
      (λ u. t.same d.cursor ∙ ap (iso_at c.statuses) q ∙ v.free (ap walking (sym p) ∙ u)) w
      (λ u k. r ∙ l (ap walking (sym p) ∙ u) (subst (λ (m : ℕ). m < length ch) q k) ∙ ap (λ (m : ℕ). Some (id_at ch m)) (sym q)) (omega arith)

  -- ReleaseReset: the cursor's component, which is not Isolated and under check.
  pass-ok : (i : ComponentId) (c : Core) → Inv ch c → Linked ch c old → walking c.state ≡ true → e ≡ VerificationPassed i → position ch i < length ch
      → Ok ch c.statuses e old 4 (pass ch i c)
  pass-ok i c v l w ev b = pick_p (Ok ch c.statuses e old 4) (eqb (position ch i) c.cursor) (λ t. go (eqb-true (position ch i) c.cursor t)) (λ t. stay-ok c 4 v l)
    where
      p : ℕ
      p = position ch i

      su : List ComponentStatus
      su = touch lift c.statuses p

      to : State
      to = released_in c.state (kind_at ch p) i

      go : p ≡ c.cursor → Ok ch c.statuses e old 4 (after (ReleaseReset i ∷ []) (onward ch (suc p) to (statuses_are su c)))
      go q =
          let f : iso_at c.statuses p ≡ false = ap (iso_at c.statuses) q ∙ v.free w in
          let t : Tame 1 c.statuses su = tame-lift c.statuses p f in
          let k : old ≡ Some i = l w (subst (λ (m : ℕ). m < length ch) q b) ∙ ap (λ (m : ℕ). Some (id_at ch m)) (sym q) ∙ ap Some (position-holds ch i b) in
          after-ok n ch s e old None c.statuses su (ReleaseReset i ∷ []) (onward ch (suc p) to (statuses_are su c)) 2 2 4 refl (λ r u. t.same r ∙ u)
          ((onward-same n ch s e (suc p) to (statuses_are su c) p ∙ t.same p ∙ f, ev, k), tt)
          (omega (arith, t.cost)) (omega arith)
          (onward-ok n ch s e None (suc p) to (statuses_are su c) (base-tame ch 1 c.statuses su v.base t))

  -- Recovering, after effects of no sort.
  recover-ok : (es : List Effect) (i : ComponentId) (c : Core) (b : ℕ) → Base ch c.statuses → iso_at c.statuses (position ch i) ≡ false
      → ((su : List ComponentStatus) → Said ch su e old es) → last old es ≡ old → length es + 1 ≤ b → Ok ch c.statuses e old b (recover ch es i c)
  recover-ok es i c b v f w q z =
      after-ok n ch s e old old c.statuses c.statuses es (enter_recovering ch i c) (length es) 1 b q (λ r u. u)
      (w (enter_recovering ch i c).core.statuses) (omega arith) z (recovering-ok n ch s e old i c v f)

  -- What follows the gates of a corruption, in a walk and outside.
  move-ok : (c : Core) → Linked ch c old → (st : List ComponentStatus) → Base ch st → Ok ch st e old 2 (move_on ch (statuses_are st c))
  move-ok c l st b =
      pick_p (Ok ch st e old 2) (iso_at st c.cursor)
      (λ t. onward-ok n ch s e old (suc c.cursor) c.state (statuses_are st c) b)
      (λ t. tame-ok n ch s e old 0 st (statuses_are st c) [] 2 b (tame-refl st) (λ u. t) tt l (omega arith))

  still-ok : (c : Core) → walking c.state ≡ false → (st : List ComponentStatus) → Base ch st → Ok ch st e old 2 (stay (statuses_are st c))
  still-ok c w st b = rest_ok n ch s e old st (statuses_are st c) [] 2 b (tame-refl st) w tt (omega arith)

  corrupt-ok : (k : Core → Out) (es : List Effect) (i : ComponentId) (c : Core) → Base ch c.statuses → position ch i < length ch
      → ((st : List ComponentStatus) → Base ch st → Ok ch st e old 2 (k (statuses_are st c))) → ((su : List ComponentStatus) → Said ch su e old es) → last old es ≡ old → length es ≤ 2
      → Ok ch c.statuses e old 3 (corrupt ch k es i c)
  corrupt-ok k es i c v h kOk w q z =
      pick_p (Ok ch st e old 3) (iso_at st p) (λ t. weaken n ch s e old st (k c) 2 3 (omega arith) (kOk st v))
      (λ f.
      told_policy (Ok ch st e old 3) (policy_at ch p)
      (λ t. recover-ok es i c 3 v f w q (omega arith))
      (λ t. gated (p ∷ []) (within-one (length ch) p h) (base-one ch st p t v))
      (λ t. gated (cascade ch p) (cascade-within ch p h) (base-cascade n ch s st p h v)))
    where
      p : ℕ
      p = position ch i

      st : List ComponentStatus
      st = c.statuses

      gated : (ps : List ℕ) → Within (length ch) ps → Base ch (gates st ps) → Ok ch st e old 3 (gate_then ch ps k c)
      gated ps m u = weaken n ch s e old st (gate_then ch ps k c) 2 3 (omega arith) (gates-ok n ch s e old ps k c 2 v m (kOk (gates st ps) u))

  again-ok : (i : ComponentId) (m : ℕ) (c : Core) → Base ch c.statuses → Ok ch c.statuses e old 2 (enter_walk ch (retry_at ch i m c))
  again-ok i m c v =
      let t : Tame 0 c.statuses (touch (retry_is m) c.statuses (position ch i)) = tame-retry m c.statuses (position ch i) in
      from-tame c.statuses (touch (retry_is m) c.statuses (position ch i)) (enter_walk ch (retry_at ch i m c)) 2 t
      (walk-ok n ch s e old (retry_at ch i m c) (base-tame ch 0 c.statuses (touch (retry_is m) c.statuses (position ch i)) v t))

  exhausted-ok : (i : ComponentId) (c : Core) → Base ch c.statuses → walking c.state ≡ false → position ch i < length ch → Ok ch c.statuses e old 4 (exhausted ch i c)
  exhausted-ok i c v w h =
      told_policy (Ok ch st e old 4) (policy_at ch p)
      (λ t. rest_ok n ch s e old st c (ReportRecoveryFailed i ∷ Emit RecoveryFailed ∷ []) 4 v (tame-refl st) w (tt, (tt, tt)) (omega arith))
      (λ t. gated (p ∷ []) (within-one (length ch) p h) (base-one ch st p t v))
      (λ t. gated (cascade ch p) (cascade-within ch p h) (base-cascade n ch s st p h v))
    where
      p : ℕ
      p = position ch i

      st : List ComponentStatus
      st = c.statuses

      gated : (ps : List ℕ) → Within (length ch) ps → Base ch (gates st ps) → Ok ch st e old 4 (gate_then ch ps (start_over ch i) c)
      gated ps m u =
          weaken n ch s e old st (gate_then ch ps (start_over ch i) c) 2 4 (omega arith)
          (gates-ok n ch s e old ps (start_over ch i) c 2 v m (again-ok i 0 (statuses_are (gates st ps) c) u))

  -- Ready, from statuses that are tame.
  readied-ok : (c d : Core) → Inv ch c → Tame 0 c.statuses d.statuses → Ok ch c.statuses e old 4 (enter_ready d)
  readied-ok c d v t =
      from-tame c.statuses d.statuses (enter_ready d) 4 t
      (weaken n ch s e old d.statuses (enter_ready d) 0 4 (omega arith) (ready-ok n ch s e old d (base-tame ch 0 c.statuses d.statuses v.base t)))

  -- The end of an update: one effect of no sort, and Ready.
  updated-ok : (x : Effect) (c : Core) (w : Bool) → Inv ch c → ((su : List ComponentStatus) → Said ch su e old (x ∷ [])) → last old (x ∷ []) ≡ old
      → Ok ch c.statuses e old 4 (after (x ∷ []) (enter_ready (window_is w c)))
  updated-ok x c w v f r =
      after-ok n ch s e old old c.statuses c.statuses (x ∷ []) (enter_ready (window_is w c)) 1 0 4 r (λ k u. u)
      (f (enter_ready (window_is w c)).core.statuses) (omega arith) (omega arith) (ready-ok n ch s e old (window_is w c) v.base)

module _ (n : ℕ) (ch : List Component) (s : Sound n ch) (old : Option ComponentId) (c : Core) (v : Inv ch c) (l : Linked ch c old) where
  abbrev Good : Event → Out → Type 0
  Good e = Ok ch c.statuses e old 4

  module _ (e : Event) where
    stays : Good e (stay c)
    stays = stay-ok n ch s e old c 4 v l

    locks : Good e (enter_locked c)
    locks = locked-ok n ch s e old c v.base

    powers : (r : PowerOnResult) → Good e (power ch r c)
    powers Provisioned = weaken n ch s e old c.statuses (enter_walk ch c) 2 4 (omega arith) (walk-ok n ch s e old c v.base)
    powers Unprovisioned = locks
    powers SelfVerificationFailed = locks

    -- One effect of no sort, and the machine as it was but for its window.
    tells : (w : Bool) (x : Effect) → ((su : List ComponentStatus) → Said ch su e old (x ∷ [])) → last old (x ∷ []) ≡ old → Good e (out (window_is w c) (x ∷ []))
    tells w x f r = say-ok n ch s e old c (window_is w c) (x ∷ []) 4 v l refl refl (tame-refl c.statuses) (f c.statuses) r (omega arith)

    boots : (i : ComponentId) → Good e (progress ch i c)
    boots i = say-ok n ch s e old c (no_wait ch i c) [] 4 v l refl refl (tame-booted c.statuses (position ch i)) tt refl (omega arith)

    updates : Good e (enter_updating c)
    updates = rest_ok n ch s e old c.statuses (enter_updating c).core (AuthenticateUpdate ∷ StageUpdate ∷ []) 4 v.base (tame-refl c.statuses) refl (tt, (tt, tt)) (omega arith)

    recovered : (i : ComponentId) → iso_at c.statuses (position ch i) ≡ false → Good e (recover ch [] i c)
    recovered i f = recover-ok n ch s e old [] i c 4 v.base f (λ su. tt) refl (omega arith)

    fails : (i : ComponentId) → Good e (verify_failed ch i c)
    fails i = pick_p (Good e) (iso_at c.statuses (position ch i)) (λ t. stays) (λ t. recovered i t)

    times : (i : ComponentId) → Good e (timeout ch [] i c)
    times i =
        pick_p (Good e) (status_at c.statuses (position ch i)).awaiting_boot
        (λ t. recovered i (awaiting-free c.statuses (position ch i) v.base.off t))
        (λ t. stays)

    module _ (k : Core → Out) (kOk : (st : List ComponentStatus) → Base ch st → Ok ch st e old 2 (k (statuses_are st c))) (i : ComponentId) (h : position ch i < length ch) where
      corrupts : Good e (corrupt ch k [] i c)
      corrupts = weaken n ch s e old c.statuses (corrupt ch k [] i c) 3 4 (omega arith) (corrupt-ok n ch s e old k [] i c v.base h kOk (λ su. tt) refl (omega arith))

      aborts : Good e (corrupt ch k abortion i c)
      aborts = weaken n ch s e old c.statuses (corrupt ch k abortion i c) 3 4 (omega arith) (corrupt-ok n ch s e old k abortion i c v.base h kOk (λ su. (tt, (tt, tt))) refl (omega arith))

      boot-fails : (m : ℕ) (f : BootFailureKind) → Good e (boot_failed ch k [] i m f c)
      boot-fails m f =
          pick_p (Good e) (status_at c.statuses (position ch i)).awaiting_boot
          (λ t.
          after-ok n ch s e old old c.statuses c.statuses (ReportBootFailed i m f ∷ []) (by_kind f (recover ch [] i c) (corrupt ch k [] i c)) 1 3 4 refl (λ q u. u) (tt, tt) (omega arith) (omega arith)
          (by_kind_p (Ok ch c.statuses e old 3) f
          (recover-ok n ch s e old [] i c 3 v.base (awaiting-free c.statuses (position ch i) v.base.off t) (λ su. tt) refl (omega arith))
          (corrupt-ok n ch s e old k [] i c v.base h kOk (λ su. tt) refl (omega arith))))
          (λ t. stays)

    readies : (i : ComponentId) (o : Option ComponentId) → c.state ≡ AwaitingReady o → Good e (component_ready ch i o c)
    readies i None q = boots i
    readies i (Some j) q =
        pick_p (Good e) (same_id j i)
        (λ t.
        pick_p (Good e) (ltb c.cursor (length ch))
        (λ u.
        tame-ok n ch s e old 0 c.statuses (in_state (AwaitingReady None) (no_wait ch i c)) [] 4 v.base (tame-booted c.statuses (position ch i))
        (λ w. (tame-booted c.statuses (position ch i)).same c.cursor ∙ v.free (ap walking q)) tt (λ w b. l (ap walking q) b) (omega arith))
        (λ u. readied-ok n ch s e old c (no_wait ch i c) v (tame-booted c.statuses (position ch i))))
        (λ t. boots i)

    module _ (i f : ComponentId) (q : c.state ≡ Recovering f) (h : position ch i < length ch) where
      unavails : Good e (unavailable ch i f c)
      unavails = pick_p (Good e) (same_id i f) (λ t. exhausted-ok n ch s e old i c v.base (ap walking q) h) (λ t. stays)

      restores : (max : ℕ) → Good e (restored ch max i f c)
      restores max =
          pick_p (Good e) (same_id i f)
          (λ t.
          pick_p (Good e) (ltb m max)
          (λ u. weaken n ch s e old c.statuses (enter_walk ch (retry_at ch i m c)) 2 4 (omega arith) (again-ok n ch s e old i m c v.base))
          (λ u.
          from-tame n ch s e old c.statuses (touch (retry_is m) c.statuses (position ch i)) (exhausted ch i (retry_at ch i m c)) 4 tm
          (exhausted-ok n ch s e old i (retry_at ch i m c) (base-tame ch 0 c.statuses (touch (retry_is m) c.statuses (position ch i)) v.base tm) (ap walking q) h)))
          (λ t. stays)
        where
          m : ℕ
          m = bump (status_at c.statuses (position ch i)).retry

          tm : Tame 0 c.statuses (touch (retry_is m) c.statuses (position ch i))
          tm = tame-retry m c.statuses (position ch i)

    -- The cursor's component passes, in a walk.
    passes : (i : ComponentId) → e ≡ VerificationPassed i → position ch i < length ch → walking c.state ≡ true → Good e (pass ch i c)
    passes i q h w = pass-ok n ch s e old i c v l w q h

    -- What follows a corruption, in a walk and outside.
    moved : (st : List ComponentStatus) → Base ch st → Ok ch st e old 2 (move_on ch (statuses_are st c))
    moved = move-ok n ch s e old c l

    still : walking c.state ≡ false → (st : List ComponentStatus) → Base ch st → Ok ch st e old 2 (stay (statuses_are st c))
    still w = still-ok n ch s e old c w

  here : (i : ComponentId) → in_chain ch (Some i) ≡ true → position ch i < length ch
  here i t = ltb-true (position ch i) (length ch) t

  -- ---- The table, in its order
  rule-ok : (max : ℕ) (e : Event) → in_chain ch (named e) ≡ true → Good e (rule ch max c e)
  rule-ok max (PowerGood r) t =
      let e : Event = PowerGood r in
      told_state (Good e) c.state (λ q. powers e r) (λ q. stays e) (λ o q. stays e) (λ q. stays e) (λ q. stays e) (λ f q. stays e) (λ q. stays e)
  rule-ok max (VerificationPassed i) t =
      let e : Event = VerificationPassed i in
      told_state (Good e) c.state (λ q. stays e) (λ q. passes e i refl (here i t) (ap walking q)) (λ o q. passes e i refl (here i t) (ap walking q))
      (λ q. stays e) (λ q. stays e) (λ f q. stays e) (λ q. stays e)
  rule-ok max (VerificationFailed i) t =
      let e : Event = VerificationFailed i in
      told_state (Good e) c.state (λ q. stays e) (λ q. fails e i) (λ o q. fails e i) (λ q. stays e) (λ q. stays e) (λ f q. stays e) (λ q. stays e)
  rule-ok max (ComponentReady i) t =
      let e : Event = ComponentReady i in
      told_state (Good e) c.state (λ q. stays e) (λ q. stays e) (λ o q. readies e i o q) (λ q. boots e i) (λ q. boots e i) (λ f q. boots e i) (λ q. stays e)
  rule-ok max (Booted i) t =
      let e : Event = Booted i in
      told_state (Good e) c.state (λ q. stays e) (λ q. boots e i) (λ o q. boots e i) (λ q. boots e i) (λ q. boots e i) (λ f q. boots e i) (λ q. stays e)
  rule-ok max AttestationChallenge t =
      let e : Event = AttestationChallenge in
      let x : Good e (out c (SignAttestation ∷ [])) = tells e c.window SignAttestation (λ su. (tt, tt)) refl in
      told_state (Good e) c.state (λ q. stays e) (λ q. stays e) (λ o q. x) (λ q. x) (λ q. x) (λ f q. x) (λ q. stays e)
  rule-ok max UpdateRequest t =
      let e : Event = UpdateRequest in
      let x : Good e (out c (ReportUpdateDeferred ∷ [])) = tells e c.window ReportUpdateDeferred (λ su. (tt, tt)) refl in
      told_state (Good e) c.state (λ q. stays e) (λ q. stays e) (λ o q. x) (λ q. updates e) (λ q. x) (λ f q. x) (λ q. stays e)
  rule-ok max UpdateVerified t =
      let e : Event = UpdateVerified in
      told_state (Good e) c.state (λ q. stays e) (λ q. stays e) (λ o q. stays e) (λ q. stays e)
      (λ q. updated-ok n ch s e old ActivateUpdate c true v (λ su. (tt, tt)) refl) (λ f q. stays e) (λ q. stays e)
  rule-ok max UpdateRejected t =
      let e : Event = UpdateRejected in
      told_state (Good e) c.state (λ q. stays e) (λ q. stays e) (λ o q. stays e) (λ q. stays e)
      (λ q. updated-ok n ch s e old DiscardStaged c c.window v (λ su. (tt, tt)) refl) (λ f q. stays e) (λ q. stays e)
  rule-ok max (BootConfirmed i) t =
      let e : Event = BootConfirmed i in
      told_state (Good e) c.state (λ q. stays e) (λ q. stays e) (λ o q. stays e) (λ q. tells e false (CommitSvnFloor i) (λ su. (tt, tt)) refl)
      (λ q. stays e) (λ f q. stays e) (λ q. stays e)
  rule-ok max (CorruptionDetected i) t =
      let e : Event = CorruptionDetected i in
      told_state (Good e) c.state (λ q. stays e)
      (λ q. corrupts e (move_on ch) (moved e) i (here i t))
      (λ o q. corrupts e (move_on ch) (moved e) i (here i t))
      (λ q. corrupts e stay (still e (ap walking q)) i (here i t))
      (λ q. aborts e stay (still e (ap walking q)) i (here i t))
      (λ f q. corrupts e stay (still e (ap walking q)) i (here i t))
      (λ q. stays e)
  rule-ok max (Restored i) t =
      let e : Event = Restored i in
      told_state (Good e) c.state (λ q. stays e) (λ q. stays e) (λ o q. stays e) (λ q. stays e) (λ q. stays e) (λ f q. restores e i f q (here i t) max) (λ q. stays e)
  rule-ok max (RecoveryUnavailable i) t =
      let e : Event = RecoveryUnavailable i in
      told_state (Good e) c.state (λ q. stays e) (λ q. stays e) (λ o q. stays e) (λ q. stays e) (λ q. stays e) (λ f q. unavails e i f q (here i t)) (λ q. stays e)
  rule-ok max RecoveryFailed t =
      let e : Event = RecoveryFailed in
      told_state (Good e) c.state (λ q. stays e) (λ q. stays e) (λ o q. stays e) (λ q. stays e) (λ q. stays e) (λ f q. locks e) (λ q. stays e)
  rule-ok max (BootFailed i m k) t =
      let e : Event = BootFailed i m k in
      told_state (Good e) c.state (λ q. stays e)
      (λ q. boot-fails e (move_on ch) (moved e) i (here i t) m k)
      (λ o q. boot-fails e (move_on ch) (moved e) i (here i t) m k)
      (λ q. boot-fails e stay (still e (ap walking q)) i (here i t) m k)
      (λ q. boot-fails e stay (still e (ap walking q)) i (here i t) m k)
      (λ f q. boot-fails e stay (still e (ap walking q)) i (here i t) m k)
      (λ q. stays e)
  rule-ok max (Timeout i) t =
      let e : Event = Timeout i in
      told_state (Good e) c.state (λ q. stays e) (λ q. times e i) (λ o q. times e i) (λ q. times e i) (λ q. times e i) (λ f q. times e i) (λ q. stays e)
  rule-ok max CommitTimeout t =
      let e : Event = CommitTimeout in
      told_state (Good e) c.state (λ q. stays e) (λ q. stays e) (λ o q. stays e) (λ q. pick_p (Good e) c.window (λ w. locks e) (λ w. stays e))
      (λ q. stays e) (λ f q. stays e) (λ q. stays e)
  rule-ok max EffectFailed t =
      let e : Event = EffectFailed in
      told_state (Good e) c.state (λ q. locks e) (λ q. locks e) (λ o q. locks e) (λ q. locks e) (λ q. locks e) (λ f q. locks e) (λ q. stays e)

  pub step_ok : (max : ℕ) (e : Event) → Good e (step_of ch max c e)
  unfolding step_of
  step_ok max e = pick_p (Good e) (in_chain ch (named e)) (λ t. rule-ok max e t) (λ t. stays e)
