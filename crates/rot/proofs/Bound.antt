-- One event hands out at most 2 N + 1 effects to a chain of N components, whatever the machine was; it keeps the number
-- of statuses, and a cursor within the chain or at its end.
-- The rules are made of few parts, and each part is bounded by the weight of the statuses (Weight), which is at most
-- 2 N. Each rule then has its bound from its parts, and the step has it of every rule.
use Rattle.std.specs.Prelude.{Option, None, Some}
use mathlib.Core.Path.{◌≡◌, refl, sym, ◌∙◌}
use mathlib.Core.Bool.{Bool, true, false}
use mathlib.Core.List.{List, [], ◌∷◌, map}
use Prim.Native.Nat.{ℕ, suc, ◌+◌, ◌*◌, ◌≤◌, ◌<◌}
use native.Mathlib.Omega.{arith}
use lib.Dec.{eqb, ltb}
use lib.ListN.{length, length-append, length-map, length-set}
use borrow.Author.Tests.{ltb-true}
use Rattle.model.specs.Vocabulary.{named}
use Rattle.components.specs.Chain.{position, same_id}
use Rattle.model.specs.declared.ComponentId.{ComponentId}
use Rattle.model.specs.declared.Component.{Component}
use Rattle.model.specs.declared.PowerOnResult.{PowerOnResult}
use Rattle.model.specs.declared.PowerOnResult.TheVariants.{Provisioned, Unprovisioned, SelfVerificationFailed}
use Rattle.model.specs.declared.BootFailureKind.{BootFailureKind}
use Rattle.model.specs.declared.State.{State}
use Rattle.model.specs.declared.State.TheVariants.{AwaitingReady, Updating, Locked}
use Rattle.model.specs.declared.Event.{Event}
use Rattle.model.specs.declared.Event.TheVariants.{PowerGood, VerificationPassed, VerificationFailed, ComponentReady, Booted, AttestationChallenge, UpdateRequest, UpdateVerified, UpdateRejected, BootConfirmed, CorruptionDetected, Restored, RecoveryUnavailable, RecoveryFailed, BootFailed, Timeout, CommitTimeout, EffectFailed}
use Rattle.model.specs.declared.Effect.{Effect}
use Rattle.model.specs.declared.Effect.TheVariants.{ReleaseReset, SignAttestation, AuthenticateUpdate, StageUpdate, ActivateUpdate, DiscardStaged, CommitSvnFloor, ReportRecoveryFailed, ReportBootFailed, ReportUpdateDeferred, LatchLockdown, Emit}
use Rattle.model.proofs.Pick.{pick_p}
use Rattle.components.specs.Links.{policy_at, kind_at}
use Rattle.holds.specs.Cascade.{cascade}
use Rattle.machine.specs.declared.ComponentStatus.{ComponentStatus}
use Rattle.machine.specs.Status.{status_at, iso, touch, quiet, booted, lift, retry_is, bump}
use Rattle.holds.specs.Holds.{gates, gates_say}
use Rattle.holds.specs.Advance.{seek, quiesced}
use Rattle.machine.specs.View.{Core, Out, out, stay, after, in_state, cursor_at, statuses_are, window_is}
use Rattle.rules.specs.Entry.{enter_locked, enter_ready, enter_updating, enter_recovering, enter_walk, onward}
use Rattle.rules.specs.Updates.{power, attest, defer}
use Rattle.rules.specs.Walks.{released_in, pass, verify_failed, no_wait, progress, component_ready}
use Rattle.rules.specs.Corruption.{gate_then, recover, corrupt, move_on, abortion}
use Rattle.rules.specs.Failures.{timeout, by_kind, boot_failed}
use Rattle.rules.specs.Recovery.{retry_at, start_over, exhausted, restored, unavailable}
use Rattle.rot.specs.Step.{rule, in_chain, step_of}
use Rattle.rot.proofs.Choice.{by_policy_p, by_kind_p, by_state_p}
use Rattle.holds.proofs.Below.{Within, within-one}
use Rattle.holds.proofs.Closed.{cascade-within}
use Rattle.holds.proofs.Laws.{seek-le}
use Rattle.rot.proofs.Weight.{gates-length, weight, weight-most, weight-touch, gates-cost, advance-cost, walk-cost}

-- A machine with n statuses, whose cursor is at most n if it was so at the start, where it was q.
abbrev Sized : ℕ → ℕ → Core → Type 0
Sized n q c = (length c.statuses ≡ n) × (q ≤ n → c.cursor ≤ n)

-- An outcome with such a machine and at most b effects.
record Fits (n q b : ℕ) (o : Out) : Type 0 where
  kept : Sized n q o.core
  short : length o.said ≤ b

module _ (ch : List Component) (q : ℕ) where
  -- ---- The parts
  abbrev N : ℕ
  N = length ch

  fits_more : (a b : ℕ) (o : Out) → a ≤ b → Fits N q a o → Fits N q b o
  fits_more a b o h f = record { kept = f.kept; short = omega (arith, f.short) }

  fits_after : (a b : ℕ) (es : List Effect) (o : Out) → length es + a ≤ b → Fits N q a o → Fits N q b (after es o)
  fits_after a b es o h f = record { kept = f.kept; short = omega (arith, length-append es o.said, f.short) }

  -- A change of one status, or of all, keeps their number.
  touch-sized : (f : ComponentStatus → ComponentStatus) (c : Core) (p : ℕ) → Sized N q c → Sized N q (statuses_are (touch f c.statuses p) c)
  touch-sized f c p s = (length-set c.statuses p (f (status_at c.statuses p)) ∙ s.0, s.1)

  map-sized : (f : ComponentStatus → ComponentStatus) (c : Core) → Sized N q c → Sized N q (statuses_are (map f c.statuses) c)
  map-sized f c s = (length-map c.statuses f ∙ s.0, s.1)

  stay-fits : (b : ℕ) (c : Core) → Sized N q c → Fits N q b (stay c)
  stay-fits b c s = record { kept = s; short = omega arith }

  ready-fits : (b : ℕ) (c : Core) → Sized N q c → Fits N q b (enter_ready c)
  ready-fits b c s = record { kept = map-sized (retry_is 0) c s; short = omega arith }

  recover-fits : (b : ℕ) (es : List Effect) (i : ComponentId) (c : Core) → Sized N q c → length es + 1 ≤ b → Fits N q b (recover ch es i c)
  recover-fits b es i c s h = fits_after 1 b es (enter_recovering ch i c) h (record { kept = touch-sized quiet c (position ch i) s; short = omega arith })

  walk-fits : (c : Core) → Sized N q c → Fits N q (1 + weight c.statuses) (enter_walk ch c)
  walk-fits c s =
      let z : length (map quiesced c.statuses) ≡ N = (map-sized quiesced c s).0 in
      record { kept = (z, λ h. omega (arith, seek-le (map quiesced c.statuses) 0 (omega arith))); short = walk-cost ch c.statuses s.0 }

  onward-fits : (p : ℕ) (t : State) (c : Core) → Sized N q c → Fits N q (weight c.statuses) (onward ch p t c)
  onward-fits p t c s =
      pick_p (Fits N q (weight c.statuses)) (ltb (seek c.statuses p) N)
      (λ e. record { kept = (s.0, λ h. omega (arith, ltb-true (seek c.statuses p) N e)); short = advance-cost ch c.statuses p s.0 })
      (λ e. ready-fits (weight c.statuses) (cursor_at N c) (s.0, λ h. omega arith))

  weight-sized : (c : Core) → Sized N q c → weight c.statuses ≤ 2 * N
  weight-sized c s = omega (arith, weight-most c.statuses, s.0)

  -- What follows the gates of a corruption, to stay or to walk off an Isolated component, hands out no more than the weight.
  still-fits : (c : Core) → Sized N q c → Fits N q (weight c.statuses) (stay c)
  still-fits c s = stay-fits (weight c.statuses) c s

  move-fits : (c : Core) → Sized N q c → Fits N q (weight c.statuses) (move_on ch c)
  move-fits c s =
      pick_p (Fits N q (weight c.statuses)) (iso (status_at c.statuses c.cursor))
      (λ t. onward-fits (suc c.cursor) c.state c s)
      (λ t. still-fits c s)

  -- Gates, and what follows them: the gates hand out what they take off the weight.
  gate-fits : (a b : ℕ) (ps : List ℕ) (k : Core → Out) (c : Core) → Within N ps → Sized N q c
      → (Sized N q (statuses_are (gates c.statuses ps) c) → Fits N q a (k (statuses_are (gates c.statuses ps) c)))
      → a + weight c.statuses ≤ b + weight (gates c.statuses ps)
      → Fits N q b (gate_then ch ps k c)
  gate-fits a b ps k c w s f h =
      fits_after a b (gates_say ch c.statuses ps) (k (statuses_are (gates c.statuses ps) c))
      (omega (arith, gates-cost ch c.statuses ps (rw s.0 w)))
      (f (gates-length c.statuses ps ∙ s.0, s.1))

  -- ---- The rules, with a bound b that has room for three effects, and for one more than the weight of any statuses
  module _ (b : ℕ) (three : 3 ≤ b) (room : 2 * N + 1 ≤ b) where
    abbrev Good : Out → Type 0
    Good = Fits N q b

    says : (c : Core) (es : List Effect) → Sized N q c → length es ≤ 3 → Good (out c es)
    says c es s h = record { kept = s; short = omega arith }

    walks : (c : Core) → Sized N q c → Good (enter_walk ch c)
    walks c s = fits_more (1 + weight c.statuses) b (enter_walk ch c) (omega (arith, weight-sized c s)) (walk-fits c s)

    -- Exhaustion: after the gates a retry becomes 0, which has no weight, and a new walk begins.
    module _ (i : ComponentId) (h : position ch i < N) where
      retry-sized : (n : ℕ) (c : Core) → Sized N q c → Sized N q (retry_at ch i n c)
      retry-sized n c = touch-sized (retry_is n) c (position ch i)

      gated-walks : (ps : List ℕ) (c : Core) → Within N ps → Sized N q c → Good (gate_then ch ps (start_over ch i) c)
      gated-walks ps c w s =
          let st : List ComponentStatus = gates c.statuses ps in
          let su : List ComponentStatus = touch (retry_is 0) st (position ch i) in
          gate-fits (1 + weight su) b ps (start_over ch i) c w s
          (λ z. walk-fits (retry_at ch i 0 (statuses_are st c)) (retry-sized 0 (statuses_are st c) z))
          (omega (arith, weight-touch (retry_is 0) (λ x. refl) st (position ch i), weight-sized c s))

      exhausts : (c : Core) → Sized N q c → Good (exhausted ch i c)
      exhausts c s =
          by_policy_p Good (policy_at ch (position ch i))
          (says c (ReportRecoveryFailed i ∷ Emit RecoveryFailed ∷ []) s (omega arith))
          (gated-walks (position ch i ∷ []) c (within-one N (position ch i) h) s)
          (gated-walks (cascade ch (position ch i)) c (cascade-within ch (position ch i) h) s)

    module _ (c : Core) (s : Sized N q c) where
      stays : Good (stay c)
      stays = stay-fits b c s

      locks : Good (enter_locked c)
      locks = says (in_state Locked c) (LatchLockdown ∷ []) s (omega arith)

      recovers : (es : List Effect) (i : ComponentId) → length es ≤ 2 → Good (recover ch es i c)
      recovers es i h = recover-fits b es i c s (omega arith)

      powers : (r : PowerOnResult) → Good (power ch r c)
      powers Provisioned = walks c s
      powers Unprovisioned = locks
      powers SelfVerificationFailed = locks

      -- A release, and then the walk: one effect more than the weight.
      passes : (i : ComponentId) → Good (pass ch i c)
      passes i =
          let p : ℕ = position ch i in
          let d : Core = statuses_are (touch lift c.statuses p) c in
          let z : Sized N q d = touch-sized lift c p s in
          let t : State = released_in c.state (kind_at ch p) i in
          pick_p Good (eqb p c.cursor)
          (λ e. fits_after (weight d.statuses) b (ReleaseReset i ∷ []) (onward ch (suc p) t d) (omega (arith, weight-sized d z)) (onward-fits (suc p) t d z))
          (λ e. stays)

      fails : (i : ComponentId) → Good (verify_failed ch i c)
      fails i = pick_p Good (iso (status_at c.statuses (position ch i))) (λ t. stays) (λ t. recovers [] i (omega arith))

      times : (es : List Effect) (i : ComponentId) → length es ≤ 2 → Good (timeout ch es i c)
      times es i h = pick_p Good (status_at c.statuses (position ch i)).awaiting_boot (λ t. recovers es i h) (λ t. stays)

      boot-sized : (i : ComponentId) → Sized N q (no_wait ch i c)
      boot-sized i = touch-sized booted c (position ch i) s

      boots : (i : ComponentId) → Good (progress ch i c)
      boots i = stay-fits b (no_wait ch i c) (boot-sized i)

      readies : (i : ComponentId) (o : Option ComponentId) → Good (component_ready ch i o c)
      readies i None = boots i
      readies i (Some j) =
          pick_p Good (same_id j i)
          (λ t. pick_p Good (ltb c.cursor N) (λ u. stay-fits b (in_state (AwaitingReady None) (no_wait ch i c)) (boot-sized i)) (λ u. ready-fits b (no_wait ch i c) (boot-sized i)))
          (λ t. boots i)

      updates : Good (enter_updating c)
      updates = says (in_state Updating (window_is false c)) (AuthenticateUpdate ∷ StageUpdate ∷ []) s (omega arith)

      -- One effect, and the machine as it was but for its window.
      tells : (w : Bool) (x : Effect) → Good (out (window_is w c) (x ∷ []))
      tells w x = says (window_is w c) (x ∷ []) s (omega arith)

      -- The end of an update: one effect, and Ready.
      updated : (w : Bool) (x : Effect) → Good (after (x ∷ []) (enter_ready (window_is w c)))
      updated w x = fits_after 0 b (x ∷ []) (enter_ready (window_is w c)) (omega arith) (ready-fits 0 (window_is w c) s)

      -- Corruption and boot failure, where what follows hands out no more than the weight that the gates leave.
      module _ (k : Core → Out) (kFits : (d : Core) → Sized N q d → Fits N q (weight d.statuses) (k d)) (i : ComponentId) (h : position ch i < N) where
        gated : (a : ℕ) (ps : List ℕ) → Within N ps → 2 * N ≤ a → Fits N q a (gate_then ch ps k c)
        gated a ps w m =
            gate-fits (weight (gates c.statuses ps)) a ps k c w s
            (kFits (statuses_are (gates c.statuses ps) c))
            (omega (arith, weight-sized c s))

        corrupts : (a : ℕ) (es : List Effect) → length es + 1 ≤ a → 2 * N ≤ a → Fits N q a (corrupt ch k es i c)
        corrupts a es l m =
            pick_p (Fits N q a) (iso (status_at c.statuses (position ch i)))
            (λ t. fits_more (weight c.statuses) a (k c) (omega (arith, weight-sized c s)) (kFits c s))
            (λ t. by_policy_p (Fits N q a) (policy_at ch (position ch i))
            (recover-fits a es i c s l)
            (gated a (position ch i ∷ []) (within-one N (position ch i) h) m)
            (gated a (cascade ch (position ch i)) (cascade-within ch (position ch i) h) m))

        corruption : Good (corrupt ch k [] i c)
        corruption = corrupts b [] (omega arith) (omega arith)

        aborts : Good (corrupt ch k abortion i c)
        aborts = corrupts b abortion (omega arith) (omega arith)

        -- The report is the one effect more; in a chain of one component there is room for one effect before a recovery.
        boot-fails : (es : List Effect) → length es ≤ 1 → (n : ℕ) (f : BootFailureKind) → Good (boot_failed ch k es i n f c)
        boot-fails es l n f =
            pick_p Good (status_at c.statuses (position ch i)).awaiting_boot
            (λ t. fits_after (2 * N) b (ReportBootFailed i n f ∷ []) (by_kind f (recover ch es i c) (corrupt ch k es i c)) (omega arith)
            (by_kind_p (Fits N q (2 * N)) f (recover-fits (2 * N) es i c s (omega arith)) (corrupts (2 * N) es (omega arith) (omega arith))))
            (λ t. stays)

      module _ (i f : ComponentId) (h : position ch i < N) where
        restores : (max : ℕ) → Good (restored ch max i f c)
        restores max =
            let n : ℕ = bump (status_at c.statuses (position ch i)).retry in
            let z : Sized N q (retry_at ch i n c) = retry-sized i h n c s in
            pick_p Good (same_id i f)
            (λ t. pick_p Good (ltb n max) (λ u. walks (retry_at ch i n c) z) (λ u. exhausts i h (retry_at ch i n c) z))
            (λ t. stays)

        unavails : Good (unavailable ch i f c)
        unavails = pick_p Good (same_id i f) (λ t. exhausts i h c s) (λ t. stays)

      -- ---- The table, in its order
      here : (i : ComponentId) → in_chain ch (Some i) ≡ true → position ch i < N
      here i t = ltb-true (position ch i) N t

      rule_fits : (max : ℕ) (e : Event) → in_chain ch (named e) ≡ true → Good (rule ch max c e)
      rule_fits max (PowerGood r) t = by_state_p Good c.state (powers r) stays (λ o. stays) stays stays (λ f. stays) stays
      rule_fits max (VerificationPassed i) t = by_state_p Good c.state stays (passes i) (λ o. passes i) stays stays (λ f. stays) stays
      rule_fits max (VerificationFailed i) t = by_state_p Good c.state stays (fails i) (λ o. fails i) stays stays (λ f. stays) stays
      rule_fits max (ComponentReady i) t = by_state_p Good c.state stays stays (λ o. readies i o) (boots i) (boots i) (λ f. boots i) stays
      rule_fits max (Booted i) t = by_state_p Good c.state stays (boots i) (λ o. boots i) (boots i) (boots i) (λ f. boots i) stays
      rule_fits max AttestationChallenge t =
          let x : Good (attest c) = tells c.window SignAttestation in
          by_state_p Good c.state stays stays (λ o. x) x x (λ f. x) stays
      rule_fits max UpdateRequest t =
          let x : Good (defer c) = tells c.window ReportUpdateDeferred in
          by_state_p Good c.state stays stays (λ o. x) updates x (λ f. x) stays
      rule_fits max UpdateVerified t = by_state_p Good c.state stays stays (λ o. stays) stays (updated true ActivateUpdate) (λ f. stays) stays
      rule_fits max UpdateRejected t = by_state_p Good c.state stays stays (λ o. stays) stays (updated c.window DiscardStaged) (λ f. stays) stays
      rule_fits max (BootConfirmed i) t = by_state_p Good c.state stays stays (λ o. stays) (tells false (CommitSvnFloor i)) stays (λ f. stays) stays
      rule_fits max (CorruptionDetected i) t =
          let moves : Good (corrupt ch (move_on ch) [] i c) = corruption (move_on ch) move-fits i (here i t) in
          let holds : Good (corrupt ch stay [] i c) = corruption stay still-fits i (here i t) in
          by_state_p Good c.state stays moves (λ o. moves) holds (aborts stay still-fits i (here i t)) (λ f. holds) stays
      rule_fits max (Restored i) t = by_state_p Good c.state stays stays (λ o. stays) stays stays (λ f. restores i f (here i t) max) stays
      rule_fits max (RecoveryUnavailable i) t = by_state_p Good c.state stays stays (λ o. stays) stays stays (λ f. unavails i f (here i t)) stays
      rule_fits max RecoveryFailed t = by_state_p Good c.state stays stays (λ o. stays) stays stays (λ f. locks) stays
      rule_fits max (BootFailed i n k) t =
          let moves : Good (boot_failed ch (move_on ch) [] i n k c) = boot-fails (move_on ch) move-fits i (here i t) [] (omega arith) n k in
          let holds : Good (boot_failed ch stay [] i n k c) = boot-fails stay still-fits i (here i t) [] (omega arith) n k in
          by_state_p Good c.state stays moves (λ o. moves) holds holds (λ f. holds) stays
      rule_fits max (Timeout i) t =
          let x : Good (timeout ch [] i c) = times [] i (omega arith) in
          by_state_p Good c.state stays x (λ o. x) x x (λ f. x) stays
      rule_fits max CommitTimeout t = by_state_p Good c.state stays stays (λ o. stays) (pick_p Good c.window (λ w. locks) (λ w. stays)) stays (λ f. stays) stays
      rule_fits max EffectFailed t = by_state_p Good c.state locks locks (λ o. locks) locks locks (λ f. locks) stays

      step_fits : (max : ℕ) (e : Event) → Good (step_of ch max c e)
      unfolding step_of
      step_fits max e = pick_p Good (in_chain ch (named e)) (λ t. rule_fits max e t) (λ t. stays)

-- ---- What holds of every step
fits : (b : ℕ) (ch : List Component) (max : ℕ) (c : Core) (e : Event) → length c.statuses ≡ length ch → 3 ≤ b → 2 * length ch + 1 ≤ b → Fits (length ch) c.cursor b (step_of ch max c e)
fits b ch max c e same three room = step_fits ch c.cursor b three room c (same, λ h. h) max e

-- It hands out at most two effects for each component, and one more.
pub step-bound : (ch : List Component) (max : ℕ) (c : Core) (e : Event) → 1 ≤ length ch → length c.statuses ≡ length ch → length (step_of ch max c e).said ≤ 2 * length ch + 1
step-bound ch max c e some same = (fits (2 * length ch + 1) ch max c e same (omega arith) (omega arith)).short

-- It keeps the number of statuses,
pub step-length : (ch : List Component) (max : ℕ) (c : Core) (e : Event) → length c.statuses ≡ length ch → length (step_of ch max c e).core.statuses ≡ length c.statuses
step-length ch max c e same = (fits (2 * length ch + 3) ch max c e same (omega arith) (omega arith)).kept.0 ∙ sym same

-- and a cursor within the chain or at its end.
pub step-cursor : (ch : List Component) (max : ℕ) (c : Core) (e : Event) → c.cursor ≤ length ch → length c.statuses ≡ length ch → (step_of ch max c e).core.cursor ≤ length ch
step-cursor ch max c e low same = (fits (2 * length ch + 3) ch max c e same (omega arith) (omega arith)).kept.1 low
