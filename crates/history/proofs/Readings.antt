-- A log that is kept item by item has the parts of demand 3.
use Rattle.std.specs.Prelude.{Some}
use mathlib.Core.Path.{◌≡◌, refl, subst, ap, ◌∙◌}
use mathlib.Core.Logic.{⊎_elim}
use mathlib.Core.List.Memᴰ
use mathlib.Core.List.{List, [], ◌∷◌, ◌++◌, Memᴰ}
use Prim.Native.Nat.{ℕ, suc, ◌+◌, ◌*◌, ◌≤◌, ◌<◌}
use native.Mathlib.Omega.{arith}
use lib.Dec.{eqb, leb}
use lib.ListN.{length}
use borrow.Author.Tests.{eqb-true, leb-true}
use Rattle.model.specs.declared.ComponentId.{ComponentId}
use Rattle.model.specs.declared.Component.{Component}
use Rattle.model.specs.declared.Effect.{Effect}
use Rattle.model.specs.declared.Effect.TheVariants.{ReadFirmware, VerifyFirmware, ReleaseReset, AssertReset, SignAttestation, AuthenticateUpdate, StageUpdate, ActivateUpdate, DiscardStaged, CommitSvnFloor, RecoverComponent, ReportIsolated, ReportRecoveryFailed, ReportBootFailed, ReportUpdateDeferred, ReportUpdateAborted, LatchLockdown, Emit}
use Rattle.model.proofs.Pick.{pick_p}
use Rattle.history.specs.History.{Item, Taken, HandedOut, settled, effects_of, LatestVerified}
use Rattle.history.specs.Demand.{Release, Isolation, Small, Total}
use Rattle.history.proofs.Sorts.{Sort, Verifies, Releases, Recovers, Isolates, Other, sort_of, checked_by}
use Rattle.history.proofs.Logs.{under_check, handed, handed_now, Right, Kept, not_taken}

-- ---- The latest VerifyFirmware

other-sort {ℓ} : {A : Type ℓ} (k : ComponentId) → Other ≡ Verifies k → A
other-sort k q = let z : ◌≡◌ {A = ℕ} 0 1 = cc in absurd (omega arith)

-- What verifies is a VerifyFirmware.
verifies-is : (x : Effect) (k : ComponentId) → sort_of x ≡ Verifies k → x ≡ VerifyFirmware k
verifies-is (ReadFirmware i) k q = other-sort k q
verifies-is (VerifyFirmware i) k q = let e : i ≡ k = cc in ap VerifyFirmware e
verifies-is (ReleaseReset i) k q = let z : ◌≡◌ {A = ℕ} 0 1 = cc in absurd (omega arith)
verifies-is (AssertReset i) k q = other-sort k q
verifies-is SignAttestation k q = other-sort k q
verifies-is AuthenticateUpdate k q = other-sort k q
verifies-is StageUpdate k q = other-sort k q
verifies-is ActivateUpdate k q = other-sort k q
verifies-is DiscardStaged k q = other-sort k q
verifies-is (CommitSvnFloor i) k q = other-sort k q
verifies-is (RecoverComponent i n) k q = let z : ◌≡◌ {A = ℕ} 0 1 = cc in absurd (omega arith)
verifies-is (ReportIsolated i) k q = let z : ◌≡◌ {A = ℕ} 0 1 = cc in absurd (omega arith)
verifies-is (ReportRecoveryFailed i) k q = other-sort k q
verifies-is (ReportBootFailed i n f) k q = other-sort k q
verifies-is ReportUpdateDeferred k q = other-sort k q
verifies-is ReportUpdateAborted k q = other-sort k q
verifies-is LatchLockdown k q = other-sort k q
verifies-is (Emit e) k q = other-sort k q

handed-sort : (x y : Effect) → HandedOut x ≡ HandedOut y → sort_of x ≡ sort_of y
handed-sort x y q = let e : x ≡ y = cc in ap sort_of e

-- One item more, which is neither a VerifyFirmware nor a ReleaseReset.
skip : (l : List Item) (i : ComponentId) (a : Item) → ((j : ComponentId) → HandedOut (VerifyFirmware j) ≡ a → ⊥) → ((j : ComponentId) → HandedOut (ReleaseReset j) ≡ a → ⊥)
    → LatestVerified l i → LatestVerified (a ∷ l) i
skip l i a f g v = record {
  since = a ∷ v.since;
  before = v.before;
  there = ap (λ (t : List Item). a ∷ t) v.there;
  latest = λ j m. ⊎_elim (λ (q : HandedOut (VerifyFirmware j) ≡ a). f j q) (λ (k : Memᴰ (HandedOut (VerifyFirmware j)) v.since). v.latest j k) (Memᴰ.cases_cons m);
  unreleased = λ j m. ⊎_elim (λ (q : HandedOut (ReleaseReset j) ≡ a). g j q) (λ (k : Memᴰ (HandedOut (ReleaseReset j)) v.since). v.unreleased j k) (Memᴰ.cases_cons m);
}

-- The last item is it.
at_once : (l : List Item) (i k : ComponentId) (x : Effect) → x ≡ VerifyFirmware k → k ≡ i → LatestVerified (HandedOut x ∷ l) i
at_once l i k x q e = record {
  since = [];
  before = l;
  there = ap (λ (y : Effect). HandedOut y ∷ l) (q ∙ ap VerifyFirmware e);
  latest = λ j m. Memᴰ.not-nil m;
  unreleased = λ j m. Memᴰ.not-nil m;
}

by-sort : (l : List Item) (i : ComponentId) (x : Effect) (o : Sort) → sort_of x ≡ o → (under_check l ≡ Some i → LatestVerified l i) → checked_by o (under_check l) ≡ Some i → LatestVerified (HandedOut x ∷ l) i
by-sort l i x (Verifies k) q r h = let e : k ≡ i = cc in at_once l i k x (verifies-is x k q) e
by-sort l i x (Releases k) q r h = let z : ◌≡◌ {A = ℕ} 0 1 = cc in absurd (omega arith)
by-sort l i x (Recovers k) q r h =
    skip l i (HandedOut x)
    (λ j p. let e : Verifies j ≡ Recovers k = handed-sort (VerifyFirmware j) x p ∙ q in let z : ◌≡◌ {A = ℕ} 0 1 = cc in omega arith)
    (λ j p. let e : Releases j ≡ Recovers k = handed-sort (ReleaseReset j) x p ∙ q in let z : ◌≡◌ {A = ℕ} 0 1 = cc in omega arith)
    (r h)
by-sort l i x (Isolates k) q r h =
    skip l i (HandedOut x)
    (λ j p. let e : Verifies j ≡ Isolates k = handed-sort (VerifyFirmware j) x p ∙ q in let z : ◌≡◌ {A = ℕ} 0 1 = cc in omega arith)
    (λ j p. let e : Releases j ≡ Isolates k = handed-sort (ReleaseReset j) x p ∙ q in let z : ◌≡◌ {A = ℕ} 0 1 = cc in omega arith)
    (r h)
by-sort l i x Other q r h =
    skip l i (HandedOut x)
    (λ j p. let e : Verifies j ≡ Other = handed-sort (VerifyFirmware j) x p ∙ q in let z : ◌≡◌ {A = ℕ} 0 1 = cc in omega arith)
    (λ j p. let e : Releases j ≡ Other = handed-sort (ReleaseReset j) x p ∙ q in let z : ◌≡◌ {A = ℕ} 0 1 = cc in omega arith)
    (r h)

verified : (l : List Item) (i : ComponentId) → under_check l ≡ Some i → LatestVerified l i
verified [] i h = let z : ◌≡◌ {A = ℕ} 0 1 = cc in absurd (omega arith)
verified (Taken e ∷ l) i h = skip l i (Taken e) (λ j q. not_taken (VerifyFirmware j) e q) (λ j q. not_taken (ReleaseReset j) e q) (verified l i h)
verified (HandedOut x ∷ l) i h = by-sort l i x (sort_of x) refl (verified l i) h

-- ---- The parts

module _ (ch : List Component) where
  kept_at : (later past : List Item) (x : Effect) → Kept ch (later ++ (HandedOut x ∷ past)) → Right ch past x
  kept_at [] past x k = k.0
  kept_at (Taken e ∷ l) past x k = kept_at l past x k
  kept_at (HandedOut y ∷ l) past x k = kept_at l past x k.1

  pub kept-release : (l : List Item) → Kept ch l → Release l
  kept-release l k later past i q = let r = (kept_at later past (ReleaseReset i) (subst (Kept ch) q k)).release i refl in (r.0, verified past i r.1)

  pub kept-isolation : (l : List Item) → Kept ch l → Isolation ch l
  kept-isolation l k later past x i j q v m = (kept_at later past x (subst (Kept ch) q k)).isolation i j v m

  -- No event that is not taken yet has handed out anything, and the last one what is counted for it.
  none_yet : (k : ℕ) (l : List Item) → settled l < k → effects_of (eqb k) l ≡ 0
  none_yet k [] h = refl
  none_yet k (Taken e ∷ l) h = none_yet k l (omega arith)
  none_yet k (HandedOut x ∷ l) h =
      pick_p (λ (m : ℕ). m ≡ 0) (eqb k (settled l))
      (λ t. let q : k ≡ settled l = eqb-true k (settled l) t in absurd (omega arith))
      (λ t. none_yet k l h)

  of-last : (l : List Item) → effects_of (eqb (settled l)) l ≤ handed_now l
  of-last [] = omega arith
  of-last (Taken e ∷ l) = omega (arith, none_yet (suc (settled l)) l (omega arith))
  of-last (HandedOut x ∷ l) =
      let r : effects_of (eqb (settled l)) l ≤ handed_now l = of-last l in
      pick_p (λ (m : ℕ). m ≤ suc (handed_now l)) (eqb (settled l) (settled l)) (λ t. omega arith) (λ t. omega arith)

  pub kept_small : (l : List Item) → Kept ch l → Small (length ch) l
  kept_small [] h k = omega arith
  kept_small (Taken e ∷ l) h k = kept_small l h k
  kept_small (HandedOut x ∷ l) h k =
      pick_p (λ (m : ℕ). m ≤ 2 * length ch + 1) (eqb k (settled l))
      (λ t.
      let q : effects_of (eqb k) l ≡ effects_of (eqb (settled l)) l = ap (λ (m : ℕ). effects_of (eqb m) l) (eqb-true k (settled l) t) in
      omega (arith, of-last l, h.0.small))
      (λ t. kept_small l h.1 k)

  of-all : (k : ℕ) (l : List Item) → effects_of (λ e. leb e k) l ≤ handed l
  of-all k [] = omega arith
  of-all k (Taken e ∷ l) = of-all k l
  of-all k (HandedOut x ∷ l) =
      let r : effects_of (λ e. leb e k) l ≤ handed l = of-all k l in
      pick_p (λ (m : ℕ). m ≤ suc (handed l)) (leb (settled l) k) (λ t. omega arith) (λ t. omega arith)

  -- A running count at each item gives the count of the first k.
  first-ones : (k : ℕ) (l : List Item) → Kept ch l → effects_of (λ e. leb e k) l ≤ 4 * k + 2 * length ch
  first-ones k [] h = omega arith
  first-ones k (Taken e ∷ l) h = first-ones k l h
  first-ones k (HandedOut x ∷ l) h =
      pick_p (λ (m : ℕ). m ≤ 4 * k + 2 * length ch) (leb (settled l) k)
      (λ t. omega (arith, leb-true (settled l) k t, of-all k l, h.0.total))
      (λ t. first-ones k l h.1)

  pub kept-total : (l : List Item) → Kept ch l → Total (length ch) l
  kept-total l h k z = first-ones k l h
