-- A log, and the effects of a batch that are still to be handed out: what holds of the log with all of them holds of it with
-- some, so that handing one out changes nothing and a batch that ends early keeps it.
use Rattle.std.specs.Prelude.{Option, None, Some}
use mathlib.Core.Path.{◌≡◌, refl, sym, subst, ap, ◌∙◌}
use mathlib.Core.Logic.{⊎_elim}
use mathlib.Core.List.Memᴰ
use mathlib.Core.List.{List, [], ◌∷◌}
use mathlib.Core.Bool.{true}
use Prim.Native.Nat.{ℕ, suc, ◌+◌, ◌*◌, ◌≤◌}
use native.Mathlib.Omega.{arith}
use lib.ListN.{length}
use Rattle.components.specs.Chain.{position}
use Rattle.model.specs.declared.ComponentId.{ComponentId}
use Rattle.model.specs.declared.Component.{Component}
use Rattle.model.specs.declared.FailurePolicy.TheVariants.{Cascading}
use Rattle.model.specs.declared.Event.{Event}
use Rattle.model.specs.declared.Event.TheVariants.{VerificationPassed}
use Rattle.model.specs.declared.Effect.{Effect}
use Rattle.model.specs.declared.Effect.TheVariants.{ReleaseReset, ReportIsolated}
use Rattle.components.specs.Links.{policy_at}
use Rattle.pending.specs.Queue.{emits}
use Rattle.machine.specs.declared.ComponentStatus.{ComponentStatus}
use Rattle.history.specs.History.{Item, Taken, HandedOut, settling, settled, Reported}
use Rattle.history.specs.Demand.{Serves, DependsOver}
use Rattle.history.proofs.Statuses.{both, iso_at}
use Rattle.history.proofs.Sorts.{Sort, Other, sort_of, queued-other, checked_by, checked, Fine, serves-free, Said, last}
use Rattle.history.proofs.Parts.{Base}

-- ---- What is asked of a log, item by item

-- The component under check.
abbrev pub under_check : List Item → Option ComponentId
under_check [] = None
under_check (Taken e ∷ l) = under_check l
under_check (HandedOut x ∷ l) = checked x (under_check l)

-- Effects in all, and those of the event being settled.
abbrev pub handed : List Item → ℕ
handed [] = 0
handed (Taken e ∷ l) = handed l
handed (HandedOut x ∷ l) = suc (handed l)

abbrev pub handed_now : List Item → ℕ
handed_now [] = 0
handed_now (Taken e ∷ l) = 0
handed_now (HandedOut x ∷ l) = suc (handed_now l)

-- The effect x, given what stood before it.
pub record Right (ch : List Component) (past : List Item) (x : Effect) : Type 0 where
  pub release : (i : ComponentId) → x ≡ ReleaseReset i → (settling past ≡ Some (VerificationPassed i)) × (under_check past ≡ Some i)
  pub isolation : (i j : ComponentId) → Serves i x → Reported past j → (j ≡ i → ⊥) × (policy_at ch (position ch j) ≡ Cascading → DependsOver ch i j → ⊥)
  pub small : suc (handed_now past) ≤ 2 * length ch + 1
  pub total : suc (handed past) ≤ 4 * settled past + 2 * length ch

abbrev pub Kept : List Component → List Item → Type 0
Kept ch [] = Unit {0}
Kept ch (Taken e ∷ l) = Kept ch l
Kept ch (HandedOut x ∷ l) = Right ch l x × Kept ch l

-- ---- The effects still to be handed out

-- A log after one more effect; what Emit queues is not handed out.
abbrev pub told : Option Event → Effect → List Item → List Item
told None x l = HandedOut x ∷ l
told (Some e) x l = l

abbrev pub hand : Effect → List Item → List Item
hand x l = told (emits x) x l

-- A log after the rest of a batch.
abbrev pub foretold : List Effect → List Item → List Item
foretold [] l = l
foretold (x ∷ xs) l = foretold xs (hand x l)

told_p : (P : List Item → Type 0) (o : Option Event) (x : Effect) (l : List Item) → ((e : Event) → o ≡ Some e → P l) → (o ≡ None → P (HandedOut x ∷ l)) → P (told o x l)
told_p P None x l h k = k refl
told_p P (Some e) x l h k = h e refl

hand_p : (P : List Item → Type 0) (x : Effect) (l : List Item) → ((e : Event) → emits x ≡ Some e → P l) → P (HandedOut x ∷ l) → P (hand x l)
hand_p P x l h k = told_p P (emits x) x l h (λ q. k)

-- ---- Who is reported isolated is Isolated

abbrev pub Reports : List Component → List ComponentStatus → List Item → Type 0
Reports ch st l = (j : ComponentId) → Reported l j → iso_at st (position ch j) ≡ true

handed-same : (x y : Effect) → HandedOut x ≡ HandedOut y → x ≡ y
handed-same x y q = cc

pub not_taken {ℓ} : {A : Type ℓ} (x : Effect) (e : Event) → HandedOut x ≡ Taken e → A
not_taken x e q = let z : ◌≡◌ {A = ℕ} 0 1 = cc in absurd (omega arith)

pub reports-taken : (ch : List Component) (st : List ComponentStatus) (e : Event) (l : List Item) → Reports ch st l → Reports ch st (Taken e ∷ l)
reports-taken ch st e l r j m =
    ⊎_elim
    (λ (q : HandedOut (ReportIsolated j) ≡ Taken e). not_taken (ReportIsolated j) e q)
    (λ (k : Reported l j). r j k)
    (Memᴰ.cases_cons m)

reports-handed : (ch : List Component) (st : List ComponentStatus) (e : Event) (old : Option ComponentId) (x : Effect) (l : List Item) → Fine ch st e old x → Reports ch st l → Reports ch st (HandedOut x ∷ l)
reports-handed ch st e old x l f r j m =
    ⊎_elim
    (λ (q : HandedOut (ReportIsolated j) ≡ HandedOut x). subst (Fine ch st e old) (sym (handed-same (ReportIsolated j) x q)) f)
    (λ (k : Reported l j). r j k)
    (Memᴰ.cases_cons m)

-- ---- The log after a whole batch

pub record Through (ch : List Component) (st : List ComponentStatus) (es : List Effect) (l : List Item) : Type 0 where
  pub kept : Kept ch (foretold es l)
  pub reports : Reports ch st (foretold es l)
  pub handed : handed (foretold es l) ≤ handed l + length es
  pub settled : settled (foretold es l) ≡ settled l
  pub check : under_check (foretold es l) ≡ last (under_check l) es

module _ (ch : List Component) (st : List ComponentStatus) (b : Base ch st) (e : Event) where
  right : (x : Effect) (l : List Item) → Fine ch st e (under_check l) x → settling l ≡ Some e → Reports ch st l
      → suc (handed_now l) ≤ 2 * length ch + 1 → suc (handed l) ≤ 4 * settled l + 2 * length ch → Right ch l x
  right x l f s r h t = record {
    release = λ i q. release i (subst (Fine ch st e (under_check l)) q f);
    isolation = λ i j v m. (
      λ u. both (iso_at st (position ch j)) (r j m) (ap (λ (k : ComponentId). iso_at st (position ch k)) u ∙ serves-free ch st e (under_check l) v f),
      λ pol o. both (iso_at st (position ch i)) (b.closed i j o pol (r j m)) (serves-free ch st e (under_check l) v f),
    );
    small = h;
    total = t;
  }
    where
      release : (i : ComponentId) → Fine ch st e (under_check l) (ReleaseReset i) → (settling l ≡ Some (VerificationPassed i)) × (under_check l ≡ Some i)
      release i g = (s ∙ ap Some g.1, g.2)

  -- Of a batch x ∷ es from the log l, with x done and m the log then.
  abbrev Next : Effect → List Effect → List Item → List Item → Type 0
  Next x es l m =
      Kept ch (foretold es m) × Reports ch st (foretold es m) × (handed (foretold es m) ≤ handed l + suc (length es)) × (settled (foretold es m) ≡ settled l)
      × (under_check (foretold es m) ≡ last (checked x (under_check l)) es)

  queues : (x : Effect) (es : List Effect) (l : List Item) → sort_of x ≡ Other → Through ch st es l → Next x es l l
  queues x es l q a = (a.kept, a.reports, omega (arith, a.handed), a.settled, a.check ∙ ap (λ (o : Sort). last (checked_by o (under_check l)) es) (sym q))

  hands : (x : Effect) (es : List Effect) (l : List Item) → Through ch st es (HandedOut x ∷ l) → Next x es l (HandedOut x ∷ l)
  hands x es l a = (a.kept, a.reports, omega (arith, a.handed), a.settled, a.check)

  pub through : (es : List Effect) (l : List Item) → Said ch st e (under_check l) es → settling l ≡ Some e → Kept ch l → Reports ch st l
      → handed_now l + length es ≤ 2 * length ch + 1 → handed l + length es ≤ 4 * settled l + 2 * length ch → Through ch st es l
  through [] l w s k r h t = record { kept = k; reports = r; handed = omega arith; settled = refl; check = refl }
  through (x ∷ es) l w s k r h t =
      let all : Next x es l (hand x l) =
      hand_p (Next x es l) x l
      (λ g q. queues x es l (queued-other x g q) (through es l (subst (λ (o : Sort). Said ch st e (checked_by o (under_check l)) es) (queued-other x g q) w.1) s k r (omega arith) (omega arith)))
      (hands x es l (through es (HandedOut x ∷ l) w.1 s (right x l w.0 s r (omega arith) (omega arith), k) (reports-handed ch st e (under_check l) x l w.0 r) (omega arith) (omega arith))) in
      record { kept = all.0; reports = all.1; handed = all.2; settled = all.3; check = all.4 }

-- ---- What is left where the rest of a batch is dropped

pub kept_back : (ch : List Component) (es : List Effect) (l : List Item) → Kept ch (foretold es l) → Kept ch l
kept_back ch [] l k = k
kept_back ch (x ∷ es) l k = hand_p (λ (m : List Item). Kept ch m → Kept ch l) x l (λ g q u. u) (λ u. u.1) (kept_back ch es (hand x l) k)

reported-on : (es : List Effect) (l : List Item) (j : ComponentId) → Reported l j → Reported (foretold es l) j
reported-on [] l j m = m
reported-on (x ∷ es) l j m = reported-on es (hand x l) j (hand_p (λ (k : List Item). Reported k j) x l (λ g q. m) (Memᴰ.tail m))

pub reports-back : (ch : List Component) (st : List ComponentStatus) (es : List Effect) (l : List Item) → Reports ch st (foretold es l) → Reports ch st l
reports-back ch st es l r j m = r j (reported-on es l j m)

pub counts-back : (es : List Effect) (l : List Item) → (handed l ≤ handed (foretold es l)) × (settled (foretold es l) ≡ settled l)
counts-back [] l = (omega arith, refl)
counts-back (x ∷ es) l =
    let r : (handed (hand x l) ≤ handed (foretold es (hand x l))) × (settled (foretold es (hand x l)) ≡ settled (hand x l)) = counts-back es (hand x l) in
    let s : (handed l ≤ handed (hand x l)) × (settled (hand x l) ≡ settled l) = hand_p (λ (m : List Item). (handed l ≤ handed m) × (settled m ≡ settled l)) x l (λ g q. (omega arith, refl)) (omega arith, refl) in
    (omega (arith, r.0, s.0), r.1 ∙ s.1)
