-- Statuses: a store at one position, sums over them, what the gates and quiescing do to them; the walk's next component is
-- not Isolated.
use mathlib.Core.Path.{◌≡◌, refl, sym, subst, ap, ◌∙◌}
use mathlib.Core.Logic.{◌⊎◌, inl, inr, ⊎_elim}
use mathlib.Core.List.Memᴰ
use mathlib.Core.List.{List, [], ◌∷◌, map, Memᴰ}
use mathlib.Core.Bool.{Bool, true, false, not}
use Prim.Native.Nat.{ℕ, zero, suc, ◌+◌, ◌≤◌, ◌<◌}
use native.Mathlib.Omega.{arith}
use lib.Dec.{T}
use lib.ListN.{length, get_or, set, drop}
use lib.Seq.{get_or-set_same, get_or-drop}
use Rattle.model.specs.Vocabulary.{pick}
use Rattle.model.specs.declared.Component.{Component}
use Rattle.model.proofs.Pick.{pick_p}
use Rattle.holds.proofs.Below.{by-test, in-cons}
use Rattle.machine.specs.declared.ComponentStatus.{ComponentStatus}
use Rattle.machine.specs.Status.{fresh, status_at, iso, touch}
use Rattle.holds.specs.Holds.{isolate, gate, gates}
use Rattle.holds.specs.Advance.{isolated_ahead, seek, quiet_says, quiesced}
use Rattle.rot.proofs.Weight.{gate-length, weigh, weight}

-- ---- Tests

-- A test does not come out both ways.
pub both {ℓ} : {A : Type ℓ} (t : Bool) → t ≡ true → t ≡ false → A
both t e f = absurd (subst (λ (u : Bool). T (not u)) (sym f ∙ e) tt)

pub not-true {ℓ} : {A : Type ℓ} → false ≡ true → A
not-true e = both false e refl

-- ---- One status

abbrev pub iso_at : List ComponentStatus → ℕ → Bool
iso_at st p = iso (status_at st p)

-- Who was Isolated is so still.
abbrev pub Mono : List ComponentStatus → List ComponentStatus → Type 0
Mono st su = (p : ℕ) → iso_at st p ≡ true → iso_at su p ≡ true

-- Isolated means both flags off.
abbrev pub Off : ComponentStatus → Type 0
Off s = iso s ≡ true → (s.awaiting_boot ≡ false) × (s.released ≡ false)

abbrev pub AllOff : List ComponentStatus → Type 0
AllOff st = (p : ℕ) → Off (status_at st p)

-- After a store an element is the one stored, at its own place, or the one that stood there.
pub set_cases {ℓ} : {A : Type 0} (P : A → Type ℓ) (l : List A) (p : ℕ) (x : A) (q : ℕ) (d : A) → (q ≡ p → P x) → P (get_or l q d) → P (get_or (set l p x) q d)
set_cases P [] p x q d h k = k
set_cases P (y ∷ l) zero x zero d h k = h refl
set_cases P (y ∷ l) zero x (suc q) d h k = k
set_cases P (y ∷ l) (suc p) x zero d h k = k
set_cases P (y ∷ l) (suc p) x (suc q) d h k = set_cases P l p x q d (λ e. h (ap suc e)) k

-- ---- Sums

abbrev pub sum : (ComponentStatus → ℕ) → List ComponentStatus → ℕ
sum f [] = 0
sum f (s ∷ ss) = f s + sum f ss

pub sum-touch : (f : ComponentStatus → ℕ) (g : ComponentStatus → ComponentStatus) (k : ℕ) (st : List ComponentStatus) (p : ℕ)
    → f (g (status_at st p)) ≤ k + f (status_at st p) → sum f (touch g st p) ≤ k + sum f st
sum-touch f g k [] p h = omega arith
sum-touch f g k (s ∷ st) zero h = omega arith
sum-touch f g k (s ∷ st) (suc p) h = omega (arith, sum-touch f g k st p h)

pub sum-map : (f : ComponentStatus → ℕ) (g : ComponentStatus → ComponentStatus) (st : List ComponentStatus)
    → ((s : ComponentStatus) → f (g s) ≤ f s) → sum f (map g st) ≤ sum f st
sum-map f g [] h = omega arith
sum-map f g (s ∷ st) h = omega (arith, h s, sum-map f g st h)

-- The weight of `rot` is such a sum.
pub weight-sum : (st : List ComponentStatus) → weight st ≡ sum weigh st
unfolding weight
weight-sum [] = refl
weight-sum (s ∷ ss) = ap (λ (n : ℕ). weigh s + n) (weight-sum ss)

abbrev pub lives : ComponentStatus → ℕ
lives s = pick s.released 1 0

-- How many are released.
abbrev pub live : List ComponentStatus → ℕ
live st = sum lives st

-- What effects are drawn from: the weight, and one for each released component.
abbrev pub store : List ComponentStatus → ℕ
store st = weight st + live st

-- ---- The gates

gate-keeps : (st : List ComponentStatus) (p : ℕ) → Mono st (gate st p)
gate-keeps st p q h =
    pick_p (λ (su : List ComponentStatus). iso_at su q ≡ true) (iso_at st p) (λ e. h)
    (λ e. set_cases (λ s. iso s ≡ true) st p (isolate (status_at st p)) q fresh (λ u. refl) h)

gate-off : (st : List ComponentStatus) (p : ℕ) → AllOff st → AllOff (gate st p)
gate-off st p h =
    pick_p AllOff (iso_at st p) (λ e. h)
    (λ e q. set_cases Off st p (isolate (status_at st p)) q fresh (λ u w. (refl, refl)) (h q))

pub gate-self : (st : List ComponentStatus) (p : ℕ) → p < length st → iso_at (gate st p) p ≡ true
gate-self st p b =
    pick_p (λ (su : List ComponentStatus). iso_at su p ≡ true) (iso_at st p) (λ e. e)
    (λ e. ap iso (get_or-set_same st p (isolate (status_at st p)) fresh b))

gate-back : (st : List ComponentStatus) (p q : ℕ) → iso_at (gate st p) q ≡ true → (iso_at st q ≡ true) ⊎ (q ≡ p)
gate-back st p q =
    pick_p (λ (su : List ComponentStatus). iso_at su q ≡ true → (iso_at st q ≡ true) ⊎ (q ≡ p)) (iso_at st p) (λ e h. inl h)
    (λ e. set_cases (λ s. iso s ≡ true → (iso_at st q ≡ true) ⊎ (q ≡ p)) st p (isolate (status_at st p)) q fresh (λ u h. inr u) (λ h. inl h))

gate-live : (st : List ComponentStatus) (p : ℕ) → live (gate st p) ≤ live st
gate-live st p = pick_p (λ (su : List ComponentStatus). live su ≤ live st) (iso_at st p) (λ e. omega arith) (λ e. omega (arith, sum-touch lives isolate 0 st p (omega arith)))

pub gates-keep : (st : List ComponentStatus) (ps : List ℕ) → Mono st (gates st ps)
unfolding gates
gates-keep st [] q h = h
gates-keep st (p ∷ ps) q h = gates-keep (gate st p) ps q (gate-keeps st p q h)

pub gates-off : (st : List ComponentStatus) (ps : List ℕ) → AllOff st → AllOff (gates st ps)
unfolding gates
gates-off st [] h = h
gates-off st (p ∷ ps) h = gates-off (gate st p) ps (gate-off st p h)

pub gates-has : (st : List ComponentStatus) (ps : List ℕ) (q : ℕ) → q < length st → Memᴰ q ps → iso_at (gates st ps) q ≡ true
unfolding gates
gates-has st [] q b m = absurd (Memᴰ.not-nil m)
gates-has st (p ∷ ps) q b m =
    in-cons
    (λ e. gates-keep (gate st p) ps q (subst (λ (k : ℕ). iso_at (gate st k) q ≡ true) e (gate-self st q b)))
    (λ k. gates-has (gate st p) ps q (subst (λ (n : ℕ). q < n) (sym (gate-length st p)) b) k)
    m

pub gates-back : (st : List ComponentStatus) (ps : List ℕ) (q : ℕ) → iso_at (gates st ps) q ≡ true → (iso_at st q ≡ true) ⊎ Memᴰ q ps
unfolding gates
gates-back st [] q h = inl h
gates-back st (p ∷ ps) q h =
    ⊎_elim
    (λ (k : iso_at (gate st p) q ≡ true). ⊎_elim {C = (iso_at st q ≡ true) ⊎ Memᴰ q (p ∷ ps)} (λ (l : iso_at st q ≡ true). inl l) (λ (l : q ≡ p). inr (Memᴰ.head l)) (gate-back st p q k))
    (λ (k : Memᴰ q ps). inr (Memᴰ.tail k))
    (gates-back (gate st p) ps q h)

pub gates-live : (st : List ComponentStatus) (ps : List ℕ) → live (gates st ps) ≤ live st
unfolding gates
gates-live st [] = omega arith
gates-live st (p ∷ ps) = omega (arith, gates-live (gate st p) ps, gate-live st p)

-- ---- Quiescing, and the walk's next component

-- Quiescing hands out one effect for each that it quiesces.
pub quiet-cost : (cs : List Component) (st : List ComponentStatus) → length (quiet_says cs st) + live (map quiesced st) ≤ live st
unfolding quiet_says
quiet-cost [] [] = omega arith
quiet-cost [] (s ∷ st) = by-test s.released (λ t. rw t (omega (arith, quiet-cost [] st))) (λ t. rw t (omega (arith, quiet-cost [] st)))
quiet-cost (c ∷ cs) [] = omega arith
quiet-cost (c ∷ cs) (s ∷ st) = by-test s.released (λ t. rw t (omega (arith, quiet-cost cs st))) (λ t. rw t (omega (arith, quiet-cost cs st)))

ahead-free : (st : List ComponentStatus) → iso_at st (isolated_ahead st) ≡ false
unfolding isolated_ahead
ahead-free [] = refl
ahead-free (s ∷ st) =
    by-test (iso s)
    (λ e. subst (λ (t : Bool). iso_at (s ∷ st) (pick t (suc (isolated_ahead st)) 0) ≡ false) (sym e) (ahead-free st))
    (λ e. subst (λ (t : Bool). iso_at (s ∷ st) (pick t (suc (isolated_ahead st)) 0) ≡ false) (sym e) e)

pub seek-free : (st : List ComponentStatus) (p : ℕ) → iso_at st (seek st p) ≡ false
seek-free st p = ap iso (sym (get_or-drop p st (isolated_ahead (drop p st)) fresh)) ∙ ahead-free (drop p st)
