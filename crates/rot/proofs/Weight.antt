-- What gate, advance and quiesce hand out, by a weight of the statuses: 2 for a component that is not Isolated, 1 for
-- an Isolated one that is released, 0 for any other. A gate takes off the weight what it hands out, however often a
-- position comes up, and quiescing and advancing hand out at most one effect more than the weight that is left.
use mathlib.Core.Path.{◌≡◌, refl, ◌∙◌, ap}
use mathlib.Core.Bool.{false}
use mathlib.Core.List.Memᴰ
use mathlib.Core.List.{List, [], ◌∷◌, ◌++◌, map}
use Prim.Native.Nat.{ℕ, zero, suc, ◌+◌, ◌*◌, ◌≤◌, ◌<◌}
use native.Mathlib.Omega.{arith}
use lib.Dec.{ltb}
use lib.ListN.{length, drop, length-append, length-drop, length-set}
use borrow.Author.Tests.{ltb-true}
use Rattle.model.specs.Vocabulary.{pick}
use Rattle.model.specs.declared.Component.{Component}
use Rattle.model.specs.declared.Effect.{Effect}
use Rattle.model.proofs.Pick.{pick_p}
use Rattle.machine.specs.declared.ComponentStatus.{ComponentStatus}
use Rattle.machine.specs.Status.{status_at, iso, touch}
use Rattle.holds.specs.Holds.{isolate, gate, gate_says, gates, gates_say}
use Rattle.holds.specs.Advance.{isolated_ahead, seek, verify_says, quiet_says, quiesced}
use Rattle.holds.proofs.Below.{by-test, Within}

-- ---- Lengths: a gate keeps the number of statuses, and so does a list of gates.
pub gate-length : (st : List ComponentStatus) (p : ℕ) → length (gate st p) ≡ length st
gate-length st p = pick_p (λ (su : List ComponentStatus). length su ≡ length st) (iso (status_at st p)) (λ t. refl) (λ t. length-set st p (isolate (status_at st p)))

pub gates-length : (st : List ComponentStatus) (ps : List ℕ) → length (gates st ps) ≡ length st
unfolding gates
gates-length st [] = refl
gates-length st (p ∷ ps) = gates-length (gate st p) ps ∙ gate-length st p

-- ---- The weight
abbrev pub weigh : ComponentStatus → ℕ
weigh s = pick (iso s) (pick s.released 1 0) 2

unfoldable pub weight : List ComponentStatus → ℕ
weight [] = 0
weight (s ∷ ss) = weigh s + weight ss

weigh-most : (s : ComponentStatus) → weigh s ≤ 2
weigh-most s =
    pick_p (λ (n : ℕ). n ≤ 2) (iso s)
    (λ t. pick_p (λ (n : ℕ). n ≤ 2) s.released (λ u. omega arith) (λ u. omega arith))
    (λ t. omega arith)

pub weight-most : (st : List ComponentStatus) → weight st ≤ 2 * length st
unfolding weight
weight-most [] = omega arith
weight-most (s ∷ ss) = omega (arith, weigh-most s, weight-most ss)

-- A change of one status that keeps its own weight keeps the whole.
pub weight-touch : (f : ComponentStatus → ComponentStatus) → ((s : ComponentStatus) → weigh (f s) ≡ weigh s) → (st : List ComponentStatus) (p : ℕ) → weight (touch f st p) ≡ weight st
unfolding weight
weight-touch f h [] p = refl
weight-touch f h (s ∷ ss) zero = ap (λ (n : ℕ). n + weight ss) (h s)
weight-touch f h (s ∷ ss) (suc p) = ap (λ (n : ℕ). weigh s + n) (weight-touch f h ss p)

-- What is left of a list weighs no more than the list.
weight-drop : (p : ℕ) (st : List ComponentStatus) → weight (drop p st) ≤ weight st
unfolding weight
weight-drop zero st = omega arith
weight-drop (suc p) [] = omega arith
weight-drop (suc p) (s ∷ ss) = omega (arith, weight-drop p ss)

-- ---- Gates
-- Isolating one that is not Isolated takes 2 off the weight: it leaves with its flags off.
isolate-weight : (st : List ComponentStatus) (p : ℕ) → p < length st → iso (status_at st p) ≡ false → 2 + weight (touch isolate st p) ≡ weight st
unfolding weight
isolate-weight [] p h e = absurd (omega arith)
isolate-weight (s ∷ ss) zero h e = rw e (omega arith)
isolate-weight (s ∷ ss) (suc p) h e = omega (arith, isolate-weight ss p (omega arith) e)

gate-cost : (ch : List Component) (st : List ComponentStatus) (p : ℕ) → p < length st → length (gate_says ch st p) + weight (gate st p) ≤ weight st
gate-cost ch st p h = by-test (iso (status_at st p)) (λ t. rw t (omega arith)) (λ t. rw t (omega (arith, isolate-weight st p h t)))

pub gates-cost : (ch : List Component) (st : List ComponentStatus) (ps : List ℕ) → Within (length st) ps → length (gates_say ch st ps) + weight (gates st ps) ≤ weight st
unfolding gates gates_say
gates-cost ch st [] w = omega arith
gates-cost ch st (p ∷ ps) w =
    omega (
      arith,
      length-append (gate_says ch st p) (gates_say ch (gate st p) ps),
      gate-cost ch st p (w p (Memᴰ.head refl)),
      gates-cost ch (gate st p) ps (rw (gate-length st p) (λ q m. w q (Memᴰ.tail m))),
    )

-- ---- Advance
-- Where the walk stops before the end stands one that is not Isolated, so the list weighs 2 at least.
ahead-weight : (st : List ComponentStatus) → isolated_ahead st < length st → 2 ≤ weight st
unfolding isolated_ahead weight
ahead-weight [] = λ h. absurd (omega arith)
ahead-weight (s ∷ ss) = by-test (iso s) (λ t. rw t (λ h. omega (arith, ahead-weight ss (omega arith)))) (λ t. rw t (λ h. omega arith))

seek-weight : (st : List ComponentStatus) (p : ℕ) → seek st p < length st → 2 ≤ weight st
seek-weight st p h = omega (arith, ahead-weight (drop p st) (omega (arith, length-drop p st)), weight-drop p st)

-- Advancing hands out no more than the weight.
pub advance-cost : (ch : List Component) (st : List ComponentStatus) (p : ℕ) → length st ≡ length ch → length (verify_says ch (seek st p)) ≤ weight st
advance-cost ch st p z =
    pick_p (λ (es : List Effect). length es ≤ weight st) (ltb (seek st p) (length ch))
    (λ t. seek-weight st p (omega (arith, ltb-true (seek st p) (length ch) t)))
    (λ t. omega arith)

-- ---- Quiesce
-- How many are released.
unfoldable live : List ComponentStatus → ℕ
live [] = 0
live (s ∷ ss) = pick s.released 1 0 + live ss

-- Quiescing hands out one effect for each released one.
quiet-live : (ch : List Component) (st : List ComponentStatus) → length (quiet_says ch st) ≤ live st
unfolding quiet_says live
quiet-live [] st = omega arith
quiet-live (c ∷ cs) [] = omega arith
quiet-live (c ∷ cs) (s ∷ ss) = by-test s.released (λ t. rw t (omega (arith, quiet-live cs ss))) (λ t. rw t (omega (arith, quiet-live cs ss)))

released-weight : (s : ComponentStatus) → pick s.released 1 0 ≤ weigh s
released-weight s =
    pick_p (λ (n : ℕ). pick s.released 1 0 ≤ n) (iso s)
    (λ t. omega arith)
    (λ t. pick_p (λ (n : ℕ). n ≤ 2) s.released (λ u. omega arith) (λ u. omega arith))

-- Each of them weighs 1 at least,
live-weight : (st : List ComponentStatus) → live st ≤ weight st
unfolding live weight
live-weight [] = omega arith
live-weight (s ∷ ss) = omega (arith, released-weight s, live-weight ss)

pub quiesced-iso : (s : ComponentStatus) → iso (quiesced s) ≡ iso s
quiesced-iso s = pick_p (λ (r : ComponentStatus). iso r ≡ iso s) s.released (λ t. refl) (λ t. refl)

-- and one that is not Isolated weighs more than is handed out for it.
live-spare : (st : List ComponentStatus) → isolated_ahead (map quiesced st) < length st → suc (live st) ≤ weight st
unfolding isolated_ahead live weight
live-spare [] = λ h. absurd (omega arith)
live-spare (s ∷ ss) =
    rw (quiesced-iso s)
    (by-test (iso s)
    (λ t. rw t (λ h. omega (arith, live-spare ss (omega arith))))
    (λ t. rw t (λ h. omega (arith, pick-most, live-weight ss))))
  where
    pick-most : pick s.released 1 0 ≤ 1
    pick-most = pick_p (λ (n : ℕ). n ≤ 1) s.released (λ u. omega arith) (λ u. omega arith)

-- So a new walk, which quiesces and then advances from 0, hands out one effect more than the weight at most.
pub walk-cost : (ch : List Component) (st : List ComponentStatus) → length st ≡ length ch → length (quiet_says ch st ++ verify_says ch (seek (map quiesced st) 0)) ≤ 1 + weight st
walk-cost ch st z =
    rw (length-append (quiet_says ch st) (verify_says ch (seek (map quiesced st) 0)))
    (pick_p (λ (es : List Effect). length (quiet_says ch st) + length es ≤ 1 + weight st) (ltb (seek (map quiesced st) 0) (length ch))
    (λ t. omega (arith, quiet-live ch st, live-spare st (omega (arith, ltb-true (seek (map quiesced st) 0) (length ch) t))))
    (λ t. omega (arith, quiet-live ch st, live-weight st)))
