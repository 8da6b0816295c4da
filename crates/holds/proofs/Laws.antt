-- The set joined with the stored statuses: the search for one that is free, every one changed; quiescing.
use mathlib.Core.Path.{◌≡◌, refl, sym, ap, ap₂, ◌∙◌}
use mathlib.Core.Bool.{Bool, true, false}
use mathlib.Core.List.{List, [], ◌∷◌, ◌++◌, map, append-nil, append_assoc}
use Prim.Native.Nat.{ℕ, zero, suc, ◌+◌, ◌≤◌, ◌<◌}
use native.Mathlib.Numerals.{add-one}
use native.Mathlib.Omega.{arith}
use lib.ListN.{length, take, drop, length-take, length-drop, drop_of_length-le}
use lib.Seq.{take-suc-set, drop-set-lt, drop-cons, take_all}
use Rattle.model.specs.Vocabulary.{pick}
use Rattle.components.specs.Chain.{blank}
use Rattle.model.proofs.Pick.{pick_p}
use Rattle.model.specs.declared.Component.{Component}
use Rattle.store.specs.Flags as set-of
use Rattle.store.specs.declared.Status.{Status}
use Rattle.store.specs.Retry.{no_retry}
use Rattle.machine.specs.declared.ComponentStatus.{ComponentStatus}
use Rattle.machine.specs.Status.{fresh, status_at, iso, touch, retry_is}
use Rattle.holds.specs.Advance.{isolated_ahead, seek, quiet_one, quiet_says, quiesced}
use Rattle.machine.specs.View.{status_of, joined}
use Rattle.machine.proofs.Laws.{seen}

-- ---- two lists joined

joined-drop : (n : ℕ) (bs : List Bool) (ss : List Status) → drop n (joined bs ss) ≡ joined (drop n bs) (drop n ss)
unfolding joined
joined-drop zero bs ss = refl
joined-drop (suc n) [] ss = refl
joined-drop (suc n) (b ∷ bs) [] = other (drop n bs)
  where
    other : (l : List Bool) → [] ≡ joined l []
    other [] = refl
    other (x ∷ l) = refl
joined-drop (suc n) (b ∷ bs) (s ∷ ss) = joined-drop n bs ss

joined-ahead : (bs : List Bool) (ss : List Status) → length bs ≤ length ss → isolated_ahead (joined bs ss) ≡ set-of.isolated_ahead bs
unfolding joined isolated_ahead set-of.isolated_ahead
joined-ahead [] ss h = refl
joined-ahead (b ∷ bs) [] h = absurd (omega arith)
joined-ahead (true ∷ bs) (s ∷ ss) h = ap suc (joined-ahead bs ss (omega arith))
joined-ahead (false ∷ bs) (s ∷ ss) h = refl

joined-map : (f : ComponentStatus → ComponentStatus) (g : Status → Status) → ((b : Bool) (s : Status) → status_of b (g s) ≡ f (status_of b s))
    → (bs : List Bool) (ss : List Status) → joined bs (map g ss) ≡ map f (joined bs ss)
unfolding joined
joined-map f g same [] ss = refl
joined-map f g same (b ∷ bs) [] = refl
joined-map f g same (b ∷ bs) (s ∷ ss) = ap₂ (λ (x : ComponentStatus) (t : List ComponentStatus). x ∷ t) (same b s) (joined-map f g same bs ss)

-- ---- the first n of each: what is seen of a chain of n components

-- The search over the statuses is the search over the set.
pub ahead-view : (n : ℕ) (bs : List Bool) (ss : List Status) (hb : n ≤ length bs) (hs : n ≤ length ss) (p : ℕ) → seek (seen n bs ss) p ≡ p + set-of.isolated_ahead (drop p (take n bs))
ahead-view n bs ss hb hs p =
    ap (λ (k : ℕ). p + k) (ap isolated_ahead (joined-drop p (take n bs) (take n ss))
    ∙ joined-ahead (drop p (take n bs)) (drop p (take n ss)) (simp (length-drop, length-take) (omega arith)))

-- Every retry count cleared, whatever is stored past the chain.
pub clear-view : (n : ℕ) (bs : List Bool) (ss kept : List Status) → take n kept ≡ map no_retry (take n ss) → seen n bs kept ≡ map (retry_is 0) (seen n bs ss)
clear-view n bs ss kept e = ap (joined (take n bs)) e ∙ joined-map (retry_is 0) no_retry (λ b s. refl) (take n bs) (take n ss)

-- ---- the search

ahead-le : (st : List ComponentStatus) → isolated_ahead st ≤ length st
unfolding isolated_ahead
ahead-le [] = omega arith
ahead-le (s ∷ st) = pick_p (λ (k : ℕ). k ≤ suc (length st)) (iso s) (λ e. omega (arith, ahead-le st)) (λ e. omega arith)

-- The search ends in the chain or at its end.
pub seek-le : (st : List ComponentStatus) (p : ℕ) → p ≤ length st → seek st p ≤ length st
seek-le st p h = omega (arith, ahead-le (drop p st), length-drop p st)

-- ---- quiescing from place i on

one_more : {A : Type 0} (t : Bool) (x : A) (l : List A) → pick t (x ∷ l) l ≡ pick t (x ∷ []) [] ++ l
one_more true x l = refl
one_more false x l = refl

module _ (ch : List Component) (st : List ComponentStatus) (i : ℕ) (hs : i < length st) where
  pub quiet-more : take i st ++ map quiesced (drop i st) ≡ take (i + 1) (touch quiesced st i) ++ map quiesced (drop (i + 1) (touch quiesced st i))
  quiet-more =
      let x = quiesced (status_at st i) in
      rw (add-one i, take-suc-set st i x hs, drop-set-lt (suc i) st i x (omega arith), drop-cons st i fresh hs) (sym (append_assoc (take i st) (x ∷ []) (map quiesced (drop (suc i) st))))

  pub quiet-says : i < length ch → quiet_says (drop i ch) (drop i st) ≡ quiet_one ch st i ++ quiet_says (drop (i + 1) ch) (drop (i + 1) (touch quiesced st i))
  unfolding quiet_says
  quiet-says hc =
      rw (add-one i, drop-set-lt (suc i) st i (quiesced (status_at st i)) (omega arith), drop-cons ch i blank hc, drop-cons st i fresh hs)
      (one_more (status_at st i).released _ _)

pub quiet-end : (st : List ComponentStatus) (i : ℕ) → length st ≤ i → take i st ++ map quiesced (drop i st) ≡ st
quiet-end st i h = rw (drop_of_length-le st h, take_all i st h) (append-nil st)

pub quiet-silent : (ch : List Component) (st : List ComponentStatus) (i : ℕ) → length ch ≤ i → quiet_says (drop i ch) (drop i st) ≡ []
unfolding quiet_says
quiet-silent ch st i h = rw (drop_of_length-le ch h)
