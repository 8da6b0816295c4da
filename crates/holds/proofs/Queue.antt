-- A queue makes the cascade: at any moment it holds the rest of one level and the start of the next, and these with all that is
-- still to come behind them give the whole.
use mathlib.Core.Path.{◌≡◌, refl, sym, ◌∙◌, ap, subst}
use mathlib.Core.List.Memᴰ
use mathlib.Core.List.{List, [], ◌∷◌, ◌++◌, append_assoc, append-nil, Memᴰ}
use Prim.Native.Nat.{ℕ, zero, suc, ◌≤◌, ◌<◌}
use native.Mathlib.Omega.{arith}
use lib.ListN.{length, take, drop, get_or, length-append, length-drop, take-append-drop, drop_of_length-le}
use lib.Seq.{take_all, take-suc, drop-cons, take-append-le, drop-append-le}
use Rattle.model.specs.declared.Component.{Component}
use Rattle.components.specs.Chain.{Sound}
use Rattle.holds.specs.Cascade.{below, children_in, children_of, spread, cascade}
use Rattle.holds.proofs.Below.{in-append}
use Rattle.holds.proofs.Closed.{Late, level-late, root-late, cascade-within}

-- The direct dependents of the component at h.
abbrev pub kids : List Component → ℕ → List ℕ
kids ch h = children_in ch h (below (length ch))

-- The first k of l are done; what is left is `this`, the rest of one level, and `next`, as much of the next as is known.
pub record Going (ch : List Component) (root k : ℕ) (l : List ℕ) : Type 0 where
  pub levels : ℕ
  pub this : List ℕ
  pub next : List ℕ
  pub left : drop k l ≡ this ++ next
  pub whole : take k l ++ (this ++ spread ch levels (next ++ children_of ch this)) ≡ cascade ch root
  pub late : Late ch levels (next ++ children_of ch this)

spread-nil : (ch : List Component) (n : ℕ) → spread ch n [] ≡ []
unfolding spread children_of
spread-nil ch zero = refl
spread-nil ch (suc n) = spread-nil ch n

spread-long : (ch : List Component) (n : ℕ) (hs : List ℕ) → length hs ≤ length (spread ch n hs)
unfolding spread
spread-long ch zero hs = omega arith
spread-long ch (suc n) hs = omega (arith, length-append hs (spread ch n (children_of ch hs)))

module _ (k : ℕ) (ch : List Component) (s : Sound k ch) (root : ℕ) where
  -- It starts with the root.
  pub begun : root < length ch → Going ch root 0 (root ∷ [])
  unfolding cascade spread
  begun b = by_length (length ch) refl (root-late k ch s root b)
    where
      by_length : (n : ℕ) → length ch ≡ n → Late ch n (root ∷ []) → Going ch root 0 (root ∷ [])
      by_length zero e d = absurd (omega arith)
      by_length (suc n) e d =
          record {
            levels = n;
            this = root ∷ [];
            next = [];
            left = refl;
            whole = rw e;
            late = level-late k ch s n (root ∷ []) d;
          }

  -- The front goes out and its direct dependents go to the back,
  out : (i : ℕ) (l : List ℕ) → i < length l → (n h : ℕ) (this next : List ℕ) → drop i l ≡ h ∷ (this ++ next)
      → take i l ++ (h ∷ (this ++ spread ch n (next ++ (kids ch h ++ children_of ch this)))) ≡ cascade ch root
      → Late ch n (next ++ (kids ch h ++ children_of ch this))
      → Going ch root (suc i) (l ++ kids ch (get_or l i 0))
  out i l b n h this next e w d =
      let c : get_or l i 0 ∷ drop (suc i) l ≡ h ∷ (this ++ next) = sym (drop-cons l i 0 b) ∙ e in
      let f : get_or l i 0 ≡ h = cc in
      let r : drop (suc i) l ≡ this ++ next = cc in
      record {
        levels = n;
        this = this;
        next = next ++ kids ch h;
        left = rw (f, drop-append-le (suc i) l (kids ch h) (omega arith), r, append_assoc this next (kids ch h));
        whole = rw (f, take-append-le (suc i) l (kids ch h) (omega arith), take-suc l i 0 b, f) (simp append_assoc w);
        late = rw (append_assoc next (kids ch h) (children_of ch this)) d;
      }

  -- from the level at hand, or from the next one where that is used up.
  pub onward : (i : ℕ) (l : List ℕ) → i < length l → Going ch root i l → Going ch root (suc i) (l ++ kids ch (get_or l i 0))
  unfolding children_of spread
  onward i l b g = by_level g.levels g.this g.next g.left g.whole g.late
    where
      by_level : (n : ℕ) (this next : List ℕ) → drop i l ≡ this ++ next
          → take i l ++ (this ++ spread ch n (next ++ children_of ch this)) ≡ cascade ch root
          → Late ch n (next ++ children_of ch this)
          → Going ch root (suc i) (l ++ kids ch (get_or l i 0))
      by_level n (h ∷ this) next e w d = out i l b n h this next e w d
      by_level n [] [] e w d = absurd (omega (arith, length-drop i l, ap length e))
      by_level zero [] (h ∷ next) e w d = let z = d h (Memᴰ.head refl) in absurd (omega (arith, z.0, z.1))
      by_level (suc n) [] (h ∷ next) e w d =
          let a : (h ∷ next) ++ [] ≡ h ∷ next = append-nil (h ∷ next) in
          let v : take i l ++ spread ch (suc n) (h ∷ next) ≡ cascade ch root = subst (λ (m : List ℕ). take i l ++ spread ch (suc n) m ≡ cascade ch root) a w in
          out i l b n h next [] (e ∙ sym a) v (level-late k ch s n (h ∷ next) (subst (Late ch (suc n)) a d))

  -- Where the queue is empty, all is done.
  pub over : (i : ℕ) (l : List ℕ) → length l ≤ i → Going ch root i l → l ≡ cascade ch root
  unfolding children_of
  over i l b g = by-rest g.levels g.this g.next (sym (drop_of_length-le l {i = i} b) ∙ g.left) g.whole
    where
      by-rest : (n : ℕ) (this next : List ℕ) → [] ≡ this ++ next
          → take i l ++ (this ++ spread ch n (next ++ children_of ch this)) ≡ cascade ch root → l ≡ cascade ch root
      by-rest n [] [] e w = rw (spread-nil ch n, append-nil, take_all i l b) at w
      by-rest n [] (h ∷ next) e w = absurd (omega (arith, ap length e))
      by-rest n (h ∷ this) next e w = absurd (omega (arith, ap length e))

  -- The queue is never longer than the cascade.
  pub fits : (i : ℕ) (l : List ℕ) → Going ch root i l → length l ≤ length (cascade ch root)
  fits i l g =
      let rest = g.next ++ children_of ch g.this in
      omega (
        arith,
        simp length-append at (ap length (take-append-drop i l)),
        simp length-append at (ap length g.left),
        simp length-append at (ap length g.whole),
        length-append g.next (children_of ch g.this),
        spread-long ch g.levels rest,
      )

  -- The front is a position of the chain: of the cascade, or of the level that comes.
  pub front-within : root < length ch → (i : ℕ) (l : List ℕ) → i < length l → Going ch root i l → get_or l i 0 < length ch
  front-within b i l h g =
      in-append g.this
      (λ m. cascade-within ch root b (get_or l i 0) (subst (Memᴰ (get_or l i 0)) g.whole (Memᴰ.append_right (take i l) (Memᴰ.append_left (spread ch g.levels (g.next ++ children_of ch g.this)) m))))
      (λ m. (g.late (get_or l i 0) (Memᴰ.append_left (children_of ch g.this) m)).0)
      (subst (Memᴰ (get_or l i 0)) (sym (drop-cons l i 0 h) ∙ g.left) (Memᴰ.head refl))
