-- What the crates above cite: the length of the flags, reading and counting after a flag is set, and the search for a free position.
use mathlib.Core.Path.{◌≡◌, refl, sym, ap, ◌∙◌}
use mathlib.Core.Bool.{Bool, true, false}
use mathlib.Core.List.{List, [], ◌∷◌}
use Prim.Native.Nat.{ℕ, zero, suc, ◌+◌, ◌-◌, ◌*◌, ◌/◌, ◌%◌, ◌^◌, ◌≤◌, ◌<◌}
use native.Mathlib.Omega.{arith}
use native.Mathlib.Decide.{dec_lt}
use lib.Dec.{eqb}
use lib.ListN.{length, get_or, take, drop, set, replicate, length-take, length-drop, get_or-eq_default}
use lib.Seq.{get_or-take, get_or-drop, get_or-set_same, get_or-set_other, set-get_or}
use borrow.Author.Tests.{lt-ltb, le-ltb}
use Rattle.store.specs.declared.Isolated.{Isolated}
use Rattle.store.specs.Flags.{flags, isolated_ahead, next_free, trues}
use Rattle.model.specs.Vocabulary.{pick}
use Rattle.store.proofs.Words.{length-words, at_position}

-- false is not true
apart : {A : Type 0} → false ≡ true → A
apart e = let z : ◌≡◌ {A = ℕ} 0 1 = cc in absurd (omega arith)

-- ---- the length

-- 256 flags, for four words. In a proof of code that holds an `Isolated` s, `search rules` shows `length s.words ≡ 4`: s owns an array of four
pub length-flags : (s : Isolated) → length s.words ≡ 4 → length (flags s) ≡ 256
unfolding flags
length-flags s four = length-words 64 s.words ∙ ap (λ (n : ℕ). n * 64) four

-- what the C side reads: flag p is bit p mod 64, lowest first, of word p / 64
pub flag-is-bit : (s : Isolated) (p : ℕ) → length s.words ≡ 4 → p < 256 → get_or (flags s) p false ≡ eqb (get_or s.words (p / 64) 0 / 2 ^ (p % 64) % 2) 1
unfolding flags
flag-is-bit s p four h = at_position s.words p (omega arith)

-- ---- reading after a flag is set

pub read_same : (l : List Bool) (p : ℕ) → p < length l → get_or (set l p true) p false ≡ true
read_same l p h = get_or-set_same l p true false h

pub read-other : (l : List Bool) (p q : ℕ) → (q ≡ p → ⊥) → get_or (set l p true) q false ≡ get_or l q false
read-other l p q h = get_or-set_other l p q true false h

-- what is set already stays as it is
pub set-again : (l : List Bool) (p : ℕ) → get_or l p false ≡ true → set l p true ≡ l
set-again l p e = ap (λ (b : Bool). set l p b) (sym e) ∙ set-get_or l p false

-- ---- counting

pub trues-le : (l : List Bool) → trues l ≤ length l
unfolding trues
trues-le [] = omega arith
trues-le (true ∷ l) = omega (arith, trues-le l)
trues-le (false ∷ l) = omega (arith, trues-le l)

-- one more, where the flag was false
pub trues-set : (l : List Bool) (p : ℕ) → p < length l → get_or l p false ≡ false → trues (set l p true) ≡ suc (trues l)
unfolding trues
trues-set [] p h e = absurd (omega arith)
trues-set (true ∷ l) zero h e = apart (sym e)
trues-set (false ∷ l) zero h e = refl
trues-set (true ∷ l) (suc p) h e = ap suc (trues-set l p (omega arith) e)
trues-set (false ∷ l) (suc p) h e = trues-set l p (omega arith) e

pub trues-none : (n : ℕ) → trues (replicate n false) ≡ 0
unfolding trues
trues-none zero = refl
trues-none (suc n) = trues-none n

-- ---- how many stand isolated at the head

pub ahead-le : (l : List Bool) → isolated_ahead l ≤ length l
unfolding isolated_ahead
ahead-le [] = omega arith
ahead-le (true ∷ l) = omega (arith, ahead-le l)
ahead-le (false ∷ l) = omega arith

pub ahead-set : (l : List Bool) (i : ℕ) → i < isolated_ahead l → get_or l i false ≡ true
unfolding isolated_ahead
ahead-set [] i h = absurd (omega arith)
ahead-set (true ∷ l) zero h = refl
ahead-set (true ∷ l) (suc i) h = ahead-set l i (omega arith)
ahead-set (false ∷ l) i h = absurd (omega arith)

pub ahead-stop : (l : List Bool) → get_or l (isolated_ahead l) false ≡ false
unfolding isolated_ahead
ahead-stop [] = refl
ahead-stop (true ∷ l) = ahead-stop l
ahead-stop (false ∷ l) = refl

-- no other number is so
pub ahead-is : (l : List Bool) (r : ℕ) → ((i : ℕ) → i < r → get_or l i false ≡ true) → get_or l r false ≡ false → isolated_ahead l ≡ r
unfolding isolated_ahead
ahead-is [] zero t f = refl
ahead-is [] (suc r) t f = apart (t 0 (omega arith))
ahead-is (true ∷ l) zero t f = apart (sym f)
ahead-is (true ∷ l) (suc r) t f = ap suc (ahead-is l r (λ i g. t (suc i) (omega arith)) f)
ahead-is (false ∷ l) zero t f = refl
ahead-is (false ∷ l) (suc r) t f = apart (t 0 (omega arith))

-- ---- the next free position

-- from a on, a list's first n are at most n - a
short : (l : List Bool) (a n : ℕ) → length (drop a (take n l)) ≤ n - a
short l a n = simp (length-drop, length-take) (omega arith)

-- for a start up to n, which is what callers have, the choice in the definition falls away
pub next-from : (l : List Bool) (a n : ℕ) → a ≤ n → next_free l a n ≡ a + isolated_ahead (drop a (take n l))
unfolding next_free
next-from l a n h =
    elim (dec_lt a n) [
      | yes b ↦ ap (λ t. pick t (a + isolated_ahead (drop a (take n l))) n) (lt-ltb a n b)
      | no b ↦ ap (λ t. pick t (a + isolated_ahead (drop a (take n l))) n) (le-ltb a n (omega arith))
          ∙ (let q : n ≡ a + isolated_ahead (drop a (take n l)) = omega (arith, short l a n, ahead-le (drop a (take n l))) in q)
    ]

-- a position below n that is not isolated, with every position from the start up to it isolated
pub next-found : (l : List Bool) (a n r : ℕ) → a ≤ r → r < n → ((i : ℕ) → a ≤ i → i < r → get_or l i false ≡ true) → get_or l r false ≡ false → r ≡ next_free l a n
next-found l a n r ha hr t f =
    let e : isolated_ahead (drop a (take n l)) ≡ r - a =
    ahead-is (drop a (take n l)) (r - a)
    (λ i g. get_or-drop a (take n l) i false ∙ get_or-take n l (a + i) false (omega arith) ∙ t (a + i) (omega arith) (omega arith))
    (get_or-drop a (take n l) (r - a) false ∙ get_or-take n l (a + (r - a)) false (omega arith) ∙ ap (λ (m : ℕ). get_or l m false) (let q : a + (r - a) ≡ r = omega arith in q) ∙ f) in
    omega (arith, next-from l a n (omega arith))

-- n, where every position from the start on and below n is isolated
pub next-none : (l : List Bool) (a n : ℕ) → ((i : ℕ) → a ≤ i → i < n → get_or l i false ≡ true) → n ≡ next_free l a n
unfolding next_free
next-none l a n t =
    elim (dec_lt a n) [
      | yes b ↦ inside b
      | no b ↦ sym (ap (λ t. pick t (a + isolated_ahead (drop a (take n l))) n) (le-ltb a n (omega arith)))
    ]
  where
    inside : a < n → n ≡ next_free l a n
    inside b =
        let e : isolated_ahead (drop a (take n l)) ≡ n - a =
        ahead-is (drop a (take n l)) (n - a)
        (λ i g. get_or-drop a (take n l) i false ∙ get_or-take n l (a + i) false (omega arith) ∙ t (a + i) (omega arith) (omega arith))
        (get_or-eq_default (drop a (take n l)) false (short l a n)) in
        omega (arith, next-from l a n (omega arith))

-- what the answer says: it is in range, every position passed is isolated, and below n it is not
pub next-range : (l : List Bool) (a n : ℕ) → a ≤ n → (a ≤ next_free l a n) × (next_free l a n ≤ n)
next-range l a n h =
    omega (arith, next-from l a n h, short l a n, ahead-le (drop a (take n l)))

pub next-passed : (l : List Bool) (a n i : ℕ) → a ≤ i → i < n → i < next_free l a n → get_or l i false ≡ true
next-passed l a n i ha hn h =
    sym (get_or-take n l i false hn) ∙ ap (λ (m : ℕ). get_or (take n l) m false) (let q : i ≡ a + (i - a) = omega arith in q)
    ∙ sym (get_or-drop a (take n l) (i - a) false) ∙ ahead-set (drop a (take n l)) (i - a) (omega (arith, next-from l a n (omega arith)))

pub next-is-free : (l : List Bool) (a n : ℕ) → a ≤ n → next_free l a n < n → get_or l (next_free l a n) false ≡ false
next-is-free l a n ha h =
    sym (get_or-take n l (next_free l a n) false h) ∙ ap (λ (m : ℕ). get_or (take n l) m false) (next-from l a n ha)
    ∙ sym (get_or-drop a (take n l) (isolated_ahead (drop a (take n l))) false) ∙ ahead-stop (drop a (take n l))
