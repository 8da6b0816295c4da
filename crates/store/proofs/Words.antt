-- The digits of words, against lists of flags. Each law is over any width k, so that a list of 64 is never written out.
use mathlib.Core.Path.{◌≡◌, refl, sym, ap, ap₂, ◌∙◌, subst}
use mathlib.Core.Bool.{Bool, true, false}
use mathlib.Core.List.{List, [], ◌∷◌, ◌++◌}
use Prim.Native.Nat.{ℕ, zero, suc, ◌+◌, ◌-◌, ◌*◌, ◌/◌, ◌%◌, ◌^◌, ◌≤◌, ◌<◌}
use native.Mathlib.Nat.{div-one, zero-mul, zero-add, suc-mul, add_assoc, add_comm, pow-suc, mod-lt, div-eq_of_lt, lt_of_not-le, lt_of_lt_of_le, lt_of_le_of_lt, one-mul, suc-add}
use native.Mathlib.Numerals.{one-add}
use native.Mathlib.Omega.{arith}
use lib.Dec.{eqb, lit<}
use lib.ListN.{length, get_or, set, length-append, get_or-append}
use lib.Seq.{get_or-append-add, set-append_left}
use lib.Pow.{shr-shr, shr_le, shl_exact, pow_mono, pow_pos}
use lib.Bits.{bit_or, or_shr, or_mod, or_zero_r}
use lib.Count.{ones, ones_step, count_trailing_zeros, under}
use borrow.Author.Tests.{eq-eqb}
use Rattle.std.specs.List.{sum_by}
use Rattle.std.proofs.lemmas.List.Sums.{sum_by-cons}
use Rattle.store.specs.Flags.{digits, flags_of, trues}

-- ---- one word

pub length_digits : (k w : ℕ) → length (digits k w) ≡ k
unfolding digits
length_digits zero w = refl
length_digits (suc k) w = ap suc (length_digits k (w / 2))

-- halved once and then j times is halved j + 1 times
half-first : (w j : ℕ) → w / 2 / 2 ^ j ≡ w / 2 ^ suc j
half-first w j = shr-shr w 1 j ∙ ap (λ (m : ℕ). w / 2 ^ m) (one-add j)

-- digit j is the lowest of the word shifted by j
digit_at : (k w j : ℕ) → j < k → get_or (digits k w) j false ≡ eqb (w / 2 ^ j % 2) 1
unfolding digits
digit_at zero w j h = absurd (omega arith)
digit_at (suc k) w zero h = ap (λ (x : ℕ). eqb (x % 2) 1) (sym (div-one w))
digit_at (suc k) w (suc j) h = digit_at k (w / 2) j (omega arith) ∙ ap (λ (x : ℕ). eqb (x % 2) 1) (half-first w j)

-- ---- `|` with one bit sets one digit

or-one : (x : ℕ) → x < 2 → bit_or x 1 ≡ 1
or-one zero h = refl
or-one (suc zero) h = refl
or-one (suc (suc x)) h = absurd (omega arith)

pow-half : (j : ℕ) → 2 ^ suc j / 2 ≡ 2 ^ j
pow-half j = rw (pow-suc 2 j) (omega arith)

pow_even : (j : ℕ) → 2 ^ suc j % 2 ≡ 0
pow_even j = rw (pow-suc 2 j) (omega arith)

or-digit : (k w j : ℕ) → j < k → digits k (bit_or w (2 ^ j)) ≡ set (digits k w) j true
unfolding digits
or-digit zero w j h = absurd (omega arith)
or-digit (suc k) w zero h =
    ap₂ (λ (x y : ℕ). eqb x 1 ∷ digits k y) (or_mod w 1 1 ∙ or-one (w % 2) (mod-lt w (pow_pos 1))) (or_shr w 1 1 ∙ or_zero_r (w / 2))
or-digit (suc k) w (suc j) h =
    ap₂ (λ (x : ℕ) (y : List Bool). eqb x 1 ∷ y)
    (or_mod w (2 ^ suc j) 1 ∙ ap (bit_or (w % 2)) (pow_even j) ∙ or_zero_r (w % 2))
    (ap (digits k) (or_shr w (2 ^ suc j) 1 ∙ ap (bit_or (w / 2)) (pow-half j)) ∙ or-digit k (w / 2) j (omega arith))

-- ---- the words, one after the other

pub length-words : (k : ℕ) (ws : List ℕ) → length (flags_of k ws) ≡ length ws * k
unfolding flags_of
length-words k [] = sym (zero-mul k)
length-words k (w ∷ ws) =
    length-append (digits k w) (flags_of k ws) ∙ ap₂ (λ (x y : ℕ). x + y) (length_digits k w) (length-words k ws)
    ∙ add_comm k (length ws * k) ∙ sym (suc-mul (length ws) k)

-- position i * k + j, where it is in the first word and where it is after it
first_word : (k j : ℕ) → 0 * k + j ≡ j
first_word k j = ap (λ (x : ℕ). x + j) (zero-mul k) ∙ zero-add j

next_word : (k w i j : ℕ) → suc i * k + j ≡ length (digits k w) + (i * k + j)
next_word k w i j =
    ap (λ (x : ℕ). x + j) (suc-mul i k ∙ add_comm (i * k) k) ∙ add_assoc k (i * k) j
    ∙ ap (λ (x : ℕ). x + (i * k + j)) (sym (length_digits k w))

at-word : (k : ℕ) (ws : List ℕ) (i j : ℕ) → i < length ws → j < k → get_or (flags_of k ws) (i * k + j) false ≡ get_or (digits k (get_or ws i 0)) j false
unfolding flags_of
at-word k [] i j hi hj = absurd (omega arith)
at-word k (w ∷ ws) zero j hi hj =
    ap (λ (p : ℕ). get_or (digits k w ++ flags_of k ws) p false) (first_word k j)
    ∙ get_or-append (digits k w) (flags_of k ws) false j (subst (λ (n : ℕ). j < n) (sym (length_digits k w)) hj)
at-word k (w ∷ ws) (suc i) j hi hj =
    ap (λ (p : ℕ). get_or (digits k w ++ flags_of k ws) p false) (next_word k w i j)
    ∙ get_or-append-add (digits k w) (flags_of k ws) (i * k + j) false ∙ at-word k ws i j (omega arith) hj

set-append-add : (xs ys : List Bool) (n : ℕ) (b : Bool) → set (xs ++ ys) (length xs + n) b ≡ xs ++ set ys n b
set-append-add [] ys n b = ap (λ (m : ℕ). set ys m b) (zero-add n)
set-append-add (x ∷ xs) ys n b = ap (λ (m : ℕ). set (x ∷ xs ++ ys) m b) (suc-add (length xs) n) ∙ ap (λ (l : List Bool). x ∷ l) (set-append-add xs ys n b)

-- a word changed in one digit changes the flags at one position
set_word : (k : ℕ) (ws : List ℕ) (i j v : ℕ) (b : Bool) → i < length ws → j < k → digits k v ≡ set (digits k (get_or ws i 0)) j b
    → flags_of k (set ws i v) ≡ set (flags_of k ws) (i * k + j) b
unfolding flags_of
set_word k [] i j v b hi hj e = absurd (omega arith)
set_word k (w ∷ ws) zero j v b hi hj e =
    ap (λ (l : List Bool). l ++ flags_of k ws) e
    ∙ sym (set-append_left (digits k w) (flags_of k ws) j b (subst (λ (n : ℕ). j < n) (sym (length_digits k w)) hj))
    ∙ ap (λ (p : ℕ). set (digits k w ++ flags_of k ws) p b) (sym (first_word k j))
set_word k (w ∷ ws) (suc i) j v b hi hj e =
    ap (λ (l : List Bool). digits k w ++ l) (set_word k ws i j v b (omega arith) hj e)
    ∙ sym (set-append-add (digits k w) (flags_of k ws) (i * k + j) b)
    ∙ ap (λ (p : ℕ). set (digits k w ++ flags_of k ws) p b) (sym (next_word k w i j))

-- ---- counting the ones

trues-append : (a b : List Bool) → trues (a ++ b) ≡ trues a + trues b
unfolding trues
trues-append [] b = sym (zero-add (trues b))
trues-append (true ∷ a) b = ap suc (trues-append a b) ∙ sym (suc-add (trues a) (trues b))
trues-append (false ∷ a) b = trues-append a b

trues-digit : (x : ℕ) (l : List Bool) → x < 2 → trues (eqb x 1 ∷ l) ≡ x + trues l
unfolding trues
trues-digit zero l h = sym (zero-add (trues l))
trues-digit (suc zero) l h = sym (one-add (trues l))
trues-digit (suc (suc x)) l h = absurd (omega arith)

trues-digits : (k w : ℕ) → w < 2 ^ k → trues (digits k w) ≡ ones w
unfolding digits trues ones
trues-digits zero w h = ap ones (let e : 0 ≡ w = omega arith in e)
trues-digits (suc k) w h =
    trues-digit (w % 2) (digits k (w / 2)) (mod-lt w (pow_pos 1))
    ∙ ap (λ (x : ℕ). w % 2 + x) (trues-digits k (w / 2) (let g = rw (pow-suc 2 k) at h in omega arith))
    ∙ sym (ones_step w)

pub trues-words : (k : ℕ) (ws : List ℕ) → ((i : ℕ) → get_or ws i 0 < 2 ^ k) → trues (flags_of k ws) ≡ sum_by ones ws
unfolding flags_of trues
trues-words k [] f = refl
trues-words k (w ∷ ws) f =
    trues-append (digits k w) (flags_of k ws) ∙ ap₂ (λ (x y : ℕ). x + y) (trues-digits k w (f 0)) (trues-words k ws (λ i. f (suc i)))
    ∙ sym (sum_by-cons ones w ws)

-- ---- a run of ones

-- the lowest digit of the complement, and what is left of it without that digit
not-odd : (k v : ℕ) → v < 2 ^ suc k → ((2 ^ suc k - 1) - v) % 2 ≡ 1 - v % 2
not-odd k v h = let g = rw (pow-suc 2 k) at h in rw (pow-suc 2 k) (omega arith)

not-half : (k v : ℕ) → v < 2 ^ suc k → ((2 ^ suc k - 1) - v) / 2 ≡ (2 ^ k - 1) - v / 2
not-half k v h = let g = rw (pow-suc 2 k) at h in rw (pow-suc 2 k) (omega arith)

-- how many of v's k digits are 1 in a row, from the lowest on: the zeros below the complement's lowest 1
abbrev pub run : ℕ → ℕ → ℕ
run k v = count_trailing_zeros k ((2 ^ k - 1) - v)

run_step : (k v : ℕ) → v < 2 ^ suc k → run (suc k) v ≡ under (1 - v % 2) (run k (v / 2))
unfolding count_trailing_zeros
run_step k v h = ap₂ (λ (x y : ℕ). under x (count_trailing_zeros k y)) (not-odd k v h) (not-half k v h)

-- an empty run: the lowest digit is 0
run-stop : (k v : ℕ) → v < 2 ^ suc k → run (suc k) v ≡ 0 → v % 2 ≡ 0
run-stop k v h e = go (v % 2) (mod-lt v (pow_pos 1)) (sym (run_step k v h) ∙ e)
  where
    go : (x : ℕ) → x < 2 → under (1 - x) (run k (v / 2)) ≡ 0 → x ≡ 0
    go zero l p = refl
    go (suc zero) l p = absurd (omega arith)
    go (suc (suc x)) l p = absurd (omega arith)

-- each digit of the run is 1
run-set : (k v i : ℕ) → v < 2 ^ k → i < run k v → v / 2 ^ i % 2 ≡ 1
unfolding count_trailing_zeros
run-set zero v i h l = absurd (omega arith)
run-set (suc k) v i h l =
    go (v % 2) refl (mod-lt v (pow_pos 1)) i (subst (λ (n : ℕ). i < n) (run_step k v h) l)
    (λ j g. run-set k (v / 2) j (let q = rw (pow-suc 2 k) at h in omega arith) g)
  where
    go : (x : ℕ) → v % 2 ≡ x → x < 2 → (i : ℕ) → i < under (1 - x) (run k (v / 2)) → ((j : ℕ) → j < run k (v / 2) → v / 2 / 2 ^ j % 2 ≡ 1) → v / 2 ^ i % 2 ≡ 1
    go zero e lx i l rest = absurd (omega arith)
    go (suc zero) e lx zero l rest = ap (λ (n : ℕ). n % 2) (div-one v) ∙ e
    go (suc zero) e lx (suc i) l rest = ap (λ (n : ℕ). n % 2) (sym (half-first v i)) ∙ rest i (omega arith)
    go (suc (suc x)) e lx i l rest = absurd (omega arith)

-- a 1 of a number of k digits stands below k
digit-below : (k w m : ℕ) → w < 2 ^ k → w / 2 ^ m % 2 ≡ 1 → m < k
digit-below k w m h e =
    lt_of_not-le (λ (g : k ≤ m).
    let z : w / 2 ^ m ≡ 0 = div-eq_of_lt (lt_of_lt_of_le h (pow_mono g)) in
    let q = rw z at e in omega arith)

-- ---- 64 digits to a word: position p is digit p % 64 of word p / 64

pub at_position : (ws : List ℕ) (p : ℕ) → p < length ws * 64 → get_or (flags_of 64 ws) p false ≡ eqb (get_or ws (p / 64) 0 / 2 ^ (p % 64) % 2) 1
at_position ws p h =
    ap (λ (q : ℕ). get_or (flags_of 64 ws) q false) (let q : p ≡ p / 64 * 64 + p % 64 = omega arith in q)
    ∙ at-word 64 ws (p / 64) (p % 64) (omega arith) (omega arith) ∙ digit_at 64 (get_or ws (p / 64) 0) (p % 64) (omega arith)

pub set-position : (ws : List ℕ) (p : ℕ) → p < length ws * 64
    → flags_of 64 (set ws (p / 64) (bit_or (get_or ws (p / 64) 0) (1 * 2 ^ (p % 64) % 2 ^ 64))) ≡ set (flags_of 64 ws) p true
set-position ws p h =
    ap (λ (x : ℕ). flags_of 64 (set ws (p / 64) (bit_or (get_or ws (p / 64) 0) x))) (shl_exact 1 (p % 64) 64 (lit< {m = 1} tt) (omega arith) ∙ one-mul (2 ^ (p % 64)))
    ∙ set_word 64 ws (p / 64) (p % 64) (bit_or (get_or ws (p / 64) 0) (2 ^ (p % 64))) true (omega arith) (omega arith)
    (or-digit 64 (get_or ws (p / 64) 0) (p % 64) (omega arith))
    ∙ ap (λ (q : ℕ). set (flags_of 64 ws) q true) (let q : p / 64 * 64 + p % 64 ≡ p = omega arith in q)

-- each position of the run that starts at p is isolated; where the run is empty, p is not
pub run-members : (ws : List ℕ) (p i : ℕ) → p < length ws * 64 → get_or ws (p / 64) 0 < 2 ^ 64 → i < run 64 (get_or ws (p / 64) 0 / 2 ^ (p % 64))
    → get_or (flags_of 64 ws) (p + i) false ≡ true
run-members ws p i h hw l =
    let w = get_or ws (p / 64) 0 in
    let one : w / 2 ^ (p % 64 + i) % 2 ≡ 1 =
    ap (λ (x : ℕ). x % 2) (sym (shr-shr w (p % 64) i)) ∙ run-set 64 (w / 2 ^ (p % 64)) i (lt_of_le_of_lt (shr_le w (p % 64)) hw) l in
    let in-word = digit-below 64 w (p % 64 + i) hw one in
    let same_word : (p + i) / 64 ≡ p / 64 = omega arith in
    let digit : (p + i) % 64 ≡ p % 64 + i = omega arith in
    at_position ws (p + i) (omega arith) ∙ ap₂ (λ (x y : ℕ). eqb (get_or ws x 0 / 2 ^ y % 2) 1) same_word digit ∙ eq-eqb _ 1 one

pub run_none : (ws : List ℕ) (p : ℕ) → p < length ws * 64 → get_or ws (p / 64) 0 < 2 ^ 64 → run 64 (get_or ws (p / 64) 0 / 2 ^ (p % 64)) ≡ 0
    → get_or (flags_of 64 ws) p false ≡ false
run_none ws p h hw e =
    let w = get_or ws (p / 64) 0 in
    at_position ws p h ∙ ap (λ (x : ℕ). eqb x 1) (run-stop 63 (w / 2 ^ (p % 64)) (lt_of_le_of_lt (shr_le w (p % 64)) hw) e)
