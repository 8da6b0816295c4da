-- A number's digits: one digit after the others, and how many there are.
use mathlib.Core.Path.{◌≡◌, sym, ap, ◌∙◌}
use mathlib.Core.Bool.{Bool}
use mathlib.Core.List.{List, [], ◌∷◌, ◌++◌}
use Prim.Native.Nat.{ℕ, zero, suc, ◌+◌, ◌*◌, ◌/◌, ◌%◌, ◌^◌, ◌≤◌, ◌<◌}
use native.Mathlib.Nat.{pow-suc}
use native.Mathlib.Omega.{arith}
use lib.Dec.{ltb}
use lib.ListN.{length, length-append}
use borrow.Author.Tests.{lt-ltb, le-ltb}
use Rattle.model.specs.Vocabulary.{pick}
use Rattle.model.proofs.Pick.{pick_p}
use Rattle.text.specs.Text.{digits, decimal}

-- a number below 10 is its own digit
single : (k n : ℕ) → n < 10 → digits k n ≡ (48 + n) ∷ []
unfolding digits
single zero n h = let e : n % 10 ≡ n = omega arith in ap (λ (d : ℕ). (48 + d) ∷ []) e
single (suc k) n h = ap (λ (t : Bool). pick t ((48 + n) ∷ []) (digits k (n / 10) ++ (48 + n % 10) ∷ [])) (lt-ltb n 10 h)

-- any other number has the digits of a tenth of it, and one more
further : (k n : ℕ) → 10 ≤ n → digits (suc k) n ≡ digits k (n / 10) ++ (48 + n % 10) ∷ []
unfolding digits
further k n h = ap (λ (t : Bool). pick t ((48 + n) ∷ []) (digits k (n / 10) ++ (48 + n % 10) ∷ [])) (le-ltb n 10 h)

-- where k + 1 digits suffice, room for one more changes nothing
enough : (k n : ℕ) → n < 10 ^ suc k → digits (suc k) n ≡ digits k n
unfolding digits
enough zero n h = single 1 n h ∙ sym (single 0 n h)
enough (suc k) n h =
    let p : 10 ^ suc (suc k) ≡ 10 ^ suc k * 10 = pow-suc 10 (suc k) in
    let q : n / 10 < 10 ^ suc k = omega arith in
    ap (λ (s : List ℕ). pick (ltb n 10) ((48 + n) ∷ []) (s ++ (48 + n % 10) ∷ [])) (enough k (n / 10) q)

pub one-digit : (n : ℕ) → n < 10 → (48 + n % 10) ∷ [] ≡ decimal n
unfolding digits
one-digit n h = single 0 n h ∙ sym (single 19 n h)

pub more-digits : (n : ℕ) → 10 ≤ n → n < 2 ^ 64 → decimal (n / 10) ++ (48 + n % 10) ∷ [] ≡ decimal n
more-digits n h f =
    let q : n / 10 < 10 ^ 19 = omega arith in
    ap (λ (s : List ℕ). s ++ (48 + n % 10) ∷ []) (enough 18 (n / 10) q) ∙ sym (further 18 n h)

-- as many digits as the power of ten says
digits-below : (j k n : ℕ) → n < 10 ^ suc j → length (digits k n) ≤ suc j
unfolding digits
digits-below j zero n h = omega arith
digits-below zero (suc k) n h = rw (single (suc k) n h) (omega arith)
digits-below (suc j) (suc k) n h =
    let p : 10 ^ suc (suc j) ≡ 10 ^ suc j * 10 = pow-suc 10 (suc j) in
    let q : n / 10 < 10 ^ suc j = omega arith in
    pick_p (λ (s : List ℕ). length s ≤ suc (suc j)) (ltb n 10) (λ e. omega arith)
    (λ e. rw (length-append (digits k (n / 10)) ((48 + n % 10) ∷ [])) (omega (arith, digits-below j k (n / 10) q)))

pub decimal-below : (j n : ℕ) → n < 10 ^ suc j → length (decimal n) ≤ suc j
decimal-below j n h = digits-below j 19 n h

-- never over 20
digits-short : (k n : ℕ) → length (digits k n) ≤ suc k
unfolding digits
digits-short zero n = omega arith
digits-short (suc k) n =
    pick_p (λ (s : List ℕ). length s ≤ suc (suc k)) (ltb n 10) (λ e. omega arith)
    (λ e. rw (length-append (digits k (n / 10)) ((48 + n % 10) ∷ [])) (omega (arith, digits-short k (n / 10))))

pub decimal-short : (n : ℕ) → length (decimal n) ≤ 20
decimal-short n = digits-short 19 n
