-- What a line holds of a text, pushed in parts; a text that fits into a buffer, and one that does not.
use Rattle.std.specs.Prelude.{None, Some}
use mathlib.Core.Path.{◌≡◌, refl, sym, ap, ◌∙◌}
use mathlib.Core.List.{List, [], ◌∷◌, ◌++◌, append_assoc}
use Prim.Native.Nat.{ℕ, zero, suc, ◌+◌, ◌-◌, ◌≤◌, ◌<◌, min}
use native.Mathlib.Omega.{arith}
use lib.ListN.{length, take, drop}
use lib.Seq.{take_all, take-append-add}
use Rattle.std.proofs.lemmas.List.{take_min}
use borrow.Author.Tests.{le-leb, lt-leb}
use Rattle.text.specs.declared.Line.{Line}
use Rattle.text.specs.Lines.{text_of, held, Pushed, Built, fits, written, room_after}

-- what was cut off before is cut off after
take_again : (n : ℕ) (s t : List ℕ) → take n (take n s ++ t) ≡ take n (s ++ t)
take_again zero s t = refl
take_again (suc n) [] t = refl
take_again (suc n) (x ∷ s) t = ap (λ (r : List ℕ). x ∷ r) (take_again n s t)

pub held-again : (s t : List ℕ) → held (held s ++ t) ≡ held (s ++ t)
unfolding held
held-again s t = take_again 64 s t

pub held-short : (s : List ℕ) → length s ≤ 64 → held s ≡ s
unfolding held
held-short s h = take_all 64 s h

-- of a second text as much is held as there is room for
pub held-part : (s t : List ℕ) (n : ℕ) → length s ≤ 64 → n ≡ min (length t) (64 - length s) → held (s ++ t) ≡ s ++ take n t
unfolding held
held-part s t n h e =
    let room : 64 ≡ length s + (64 - length s) = omega arith in
    let least : n ≡ min (64 - length s) (length t) = omega arith in
    ap (λ (k : ℕ). take k (s ++ t)) room
    ∙ take-append-add s t (64 - length s)
    ∙ ap (λ (r : List ℕ). s ++ r) (sym (ap (λ (k : ℕ). take k t) least ∙ take_min (64 - length s) t))

-- one text after another
pub chained : {l m r : Line} {s t : List ℕ} → Pushed l s m → Pushed m t r → Pushed l (s ++ t) r
chained {l} {m} {r} {s} {t} p q = record {
  text = q.text ∙ ap (λ (x : List ℕ). held (x ++ t)) p.text ∙ held-again (text_of l ++ s) t ∙ ap held (append_assoc (text_of l) s t);
}

-- a line that is built part by part
pub begun : {s : List ℕ} {r : Line} (l : Line) → text_of l ≡ [] → Pushed l s r → Built s r
begun {s} {r} l e p = record { text = p.text ∙ ap (λ (x : List ℕ). held (x ++ s)) e }

pub grown : {l r : Line} {s t : List ℕ} → Built s l → Pushed l t r → Built (s ++ t) r
grown {l} {r} {s} {t} b p = record { text = p.text ∙ ap (λ (x : List ℕ). held (x ++ t)) b.text ∙ held-again s t }

-- the same text, its parts joined in another order
pub rejoined : {s : List ℕ} {r : Line} (t : List ℕ) → Built s r → s ≡ t → Built t r
rejoined t b e = record { text = b.text ∙ ap held e }

-- a line whose text is at most 64 bytes holds all of it
pub whole : {s : List ℕ} {r : Line} → Built s r → length s ≤ 64 → text_of r ≡ s
whole {s} b h = b.text ∙ held-short s h

pub exactly : {s : List ℕ} {r : Line} (t : List ℕ) → Built s r → s ≡ t → length t ≤ 64 → text_of r ≡ t
exactly t b e h = whole (rejoined t b e) h

-- a text that fits, and one that does not
module _ (out : List ℕ) (at : ℕ) (s : List ℕ) where
  pub fitted : at + length s ≤ length out → (Some (at + length s) ≡ room_after out at s) × (take at out ++ s ++ drop (at + length s) out ≡ written out at s)
  unfolding room_after written fits
  fitted h = (rw (le-leb _ _ h), rw (le-leb _ _ h))

  pub unfitted : length out < at + length s → (None ≡ room_after out at s) × (out ≡ written out at s)
  unfolding room_after written fits
  unfitted h = (rw (lt-leb _ _ h), rw (lt-leb _ _ h))
