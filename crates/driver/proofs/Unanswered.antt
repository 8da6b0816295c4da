-- A line that does not begin with R answers nothing, whatever it says.
use Rattle.std.specs.Prelude.{Option, None, Some}
use mathlib.Core.Path.{◌≡◌, refl, sym, ap, subst, ◌∙◌}
use mathlib.Core.Bool.{Bool, true, false}
use mathlib.Core.List.{List}
use mathlib.Core.Logic.{◌⊎◌, inl, inr}
use Prim.Native.Nat.{ℕ, zero, suc, ◌+◌, ◌<◌}
use native.Mathlib.Omega.{arith}
use lib.ListN.{length, get_or, take, drop}
use Rattle.std.proofs.lemmas.List.{get_or-drop, get_or-take}
use lib.Dec.{eqb}
use borrow.Author.Tests.{eqb-true, eqb-false}
use Rattle.settling.specs.declared.Reply.{Reply}
use Rattle.settling.specs.declared.Reply.TheVariants.{Done, Then, Failed}
use Rattle.fields.specs.Fields.{place_of}
use Rattle.lines.specs.declared.Row.{Row}
use Rattle.lines.specs.declared.Row.TheVariants.{Retry, Card, Begin, Answer}
use Rattle.lines.specs.Read.{row_of}
use Rattle.lines.specs.Grammar.{answer_line, IsLine}
use Rattle.lines.proofs.Inverse.{line-or-bad}
use Rattle.reader.specs.declared.Next.{Next}
use Rattle.reader.specs.Read.{Reads}
use Rattle.reader.proofs.Rows.{reads-line, reads-open}
use Rattle.driver.specs.declared.Cursor.{Cursor}
use Rattle.driver.specs.declared.Stage.{Stage}
use Rattle.driver.specs.Run.{Setting, Point, silent, answering}
use Rattle.driver.specs.Plans.{answers, answers_by, Stands, Planned}
use Rattle.driver.proofs.Moves.{plan-is, answers_next}

letter : (a : Reply) → get_or (answer_line a) 0 0 ≡ 82
unfolding answer_line
letter Done = refl
letter Failed = refl
letter (Then e) = refl

never-answer : (l : List ℕ) (a : Reply) → (get_or l 0 0 ≡ 82 → ⊥) → row_of l ≡ Some (Answer a) → ⊥
never-answer l a f e = by (line-or-bad l)
  where
    by : IsLine l (row_of l) ⊎ (row_of l ≡ None) → ⊥
    by (inl p) = f (ap (λ (t : List ℕ). get_or t 0 0) (subst (IsLine l) e p).0 ∙ letter a)
    by (inr p) = let q : ◌≡◌ {A = ℕ} 0 1 = cc in omega arith

starts : (s : List ℕ) (at n : ℕ) → get_or (take n (drop at s)) 0 0 ≡ 82 → get_or s at 0 ≡ 82
starts s at zero e = absurd (omega arith)
starts s at (suc n) e =
    let z : at + 0 ≡ at = omega arith in
    sym (get_or-take (suc n) (drop at s) 0 0 (omega arith) ∙ get_or-drop at s 0 0 ∙ ap (λ (i : ℕ). get_or s i 0) z) ∙ e

module _ (s : List ℕ) (at : ℕ) (h : at < length s) (f : get_or s at 0 ≡ 82 → ⊥) where
  abbrev Other : Next → Type 0
  Other k = Reads s at k × ((a : Reply) → k.row ≡ Some (Answer a) → ⊥)

  other-by : (b : Bool) → eqb (place_of 10 (drop at s)) (length (drop at s)) ≡ b → (k : Next) × Other k
  other-by true t = (record { row = None; after = length s }, (reads-open s at h (drop at s) refl (place_of 10 (drop at s)) refl (eqb-true _ _ t), (λ a e. let q : ◌≡◌ {A = ℕ} 0 1 = cc in omega arith)))
  other-by false t =
      let n = place_of 10 (drop at s) in (
        record { row = row_of (take n (drop at s)); after = at + n + 1 },
        (reads-line s at h (drop at s) refl n refl (eqb-false _ _ t) (row_of (take n (drop at s))) refl, (λ a e. never-answer (take n (drop at s)) a (λ z. f (starts s at n z)) e)),
      )

  other : (k : Next) × Other k
  other = other-by (eqb (place_of 10 (drop at s)) (length (drop at s))) refl

no-answer : (c : Cursor) (after : ℕ) (r : Option Row) → ((a : Reply) → r ≡ Some (Answer a) → ⊥) → answers Done c ≡ answers_by c after r
no-answer c after (Some (Retry n)) f = refl
no-answer c after (Some (Card x)) f = refl
no-answer c after (Some (Begin e)) f = refl
no-answer c after (Some (Answer a)) f = absurd (f a refl)
no-answer c after None f = refl

pub answers-other : {s : List ℕ} {limit n : ℕ} {c : Cursor} {g : Stage} → Stands s c → c.at < length s → (get_or s c.at 0 ≡ 82 → ⊥)
    → Planned s limit n c g (λ (st : Setting) (p : Point). silent (answering p p.rows)) (answers Done c)
answers-other {s} {limit} {n} {c} h at f =
    let k = other s c.at at f in
    plan-is (answers_next h k.0 k.1.0) (no-answer c k.0.after k.0.row k.1.1)
