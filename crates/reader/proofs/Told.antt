-- A line that is told by its first bytes is the line there: its text has no byte 10, so that it ends where it was found to end.
use Rattle.std.specs.Prelude.{Some}
use mathlib.Core.Path.{◌≡◌, refl, sym, ap, ◌∙◌, subst}
use mathlib.Core.List.{List, ◌∷◌}
use Prim.Native.Nat.{ℕ, suc, ◌+◌, ◌-◌, ◌<◌, ◌≤◌}
use native.Mathlib.Omega.{arith}
use lib.ListN.{length, take, drop, length-append, length-drop}
use lib.Seq.{take_at}
use Rattle.fields.specs.Fields.{place_of}
use Rattle.fields.proofs.Cut.{Without, place_at}
use Rattle.lines.specs.declared.Row.{Row}
use Rattle.lines.specs.declared.Row.TheVariants.{Retry, Card, Begin, Answer}
use Rattle.lines.specs.Grammar.{row_line, RowInRange, IsLine, BeginsLine}
use Rattle.lines.specs.Read.{row_of}
use Rattle.lines.proofs.Inverse.{read-line}
use Rattle.reader.specs.Read.{Reads}
use Rattle.reader.proofs.Rows.{reads-line}
use Rattle.reader.proofs.Unbroken.{unbroken}

-- A row's line is the line of the row.
line-of : (r : Row) → RowInRange r → IsLine (row_line r) (Some r)
line-of (Retry n) h = (refl, h)
line-of (Card c) h = (refl, h)
line-of (Begin e) h = (refl, h)
line-of (Answer a) h = (refl, h)

-- A line that is told by its first bytes.
pub reads-first : (s : List ℕ) (at : ℕ) → at < length s → (m : List ℕ) → m ≡ drop at s → (r : Row) (rest : List ℕ) → BeginsLine m r rest
    → Reads s at (record { row = Some r; after = length s - length rest })
reads-first s at h m w r rest b =
    let l = row_line r in
    let u : Without 10 l = unbroken l (Some r) (line-of r b.1) in
    let n : place_of 10 m ≡ length l = ap (place_of 10) b.0 ∙ place_at 10 l rest u in
    let long : length m ≡ length l + suc (length rest) = ap length b.0 ∙ length-append l (10 ∷ rest) in
    let size : length m ≡ length s - at = ap length w ∙ length-drop at s in
    let cut : take (length l) m ≡ l = ap (take (length l)) b.0 ∙ take_at l (10 ∷ rest) (length l) refl in
    let reads = reads-line s at h m w (length l) (sym n) (λ e. omega arith) (Some r) (sym (ap row_of cut ∙ read-line l (Some r) (line-of r b.1))) in
    let after : at + length l + 1 ≡ length s - length rest = omega arith in
    subst (λ (k : ℕ). Reads s at (record { row = Some r; after = k })) after reads

pub first-rest : (s : List ℕ) (at : ℕ) (m : List ℕ) → m ≡ drop at s → (r : Row) (rest : List ℕ) → BeginsLine m r rest → length rest ≤ length s
first-rest s at m w r rest b =
    let long : length m ≡ length (row_line r) + suc (length rest) = ap length b.0 ∙ length-append (row_line r) (10 ∷ rest) in
    omega (arith, long, ap length w, length-drop at s)
