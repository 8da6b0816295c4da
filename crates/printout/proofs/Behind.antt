-- What is printed of a run: its transcript at the start of the array, and behind it the line of a refusal.
use Rattle.std.specs.Prelude.{None, Some}
use mathlib.Core.Path.{◌≡◌, sym, ap, ◌∙◌}
use mathlib.Core.Bool.{Bool}
use mathlib.Core.List.{List, [], ◌++◌, append_assoc, append-nil}
use Prim.Native.Nat.{ℕ, ◌+◌, ◌≤◌, ◌<◌}
use native.Mathlib.Omega.{arith}
use borrow.Author.Tests.{eq-eqb, ne_eqb, lt-ltb, le-ltb}
use lib.Dec.{eqb}
use lib.ListN.{length, take, drop, length-append}
use lib.Seq.{take_at, length-take-le}
use Rattle.model.specs.Vocabulary.{pick}
use Rattle.text.specs.declared.Line.{Line}
use Rattle.text.specs.Lines.{text_of, Built, written, room_after, over}
use Rattle.text.proofs.Laws.{fitted, held-short}
use Rattle.text.proofs.Over.{room_at, room-full}
use Rattle.driver.specs.Run.{transcript}
use Rattle.sheet.specs.declared.Answer.{Answer}
use Rattle.sheet.specs.Sheet.{Outcome, run_of, numbers_of, RunGives}
use Rattle.printout.specs.declared.Printout.{Printout}
use Rattle.printout.specs.Program.{refusal_line, printed_from, printed_of, shown, Prints, Lengthened}
use Rattle.printout.proofs.Small.{run_small, refusal-short}

-- ---- A line behind what is printed

-- A line that went into the array stands behind what was there.
pub behind : (p : Printout) (s exit : List ℕ) (n : ℕ) → length p.bytes.items ≡ 65600
    → Some n ≡ room_after p.bytes.items p.bytes.len s
    → exit ≡ written p.bytes.items p.bytes.len s
    → Lengthened p s record { bytes = record { items = exit; len = n } }
behind p s exit n full r e =
    let at = room_at p.bytes.items p.bytes.len s n r in
    let front = shown p ++ s in
    let rest = drop (p.bytes.len + length s) p.bytes.items in
    let parts : exit ≡ front ++ rest = e ∙ sym (fitted p.bytes.items p.bytes.len s at.1).1 in
    let part : length (shown p) ≡ p.bytes.len = length-take-le _ _ (omega (arith, at.1)) in
    let long : length front ≡ n = omega (arith, length-append (shown p) s, part, at.0) in
    record {
      fits = λ a b. record {
        text = ap (take n) parts ∙ take_at front rest n long;
        within = omega (arith, at.0, at.1);
      };
    }

-- There is room for it.
pub no_room : (p : Printout) (s : List ℕ) (r : Printout) → length p.bytes.items ≡ 65600
    → None ≡ room_after p.bytes.items p.bytes.len s
    → Lengthened p s r
no_room p s r full e = record { fits = λ a b. absurd (omega (arith, room-full p.bytes.items p.bytes.len s e)) }

-- ---- What `replay` prints

-- What is printed of s so far, and the answer to it: the line of a refusal is still to come, if there is one.
pub record Awaits (s : List ℕ) (p : Printout) (a : Answer) : Type 0 where
  pub whole : shown p ++ pick (eqb a.number 0) [] (refusal_line a.number a.place a.other) ≡ printed_of s
  pub small : a.number ≤ 9
  pub room : p.bytes.len ≤ 65536

module _ (s : List ℕ) (p : Printout) (a : Answer) (h : Awaits s p a) where
  abbrev line : List ℕ
  line = refusal_line a.number a.place a.other

  pub not-refused : a.number ≡ 0 → Prints (printed_of s) p
  not-refused z =
      let none : pick (eqb a.number 0) [] line ≡ [] = ap (λ (t : Bool). pick t [] line) (eq-eqb a.number 0 z) in
      record {
        text = sym (ap (λ (l : List ℕ). shown p ++ l) none ∙ append-nil (shown p)) ∙ h.whole;
        within = omega (arith, h.room);
      }

  pub refused : (a.number ≡ 0 → ⊥) → (l : Line) (r : Printout)
      → Built line l
      → Lengthened p (text_of l) r
      → Prints (printed_of s) r
  refused z l r b g =
      let short = refusal-short a.number a.place a.other h.small in
      let told : text_of l ≡ line = b.text ∙ held-short line short in
      let some : line ≡ pick (eqb a.number 0) [] line = sym (ap (λ (t : Bool). pick t [] line) (ne_eqb a.number 0 z)) in
      let behind-it = g.fits h.room (omega (arith, ap (λ (t : List ℕ). length t) told, short)) in
      record {
        text = behind-it.text ∙ ap (λ (t : List ℕ). shown p ++ t) (told ∙ some) ∙ h.whole;
        within = behind-it.within;
      }

-- A longer input.
pub longer-input : (s bytes : List ℕ) → 65536 < length s
    → Awaits s (record { bytes = record { items = bytes; len = 0 } }) (record { number = 1; place = 0; other = 0; written = 0; settled = 0 })
unfolding printed_of
longer-input s bytes h =
    let line = refusal_line 1 0 0 in
    record {
      whole = sym (ap (λ (t : Bool). pick t line (printed_from (run_of s 65536 65536))) (lt-ltb 65536 (length s) h));
      small = omega arith;
      room = omega arith;
    }

-- A sheet that is run into the first 65,536 bytes.
module _ (s out rest : List ℕ) (a : Answer) (exit : List ℕ) (full : length out ≡ 65536) (g : RunGives s out 65536 a exit) where
  abbrev o : Outcome
  o = run_of s 65536 65536

  numbers : a ≡ numbers_of o
  numbers = g.numbers ∙ ap (λ (n : ℕ). numbers_of (run_of s n 65536)) full

  buffer : exit ≡ over out (transcript o.said)
  buffer = g.buffer ∙ ap (λ (n : ℕ). over out (transcript (run_of s n 65536).said)) full

  transcribed : take a.written (exit ++ rest) ≡ transcript o.said
  unfolding over numbers_of
  transcribed =
      let t = transcript o.said in
      let back = drop (length t) out in
      ap (λ (x : List ℕ). take a.written (x ++ rest)) buffer
      ∙ ap (take a.written) (append_assoc t back rest)
      ∙ take_at t (back ++ rest) a.written (sym (ap (λ (x : Answer). x.written) numbers))

  short-input : length s ≤ 65536 → printed_from o ≡ printed_of s
  unfolding printed_of
  short-input h = sym (ap (λ (t : Bool). pick t (refusal_line 1 0 0) (printed_from o)) (le-ltb 65536 (length s) h))

  pub run-through : length s ≤ 65536 → Awaits s (record { bytes = record { items = exit ++ rest; len = a.written } }) a
  unfolding printed_from numbers_of
  run-through h =
      record {
        whole = (λ j. transcribed j ++ pick (eqb (numbers j).number 0) [] (refusal_line (numbers j).number (numbers j).place (numbers j).other)) ∙ short-input h;
        small = omega (arith, ap (λ (x : Answer). x.number) numbers, run_small s 65536 65536);
        room = omega (arith, g.within, full);
      }
