-- `next_line` meets its contract: the line ends at the first byte 10 of what stands from `at` on, or it is not ended.
use mathlib.Core.Path.{◌≡◌, sym, ap}
use mathlib.Core.List.{List}
use Prim.Native.Nat.{ℕ, ◌+◌, ◌-◌, ◌<◌, ◌≤◌}
use native.Mathlib.Omega.{arith}
use lib.ListN.{length, take, drop, length-drop}
use lib.Seq.{length-take-le}
use Rattle.std.proofs.lemmas.List.{take_rest}
use Rattle.fields.specs.Fields.{place_of}
use Rattle.fields.proofs.Scan.{place-bound}
use Rattle.reader.proofs.Rows.{reads-line, reads-open}
use Rattle.reader.proofs.Told.{reads-first, first-rest}
use Rattle.reader.proofs.next_line.Goals as goal

pub overflow_sub-result : goal.overflow_sub-result
overflow_sub-result c =
    let s = c.args.sheet.now in
    first-rest s c.args.at _ (take_rest s c.args.at) _ _ c.in-Some.ensures

pub returns-in-Some : goal.returns-in-Some
returns-in-Some c =
    let s = c.args.sheet.now in
    let at = c.args.at in
    reads-first s at (omega arith) _ (take_rest s at) _ _ c.in-Some.ensures

pub returns-then-n-m : goal.returns-then-n-m
returns-then-n-m c =
    let s = c.args.sheet.now in
    let at = c.args.at in
    reads-open s at (omega arith) _ (take_rest s at) _ c.place-n.ensures c.if-n-m.true

pub slice_bounds-read_line-end : goal.slice_bounds-read_line-end
slice_bounds-read_line-end c = sym (length-take-le _ _ (place-bound _ _ _ c.place-n.ensures))

-- A line ends in the sheet.
ends : (s : List ℕ) (at n : ℕ) → n ≡ place_of 10 (take (length s - at) (drop at s)) → at < length s → at + n ≤ length s
ends s at n e h = omega (arith, place-bound _ _ _ e, ap length (take_rest s at), length-drop at s)

pub overflow_add-result : goal.overflow_add-result
overflow_add-result c = omega (arith, ends _ _ _ c.place-n.ensures c.requires)

pub overflow_add-result-2 : goal.overflow_add-result-2
overflow_add-result-2 c = omega (arith, ends _ _ _ c.place-n.ensures c.requires)

pub returns : goal.returns
returns c =
    let s = c.args.sheet.now in
    let at = c.args.at in
    reads-line s at (omega arith) _ (take_rest s at) _ c.place-n.ensures c.if-n-m.false _ c.read_line.ensures
