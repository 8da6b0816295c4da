-- What stands from `at` on gives the whole answer, with what the lines before it told. There are no more lines than bytes.
use Prim.Native.Nat.{◌+◌, ◌-◌, ◌<◌, ◌≤◌}
use lib.ListN.{length}
use Rattle.reader.proofs.Left.{Left}
use Rattle.reader.proofs.read_sheet.Given as goal

abbrev pub invariant-loop-at : goal.invariant-loop-at
invariant-loop-at l = (l.at ≤ length l.sheet) × (0 < l.line) × (l.line ≤ l.at + 1) × Left l.sheet l.fn.read l.at l.line l.part l.read

abbrev pub decreases-loop-at : goal.decreases-loop-at
decreases-loop-at l = length l.sheet - l.at
