-- The loop of `digits`: the answer is what n and the digits from this one on give.
use Rattle.std.proofs.Common.{◌≡◌, ◌≤◌, drop}
use Rattle.fields.specs.Fields.{digits_from}
use Rattle.fields.proofs.digits.Given as goal

abbrev pub invariant-loop-b : goal.invariant-loop-b
invariant-loop-b l = (l.n ≤ l.most) × (digits_from l.most 0 l.f ≡ digits_from l.most l.n (drop l.b-index l.f))
