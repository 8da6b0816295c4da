-- `isolated_of` puts only positions below n into the set: the range that counts them ends there.
use Rattle.std.proofs.Common.{◌≡◌, false, ◌-◌, drop, replicate}
use Rattle.std.specs.Iterator.Adapters.{zip_first}
use Rattle.store.specs.Flags.{flags}
use Rattle.steps.proofs.isolated_of.Given as goal

abbrev pub invariant-loop-p : goal.invariant-loop-p
invariant-loop-p l = ((zip_first l.p-iterator).end ≡ l.n) × (drop l.n (flags l.set) ≡ replicate (256 - l.n) false)
