-- `same_ends` meets its contract: the first eight bytes and the last eight are all of at most sixteen.
use mathlib.Core.Path.{ap}
use mathlib.Core.List.{List}
use Prim.Native.Nat.{ℕ, ◌-◌}
use lib.ListN.{length, take, drop}
use Rattle.fields.proofs.Words.{ends}
use Rattle.fields.proofs.same_ends.Goals as goal

pub returns-then-same_eight : goal.returns-then-same_eight
returns-then-same_eight c =
    let a = c.args.a.now in
    let last = c.same_eight-then-same_eight.ensures in (
      λ e. ends 8 a c.args.b.now c.requires.0 c.requires.1 c.requires.2 (c.same_eight.ensures.0 c.if-same_eight.true) (last.0 e),
      λ e. last.1 (ap (λ (l : List ℕ). take 8 (drop (length a - 8) l)) e),
    )
