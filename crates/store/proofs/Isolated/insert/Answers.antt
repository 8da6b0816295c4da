-- From 256 on `set` leaves the list as it is; below, the word with one bit more has one digit more, at p.
use Rattle.std.proofs.Common.{◌≡◌, true, sym, rules, arith, length}
use Rattle.std.proofs.Math.Seq.{set_out}
use Rattle.store.specs.Flags.{flags}
use Rattle.store.proofs.Words.{set-position}
use Rattle.store.proofs.Set.{length-flags}
use Rattle.store.proofs.Isolated.insert.Goals as goal

pub returns-then-p-lt256 : goal.returns-then-p-lt256
unfolding flags
returns-then-p-lt256 c =
    let four : length c.args.self.words ≡ 4 = search rules in
    set-position c.args.self.words c.args.p (omega arith)

pub returns-else-p-lt256 : goal.returns-else-p-lt256
returns-else-p-lt256 c =
    let four : length c.args.self.words ≡ 4 = search rules in
    sym (set_out (flags c.args.self) c.args.p true (omega (arith, length-flags c.args.self four)))
