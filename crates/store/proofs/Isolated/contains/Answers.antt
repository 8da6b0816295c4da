-- From 256 on the list has ended, which reads as false; below, flag p is digit p mod 64 of its word.
use Rattle.std.proofs.Common.{◌≡◌, false, sym, ◌∙◌, rules, arith, length}
use Rattle.std.proofs.Math.ListN.{get_or-eq_default}
use borrow.Author.Tests.{le-ltb}
use Rattle.store.specs.Flags.{flags}
use Rattle.store.proofs.Set.{length-flags, flag-is-bit}
use Rattle.store.proofs.Isolated.contains.Goals as goal

pub returns-then-p-lt256 : goal.returns-then-p-lt256
returns-then-p-lt256 c =
    let four : length c.args.self.words ≡ 4 = search rules in
    (sym (flag-is-bit c.args.self c.args.p four c.if-p-lt256.true), four)

pub returns-else-p-lt256 : goal.returns-else-p-lt256
returns-else-p-lt256 c =
    let four : length c.args.self.words ≡ 4 = search rules in
    (le-ltb _ _ c.if-p-lt256.false ∙ sym (get_or-eq_default (flags c.args.self) false (omega (arith, length-flags c.args.self four))), four)
