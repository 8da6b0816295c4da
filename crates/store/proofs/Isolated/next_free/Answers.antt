-- Each answer is the first position that is not isolated, or n; a turn passes a run of positions that are.
use Rattle.std.proofs.Common.{◌≡◌, ℕ, ◌+◌, ◌-◌, ◌/◌, true, false, length, get_or, rules, arith, subst, Fits, w64}
use Rattle.std.proofs.Math.ListN.{get_or-eq_default}
use native.Mathlib.Decide.{dec_lt}
use Rattle.store.specs.Flags.{flags, flags_of}
use Rattle.store.proofs.Words.{length-words, run-members, run_none}
use Rattle.store.proofs.Set.{next-found, next-none}
use Rattle.store.proofs.Isolated.next_free.Goals as goal

pub returns-then-p-ge256 : goal.returns-then-p-ge256
unfolding flags
returns-then-p-ge256 c =
    let ws = c.args.self.words in
    let four : length c.args.self.words ≡ 4 = search rules in
    next-found (flags_of 64 ws) c.args.from c.args.n c.loop-p.p (omega arith) (omega arith)
    c.loop-p.invariant.1 (get_or-eq_default (flags_of 64 ws) false (rw length-words (omega arith)))

pub returns-then-run-eq0 : goal.returns-then-run-eq0
unfolding flags
returns-then-run-eq0 c =
    let ws = c.args.self.words in
    let four : length c.args.self.words ≡ 4 = search rules in
    let f : Fits w64 (get_or c.args.self.words (c.loop-p.p / 64) 0) = search rules in
    next-found (flags_of 64 ws) c.args.from c.args.n c.loop-p.p (omega arith) (omega arith)
    c.loop-p.invariant.1 (run_none ws c.loop-p.p (omega arith) f.fits c.if-run-eq0.true)

pub loop-p-preserved : goal.loop-p-preserved
loop-p-preserved c =
    let ws = c.args.self.words in
    let p = c.loop-p.p in
    let four : length c.args.self.words ≡ 4 = search rules in
    let f : Fits w64 (get_or c.args.self.words (c.loop-p.p / 64) 0) = search rules in (
      omega arith,
      λ i g h. elim (dec_lt i p) [
        | yes b ↦ c.loop-p.invariant.1 i g b
        | no b ↦ subst (λ (m : ℕ). get_or (flags_of 64 ws) m false ≡ true) (let e : p + (i - p) ≡ i = omega arith in e)
            (run-members ws p (i - p) (omega arith) f.fits (omega arith))
      ],
    )

pub returns : goal.returns
unfolding flags
returns c =
    next-none (flags_of 64 c.args.self.words) c.args.from c.args.n
    (λ i g h. c.loop-p.invariant.1 i g (omega arith))
