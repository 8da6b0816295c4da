-- `ended_byte` meets its contract: one, two or three digits and the byte that ends them.
use mathlib.Core.Path.{◌≡◌}
use Prim.Native.Nat.{◌+◌, ◌*◌, ◌<◌}
use native.Mathlib.Omega.{arith}
use Rattle.std.proofs.Common.{rules}
use Rattle.fields.proofs.Starts.{ended-one, ended-two, ended-three}
use Rattle.fields.proofs.ended_byte.Goals as goal

pub returns-in-Some : goal.returns-in-Some
returns-in-Some c = ended-one c.in_ok-a.ensures.1 c.in_ok-a.ensures.0 c.in-Some.ensures

pub returns-in-Some-ended : goal.returns-in-Some-ended
returns-in-Some-ended c =
    let a = c.in_ok-a.ensures in
    let b = c.in_ok-b.ensures in
    let some : 0 < c.in_ok-a.a = omega (arith, c.if-a-eq0.false) in
    ended-two some a.1 b.1 a.0 b.0 c.in-Some-ended.ensures

pub returns : goal.returns
returns c =
    let a = c.in_ok-a.ensures in
    let b = c.in_ok-b.ensures in
    let d = c.in_ok-c.ensures in
    let some : 0 < c.in_ok-a.a = omega (arith, c.if-a-eq0.false) in
    let n : c.in_ok-n.n ≡ (c.in_ok-a.a * 10 + c.in_ok-b.b) * 10 + c.in_ok-c.c = omega (arith, c.in_ok-n.ensures, c.in_ok-checked_mul.ensures) in
    let few : c.in_ok-n.n < 256 = search rules in
    ended-three some a.1 b.1 a.0 b.0 d.1 few n d.0 c.in_ok-ended.ensures
