-- `about` meets its contract: an accepted chain has a first component.
use Rattle.std.proofs.Common.{rules, ◌≡◌, ◌<◌, length, arith}
use Rattle.components.proofs.Accepted.{accepted-sound}
use Rattle.components.proofs.Walk.{kept_at}
use Rattle.components.specs.Tables.{entries, size}
use Rattle.components.proofs.Room.{all-kept}
use Rattle.rot.proofs.about.Goals as goal

pub returns : goal.returns
returns c =
    let m = c.args.chain.now in
    let full : length m.list.entries ≡ 255 = search rules in
    let sound = accepted-sound m.list.len (entries m) c.requires in
    let some : 0 < size m = omega (arith, all-kept m full sound.few, sound.some) in
    let here = kept_at m.list full 0 some in
    (search rules, some)
