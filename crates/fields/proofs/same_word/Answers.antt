-- `same_word` meets its contract: eight bytes are what their number says.
use Rattle.std.proofs.Common.{rules}
use Rattle.fields.proofs.Words.{word}
use Rattle.fields.proofs.same_word.Goals as goal

pub returns : goal.returns
returns c =
    let first = c.from_le_bytes.ensures in
    let second = c.from_le_bytes-2.ensures in
    word c.args.a c.args.b _ _ (search rules) (search rules) (search rules) (search rules) first second
