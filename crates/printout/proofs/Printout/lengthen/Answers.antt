-- `printout::lengthen` meets its contract: the line stands behind what was there.
use Rattle.std.proofs.Common.{rules, ◌≡◌, sym, ◌∙◌, length}
use Rattle.text.specs.Lines.{text_of}
use Rattle.printout.proofs.Behind.{behind, no_room}
use Rattle.printout.proofs.Printout.lengthen.Goals as goal

pub returns-in-Some : goal.returns-in-Some
returns-in-Some c =
    let full : length c.args.self.now.bytes.items ≡ 65600 = search rules in
    behind c.args.self.now (text_of c.args.l.now) _ _ full (sym c.in-Some.is ∙ c.append.ensures.0) c.append.ensures.1

pub returns-in_default : goal.returns-in_default
returns-in_default c =
    let full : length c.args.self.now.bytes.items ≡ 65600 = search rules in
    no_room c.args.self.now (text_of c.args.l.now) _ full (sym c.in_default.is ∙ c.append.ensures.0)
