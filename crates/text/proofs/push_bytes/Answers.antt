-- `text::push_bytes` meets its contract: behind the text lie as many bytes as there is room for.
use Rattle.std.proofs.Common.{rules, arith, ◌≡◌, ◌≤◌, length, sym, ap, ◌∙◌, ℕ, List, ◌++◌}
use Rattle.std.proofs.lemmas.Slice.{take-put_mid}
use Rattle.text.specs.Lines.{text_of}
use Rattle.bounded.proofs.Laws.{items-length, first-items}
use Rattle.text.proofs.Laws.{held-part}
use Rattle.text.proofs.push_bytes.Goals as goal

pub returns : goal.returns
returns c =
    let l = c.args.l.now in
    let s = c.args.s.now in
    let at = c.count-at.result in
    let n = c.min-n.result in
    let full : length l.bytes.items ≡ 64 = search rules in
    let sized : at ≡ length (text_of l) = c.count-at.ensures.0 in
    let short : length (text_of l) ≤ 64 = omega (arith, items-length l.bytes full) in
    let copied = c.copy_from_slice.ensures in
    record {
      text = take-put_mid at _ l.bytes.items _ _ (omega (arith, copied.len)) (omega arith)
          ∙ ap (λ (t : List ℕ). t ++ c.copy_from_slice.new.self) (first-items l.bytes at sized)
          ∙ ap (λ (t : List ℕ). text_of l ++ t) copied.after
          ∙ sym (held-part (text_of l) s n short (omega arith));
    }
