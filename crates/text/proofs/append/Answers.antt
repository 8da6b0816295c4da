-- `text::append` meets its contract: what does not fit changes nothing, and what fits is copied.
use Rattle.std.proofs.Common.{arith, ◌≡◌, refl, ap, ◌∙◌, ◌<◌, length, take, Some}
use Rattle.std.proofs.Math.Seq.{take_all}
use Rattle.std.proofs.lemmas.Slice.{put_mid-paste}
use Rattle.text.specs.Lines.{text_of}
use Rattle.text.proofs.Laws.{fitted, unfitted}
use Rattle.text.proofs.append.Goals as goal

pub returns-in_err-end : goal.returns-in_err-end
returns-in_err-end c =
    let a = c.args in
    let small : length a.out.now < 18446744073709551616 = omega arith in
    rw c.from_residual.ensures (unfitted a.out.now a.at (text_of a.l.now) (omega (arith, c.in_err-end.ensures)))

pub returns-then-out-end : goal.returns-then-out-end
returns-then-out-end c =
    let a = c.args in
    unfitted a.out.now a.at (text_of a.l.now) (omega (arith, c.in_ok-end.ensures))

pub returns : goal.returns
returns c =
    let a = c.args in
    let s = text_of a.l.now in
    let sized : c.size-n.result ≡ length s = c.size-n.ensures in
    let whole : take (length s) s ≡ s = take_all (length s) s (omega arith) in
    let copied : c.copy_from_slice.new.self ≡ s = c.copy_from_slice.ensures.after ∙ c.bytes.ensures in
    let put = fitted a.out.now a.at s (omega (arith, c.in_ok-end.ensures)) in (
      ap Some (omega (arith, c.in_ok-end.ensures)) ∙ put.0,
      put_mid-paste a.at _ a.out.now _ s (length s) copied (omega (arith, c.in_ok-end.ensures)) refl ∙ rw whole put.1,
    )
