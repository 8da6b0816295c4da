-- `read_sheet` meets its contract: what stands from `at` on gives the whole answer, with what the lines before it told. There
-- are no more lines than bytes.
use mathlib.Core.Path.{◌≡◌, refl, sym, ◌∙◌}
use mathlib.Core.List.{[]}
use native.Mathlib.Omega.{arith}
use denote.Enum.Bare.{sameb}
use Rattle.std.proofs.Common.{rules}
use Rattle.reader.specs.contracts.Part.{the_type}
use Rattle.reader.specs.declared.Part.{Part}
use Rattle.reader.specs.declared.Part.TheVariants.{Opening, Cards, Script, Wrong}
use Rattle.reader.specs.Read.{is_wrong, is_opening, retry_after, pushed_all, card_before}
use Rattle.reader.proofs.Left.{left-all, left-wrong, left-next, left-opening, left_end}
use Rattle.reader.proofs.read_sheet.Goals as goal

-- Both tests of the part.
wrong : (p : Part) → is_wrong p ≡ sameb the_type p Wrong
wrong Opening = refl
wrong Cards = refl
wrong Script = refl
wrong Wrong = refl

opening : (p : Part) → is_opening p ≡ sameb the_type p Opening
opening Opening = refl
opening Cards = refl
opening Script = refl
opening Wrong = refl

pub loop-at-init : goal.loop-at-init
loop-at-init c = (omega arith, omega arith, omega arith, left-all c.args.sheet.now c.args.read.now)

pub returns-then-eq : goal.returns-then-eq
returns-then-eq c =
    left-wrong _ _ _ _ _ _ c.loop-at.invariant.3 _ c.next_line-next.ensures _ c.part_after-part.ensures
    (wrong _ ∙ sym c.if-eq.ensures) c.loop-at.invariant.1

pub loop-at-preserved : goal.loop-at-preserved
unfolding pushed_all
loop-at-preserved c =
    let row = c.next_line-next.result.row in
    let retry : c.match-next.read.max_retry ≡ retry_after c.loop-at.read.max_retry row = search rules in
    let list : c.match-next.read.list ≡ pushed_all c.loop-at.read.list (card_before row []) = search rules in (
      c.next_line-next.ensures.within,
      omega arith,
      omega arith,
      left-next _ _ _ _ _ _ c.loop-at.invariant.3 _ c.next_line-next.ensures _ c.part_after-part.ensures
          (wrong _ ∙ sym c.if-eq.ensures) _ retry list,
    )

pub returns-then-eq-2 : goal.returns-then-eq-2
returns-then-eq-2 c = left-opening _ _ _ _ _ _ c.loop-at.invariant.3 c.loop-at-test.false (opening _ ∙ sym c.if-eq-2.ensures) c.loop-at.invariant.1

pub returns : goal.returns
returns c = left_end _ _ _ _ _ _ c.loop-at.invariant.3 c.loop-at-test.false (opening _ ∙ sym c.if-eq-2.ensures)
