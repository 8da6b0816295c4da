-- `decide` meets its contract where the number is none of the arms': it is 0, or past the list of rules.
use Rattle.std.proofs.Common.{◌≡◌, ℕ, zero, suc, ◌≤◌, arith, refl, sym, ◌∙◌}
use Rattle.std.proofs.Math.ListN.{get_or-eq_default}
use Rattle.model.specs.declared.Event.{Event}
use Rattle.rules.specs.declared.Facts.{Facts}
use Rattle.rules.specs.declared.Kept.{Kept}
use Rattle.rules.specs.declared.Says.TheVariants.{Nothing}
use Rattle.rules.specs.Changes.{stays}
use Rattle.rules.specs.Decided.{decisions, decided}
use Rattle.rules.proofs.decide.Goals as goal

no_number : (f : Facts) (k : Kept) (e : Event) (x : ℕ) → (1 ≤ x → 22 ≤ x) → stays k Nothing ≡ decided f k e x
unfolding decisions
no_number f k e zero past = refl
no_number f k e (suc x) past = sym (get_or-eq_default (decisions f k e) (stays k Nothing) {n = suc x} (omega (arith, past (omega arith))))

pub returns-in_default : goal.returns-in_default
returns-in_default c =
    let past : 1 ≤ c.args.rule → 22 ≤ c.args.rule = λ h. omega arith in
    c.keep.ensures ∙ no_number c.args.f c.args.k c.args.event c.args.rule past
