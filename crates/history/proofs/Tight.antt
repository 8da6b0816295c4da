-- The bound of 2 N + 1 effects is reached: the last of 01's ten rows, from power-on. Component 1 is Required and released,
-- component 2 is Cascading and exhausted: its gate gives two effects, quiescing component 1 one, and the new walk two.
use mathlib.Core.Path.{◌≡◌, refl, sym, subst, ap, ◌∙◌}
use mathlib.Core.List.{List, [], ◌∷◌}
use Prim.Native.Nat.{◌+◌, ◌*◌}
use lib.Dec.{eqb}
use lib.ListN.{length}
use Rattle.model.specs.Vocabulary.{id_of, plain_attrs}
use Rattle.components.specs.Chain.{entries_of, no_entries, pushed, position, first_from, verdict_of, no_refusal}
use Rattle.model.specs.declared.Component.{Component}
use Rattle.components.specs.declared.ComponentList.{ComponentList}
use Rattle.model.specs.declared.ComponentKind.TheVariants.{Active, Passive}
use Rattle.model.specs.declared.FailurePolicy.TheVariants.{Required, Cascading}
use Rattle.model.specs.declared.PowerOnResult.TheVariants.{Provisioned}
use Rattle.model.specs.declared.Event.TheVariants.{PowerGood, VerificationPassed, VerificationFailed, RecoveryUnavailable}
use Rattle.holds.specs.Cascade.{below, children_in, children_of, spread, cascade}
use Rattle.holds.specs.Holds.{gates, gates_say}
use Rattle.holds.specs.Advance.{isolated_ahead, quiet_says}
use Rattle.rot.specs.Step.{step_of}
use Rattle.settling.specs.declared.whole.Machine.{Machine}
use Rattle.settling.specs.Settle.{turns, settle}
use Rattle.settling.specs.declared.Reply.TheVariants.{Done}
use Rattle.sm.specs.Calls.{begin_of, reply_of, start_of}
use Rattle.history.specs.History.{Call, Begin, ReplyTo, machine_after, Answered, answers_to, log_of, effects_of}
use Rattle.history.specs.Demand.{Follows, History}
use Rattle.history.proofs.Theorem.{agrees}
use Rattle.history.proofs.Exists.{not-empty}

abbrev one : Component
one = record { id = id_of 1; attrs = plain_attrs Active Required }

abbrev other : Component
other = record { id = id_of 2; attrs = plain_attrs Passive Cascading }

abbrev pub two : List Component
two = one ∷ other ∷ []

abbrev done : Call
done = ReplyTo Done

-- The newest first: power-on, 1 passes, 2 fails and is not recovered; every effect is done.
abbrev pub exhausting : List Call
exhausting =
    done ∷ done ∷ done ∷ done ∷ done ∷ Begin (RecoveryUnavailable (id_of 2))
    ∷ done ∷ Begin (VerificationFailed (id_of 2))
    ∷ done ∷ done ∷ done ∷ Begin (VerificationPassed (id_of 1))
    ∷ done ∷ done ∷ Begin (PowerGood Provisioned)
    ∷ []

-- The fourth event hands out five effects,
five : effects_of (eqb 4) (log_of two 1 exhausting (answers_to two 1 exhausting)) ≡ 2 * length two + 1
unfolding log_of answers_to machine_after begin_of reply_of start_of settle turns step_of position cascade spread children_of children_in below gates gates_say isolated_ahead quiet_says
five = refl

-- in every history of the code with these calls,
pub bound-reached : (l : ComponentList) → entries_of l ≡ two → (rs : List Answered) (m : Machine) → Follows l 1 exhausting rs m
    → effects_of (eqb 4) (log_of (entries_of l) 1 exhausting rs) ≡ 2 * length (entries_of l) + 1
bound-reached l e rs m f =
    ap (λ (ts : List Answered). effects_of (eqb 4) (log_of (entries_of l) 1 exhausting ts)) (agrees l 1 f).answers
    ∙ subst (λ (ch : List Component). effects_of (eqb 4) (log_of ch 1 exhausting (answers_to ch 1 exhausting)) ≡ 2 * length ch + 1) (sym e) five

-- and there is one.
abbrev pub listed : ComponentList
listed = pushed (pushed no_entries one) other

pub listed-two : entries_of listed ≡ two
listed-two = refl

listed-accepted : verdict_of listed.len (entries_of listed) ≡ no_refusal
unfolding first_from position
listed-accepted = refl

pub bound-history : History listed 1 exhausting
bound-history = not-empty listed 1 exhausting listed-accepted
