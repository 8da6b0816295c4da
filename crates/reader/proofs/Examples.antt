-- The scope's own sheet, and sheets that come close to one, with the first bad line.
use mathlib.Core.Path.{◌≡◌, refl}
use mathlib.Core.List.{List, [], ◌∷◌, ◌++◌}
use Prim.Native.Nat.{ℕ}
use Rattle.model.specs.Vocabulary.{id_of, plain_attrs}
use Rattle.model.specs.declared.ComponentKind.TheVariants.{Active}
use Rattle.model.specs.declared.FailurePolicy.TheVariants.{Required}
use Rattle.model.specs.declared.PowerOnResult.TheVariants.{Provisioned}
use Rattle.model.specs.declared.Event.TheVariants.{PowerGood, VerificationPassed}
use Rattle.text.specs.Text.{bytes, ◌⇥◌, line}
use Rattle.fields.specs.Fields.{place_of, same_bytes, lookup, before, after, digits_from, number_of}
use Rattle.events.specs.Read.{failure_event, plain_event, fault_event, id_event, power_good, boot_failed, boot_fields, id_fields, field_event, event_of}
use Rattle.lines.specs.Read.{with_dependency, with_region, with_policy, with_kind, card_of, retry_of, answer_of, row_of}
use Rattle.reader.specs.Grammar.{Begins}
use Rattle.reader.specs.Read.{pieces, rows_of, rows_in, bad_from, bad_line, retry_from, retry_in, cards_of, cards_in, orders_of, content_of}

abbrev b2 : List ℕ
b2 = bytes "B" ⇥ bytes "2"

abbrev c7 : List ℕ
c7 = bytes "C" ⇥ bytes "7" ⇥ bytes "Active" ⇥ bytes "Required" ⇥ bytes "0" ⇥ bytes "-"

abbrev power : List ℕ
power = bytes "E" ⇥ bytes "PowerGood" ⇥ bytes "Provisioned"

abbrev passed : List ℕ
passed = bytes "E" ⇥ bytes "VerificationPassed" ⇥ bytes "7"

abbrev the_sheet : List ℕ
the_sheet = line b2 ++ line c7 ++ line power ++ line passed

pub the-sheet-says : content_of the_sheet ≡ record {
  max_retry = 2;
  cards = record { id = id_of 7; attrs = plain_attrs Active Required } ∷ [];
  orders = Begins (PowerGood Provisioned) ∷ Begins (VerificationPassed (id_of 7)) ∷ [];
}
unfolding content_of retry_in retry_from cards_in cards_of orders_of rows_in rows_of pieces row_of lookup same_bytes before after place_of retry_of card_of with_kind with_policy with_region with_dependency number_of digits_from answer_of event_of plain_event failure_event field_event id_fields id_event fault_event power_good boot_fields boot_failed
the-sheet-says = refl

-- Each sheet of a list has its first bad line beside it.
abbrev AllBad : List (List ℕ × ℕ) → Type 0
AllBad [] = Unit {0}
AllBad (p ∷ ps) = (bad_line p.0 ≡ p.1) × AllBad ps

-- The scope's own sheet and a B line alone; an empty sheet; a line that is not ended or is empty; no B line first, or two; a C
-- line after an E line.
pub first-bad-lines : AllBad
    ((the_sheet, 0)
    ∷ (line b2, 0)
    ∷ ([], 1)
    ∷ (b2, 1)
    ∷ (line [], 1)
    ∷ (line b2 ++ line [], 2)
    ∷ (line b2 ++ line c7 ++ line power ++ passed, 4)
    ∷ (line c7 ++ line b2, 1)
    ∷ (line b2 ++ line b2, 2)
    ∷ (line b2 ++ line power ++ line c7, 3)
    ∷ [])
unfolding bad_line bad_from rows_in rows_of pieces row_of lookup same_bytes before after place_of retry_of card_of with_kind with_policy with_region with_dependency number_of digits_from answer_of event_of plain_event failure_event field_event id_fields id_event fault_event power_good boot_fields boot_failed
first-bad-lines = (refl, (refl, (refl, (refl, (refl, (refl, (refl, (refl, (refl, (refl, tt))))))))))
