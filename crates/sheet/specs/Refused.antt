-- What private functions give: why a sheet is not run to its end, in the numbers of the scope's questions.
use Rattle.std.specs.Prelude.{List, ℕ, Result, Ok, Err}
use Rattle.components.specs.declared.Answer as C
use Rattle.components.specs.Chain.{answer_of}
use Rattle.driver.specs.declared.RunError.{RunError}
use Rattle.driver.specs.declared.End.{End}
use Rattle.driver.specs.Seen.{number_in, place_in}
use Rattle.sheet.specs.declared.Answer.{Answer}
use Rattle.sheet.specs.declared.Refusal.{Refusal}
use Rattle.sheet.specs.declared.Refusal.TheVariants.{BadLine, Chain, Run}
use Rattle.sheet.specs.Sheet.{RunGives}

-- The number of the question that refuses, and its two places; 0 where none does.
abbrev pub question : Result (Unit {0}) Refusal → C.Answer
question (Ok u) = record { number = 0; place = 0; other = 0 }
question (Err (BadLine n)) = record { number = 1; place = n; other = 0 }
question (Err (Chain e)) = answer_of (Err e)
question (Err (Run e)) = record { number = number_in (Err e); place = place_in (Err e); other = 0 }

-- With the bytes written and the events settled.
abbrev pub told : Result (Unit {0}) Refusal → ℕ → ℕ → Answer
told o w n = record { number = (question o).number; place = (question o).place; other = (question o).other; written = w; settled = n }

-- How a run ended, as one of the refusals.
abbrev pub outcome_of : Result (Unit {0}) RunError → Result (Unit {0}) Refusal
outcome_of (Ok u) = Ok u
outcome_of (Err e) = Err (Run e)

-- The end of a run, or the question that refuses the sheet before it: then nothing is written and settled.
abbrev pub Drives : List ℕ → List ℕ → ℕ → Result End Refusal → List ℕ → Type 0
Drives s out limit (Ok e) exit = RunGives s out limit (told (outcome_of e.outcome) e.written e.settled) exit
Drives s out limit (Err f) exit = RunGives s out limit (told (Err f) 0 0) exit
