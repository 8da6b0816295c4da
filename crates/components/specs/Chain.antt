-- Section 1: the verdict on a list of components, by questions 2 to 6.
use Rattle.std.specs.Prelude.{ℕ, suc, ◌+◌, ◌<◌, ◌≤◌, ◌≡◌, Bool, true, false, List, [], ◌∷◌, take, get_or, set, length, replicate, eqb, ltb, Option, None, Some, Result, Ok, Err}
use Rattle.components.specs.declared.ChainError.{ChainError}
use Rattle.model.specs.Vocabulary.{pick, id_of, plain_attrs}
use Rattle.components.specs.declared.Answer.{Answer}
use Rattle.model.specs.declared.ComponentId.{ComponentId}
use Rattle.model.specs.declared.Component.{Component}
use Rattle.components.specs.declared.ComponentList.{ComponentList}
use Rattle.model.specs.declared.ComponentKind.TheVariants.{Active}
use Rattle.model.specs.declared.FailurePolicy.TheVariants.{Required}
use Rattle.components.specs.declared.ChainError.TheVariants.{Empty, TooLong, DuplicateId, UnknownDependency, ForwardDependency}

-- The entries handed in, as a list; of more than 255 the first 255.
abbrev pub entries_of : ComponentList → List Component
entries_of l = take l.len l.entries

-- What stands where no entry does.
abbrev pub blank : Component
blank = record { id = id_of 0; attrs = plain_attrs Active Required }

abbrev pub no_entries : ComponentList
no_entries = record { entries = replicate 255 blank; len = 0 }

-- One entry more: there is room for 255, and a list that is given more has length 256.
abbrev pub pushed : ComponentList → Component → ComponentList
pushed l c = pick (ltb l.len 255) (record { entries = set l.entries l.len c; len = l.len + 1 }) (record { entries = l.entries; len = 256 })

-- A list of components is accepted, or refused for a reason.
abbrev pub Verdict : Type 0
Verdict = Result (Unit {0}) ChainError

abbrev pub no_refusal : Verdict
no_refusal = Ok tt

abbrev pub same_id : ComponentId → ComponentId → Bool
same_id a b = eqb a.0 b.0

-- The first place of an id, and the length of the chain if it is not there.
unfoldable pub position : List Component → ComponentId → ℕ
position [] id = 0
position (c ∷ cs) id = pick (same_id c.id id) 0 (suc (position cs id))

-- The place p where it is one of n entries, and else none.
abbrev pub found : ℕ → ℕ → Option ℕ
found n p = pick (ltb p n) (Some p) None

abbrev pub at : List Component → ℕ → Component
at ch p = get_or ch p blank

abbrev pub id_at : List Component → ℕ → ComponentId
id_at ch p = (at ch p).id

abbrev pub depends_at : List Component → ℕ → Option ComponentId
depends_at ch p = (at ch p).attrs.depends_on

-- Question 4 of the entry `id` at place p: it repeats an earlier one if its id stands before p.
abbrev pub new_test : List Component → ℕ → ComponentId → Verdict
new_test ch p id = pick (ltb (position ch id) p) (Err (DuplicateId id)) no_refusal

-- Questions 5 and 6 of the entry `id` at place p: is its dependency in the chain, and does it stand earlier?
abbrev pub link_test : List Component → ℕ → ComponentId → Option ComponentId → Verdict
link_test ch p id None = no_refusal
link_test ch p id (Some d) = pick (ltb (position ch d) (length ch)) (pick (ltb (position ch d) p) no_refusal (Err (ForwardDependency id d))) (Err (UnknownDependency id d))

abbrev pub refuses : Verdict → Bool
refuses (Ok u) = false
refuses (Err e) = true

-- The first verdict where it refuses, and else the second.
abbrev pub or_else : Verdict → Verdict → Verdict
or_else v w = pick (refuses v) v w

-- The first refusal, as the question t is put to the entries in turn, the first of which stands at place p.
unfoldable pub first_from : (ℕ → Component → Verdict) → ℕ → List Component → Verdict
first_from t p [] = no_refusal
first_from t p (c ∷ cs) = or_else (t p c) (first_from t (p + 1) cs)

abbrev pub first : List Component → (ℕ → Component → Verdict) → Verdict
first ch t = first_from t 0 ch

-- Question 4, and 5 with 6, of the entry c at place p.
abbrev pub new_ids : List Component → ℕ → Component → Verdict
new_ids ch p c = new_test ch p c.id

abbrev pub links : List Component → ℕ → Component → Verdict
links ch p c = link_test ch p c.id c.attrs.depends_on

-- Questions 2 to 6 of a list of n entries, of which ch are kept: is there a component, are there at most 255, is each id
-- new, and then entry by entry is its dependency in the chain and earlier?
abbrev pub verdict_of : ℕ → List Component → Verdict
verdict_of n ch = pick (eqb n 0) (Err Empty) (pick (ltb 255 n) (Err TooLong) (or_else (first ch (new_ids ch)) (first ch (links ch))))

-- The number and the two places of each verdict.
abbrev pub answer_of : Verdict → Answer
answer_of (Ok u) = record { number = 0; place = 0; other = 0 }
answer_of (Err Empty) = record { number = 2; place = 0; other = 0 }
answer_of (Err TooLong) = record { number = 3; place = 0; other = 0 }
answer_of (Err (DuplicateId i)) = record { number = 4; place = i.0; other = 0 }
answer_of (Err (UnknownDependency i d)) = record { number = 5; place = i.0; other = d.0 }
answer_of (Err (ForwardDependency i d)) = record { number = 6; place = i.0; other = d.0 }

-- What an accepted list of n entries is.
pub record Sound (n : ℕ) (ch : List Component) : Type 0 where
  pub some : 0 < n
  pub few : n ≤ 255
  pub distinct : (i j : ℕ) → i < length ch → j < length ch → id_at ch i ≡ id_at ch j → i ≡ j
  pub ordered : (i : ℕ) (d : ComponentId) → i < length ch → depends_at ch i ≡ Some d → (j : ℕ) × (j < i) × (id_at ch j ≡ d)
