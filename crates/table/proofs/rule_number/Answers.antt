-- `rule_number` meets its contract: entry j of row i of the constant stands at i * 18 + j of the table.
use Rattle.std.proofs.Common.{ℕ, ◌+◌, ◌*◌, ◌<◌, ◌≡◌, ◌∙◌, ap, sym, [], get_or}
use Rattle.model.specs.declared.State.{State}
use Rattle.model.specs.declared.Event.{Event}
use Rattle.table.specs.Table.{state_no, event_no, table, rule_no}
use Rattle.table.proofs.Rows.{rows, at_row}
use Rattle.table.proofs.Right.{rule-below}
use Rattle.table.proofs.rule_number.Goals as goal

-- The rule of a state and an event stands in the table, cut into its rows, at the state's row and the event's column.
stands : (s : State) (e : Event) {i j : ℕ} → (i ≡ state_no s) × (i < 7) → (j ≡ event_no e) × (j < 18) → rule_no s e ≡ get_or (get_or (rows 7 18 table) i []) j 0
unfolding rule_no
stands s e {i} {j} row column =
    sym
    (at_row 7 18 table i j row.1 column.1
    ∙ ap (λ (k : ℕ). get_or table (k * 18 + j) 0) row.0
    ∙ ap (λ (k : ℕ). get_or table (state_no s * 18 + k) 0) column.0)

pub returns : goal.returns
unfolding table
returns c =
    let found = stands c.args.state c.args.event c.state_no.ensures c.event_no.ensures in
    (rw found, rw found at (rule-below c.args.state c.args.event))
