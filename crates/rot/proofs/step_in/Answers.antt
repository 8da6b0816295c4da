-- `step_in` meets its contract: the decided rule, performed, is the step, and at most 2N+1 effects fit into a sink of length 0, so
-- that it holds them all.
use Rattle.std.proofs.Common.{◌≡◌, ℕ, ◌<◌, List, ◌++◌, length, refl, sym, ap, ◌∙◌, arith}
use Rattle.model.specs.declared.Effect.{Effect}
use Rattle.model.specs.declared.Event.{Event}
use Rattle.components.specs.Chain.{position, id_at}
use Rattle.components.proofs.Accepted.{accepted-sound}
use Rattle.components.proofs.Lookup.{own-place}
use Rattle.components.specs.declared.Chain.{Chain}
use Rattle.components.specs.Tables.{entries, size, Accepted}
use Rattle.store.specs.declared.Sink.{Sink}
use Rattle.store.specs.Sink.{held}
use Rattle.store.proofs.Laws.{none-held}
use Rattle.machine.specs.declared.Work.{Work}
use Rattle.machine.specs.View.{Out, stay, core_of, Ran, Whole}
use Rattle.machine.proofs.Laws.{length-statuses}
use Rattle.machine.proofs.Says.{says-held, says-slots}
use Rattle.machine.proofs.Runs.{ran-as}
use Rattle.rules.specs.Performed.{performed}
use Rattle.rules.proofs.Right.{decided-right}
use Rattle.rot.specs.Step.{step_of}
use Rattle.rot.specs.Stepped.{bare, outcome, Stepped}
use Rattle.rot.proofs.Bound.{step-bound}
use Rattle.rot.proofs.Named.{step-unruled, step-outside, step-inside}
use Rattle.rot.proofs.step_in.Goals as goal

-- The chain is accepted, so that its first component stands at its own place.
first : (c : Chain) → Accepted c → 0 < size c → position (entries c) (id_at (entries c) 0) < size c
first c taken some = omega (arith, some, own-place c.list.len (entries c) (accepted-sound c.list.len (entries c) taken) 0 some)

-- What is run on a sink of length 0 holds all that the definition says.
module _ (c : Chain) (max : ℕ) (e : Event) (w r : Work) (whole : Whole w) (z : w.sink.effects.len ≡ 0) where
  stepped : 0 < size c → Ran (size c) w (outcome c max (bare w.state w.rot) e) r → Stepped c max (bare w.state w.rot) e r × Whole r
  stepped some d =
      let now = bare w.state w.rot in
      let said = (outcome c max now e).said in
      let most = step-bound (entries c) max (core_of (size c) now) e some (length-statuses (size c) w.rot c.few whole.sized) in
      let all = says-held w.sink said whole.slots (omega arith) in
      let count = ap (λ (x : Sink). x.effects.len) d.sink ∙ all.1 in (
        record {
          core = d.core;
          effects = ap held d.sink ∙ all.0 ∙ ap (λ (es : List Effect). es ++ said) (none-held w.sink z);
          count = omega (arith, count);
          few = omega (arith, count);
          fit = d.fit;
        },
        record { sized = d.sized whole.sized; slots = ap (λ (x : Sink). length x.effects.items) d.sink ∙ says-slots w.sink said ∙ whole.slots },
      )

-- Where nothing comes of the event the machine stays as it is.
quiet : (c : Chain) (max : ℕ) (e : Event) (w : Work) → Whole w → w.sink.effects.len ≡ 0 → stay (core_of (size c) w) ≡ outcome c max (bare w.state w.rot) e
    → Stepped c max (bare w.state w.rot) e w × Whole w
quiet c max e w whole z stays =
    let none = ap (λ (o : Out). length o.said) stays in (
      record {
        core = ap (λ (o : Out). o.core) stays;
        effects = none-held w.sink z ∙ ap (λ (o : Out). o.said) stays;
        count = omega (arith, none);
        few = omega arith;
        fit = λ fit. fit;
      },
      whole,
    )

-- The machine with nothing in its sink.
abbrev emptied : Work → Work
emptied w = record { state = w.state; rot = w.rot; sink = record { effects = record { items = w.sink.effects.items; len = 0 } } }

whole_of : (w : Work) → Whole w → Whole (emptied w)
whole_of w whole = record { sized = whole.sized; slots = whole.slots }

pub returns-then-rule-eq-NO_RULE : goal.returns-then-rule-eq-NO_RULE
returns-then-rule-eq-NO_RULE c =
    let a = c.args in
    let m = a.chain.now in
    let w = emptied a.w.now in
    quiet m a.max_retry a.event w (whole_of a.w.now c.requires.1) refl
    (step-unruled (entries m) a.max_retry (core_of (size m) w) a.event (sym c.rule_number-rule.ensures.0 ∙ c.if-rule-eq-NO_RULE.true))

pub returns-then-chain-place : goal.returns-then-chain-place
returns-then-chain-place c =
    let a = c.args in
    let m = a.chain.now in
    let w = emptied a.w.now in
    let j = id_at (entries m) 0 in
    quiet m a.max_retry a.event w (whole_of a.w.now c.requires.1) refl
    (step-outside (entries m) a.max_retry (core_of (size m) w) a.event j (first m c.requires.0 c.about-id.ensures.1)
    (omega (arith, c.if-chain-place.true, m.counted, c.position-place.ensures, ap (position (entries m)) c.about-id.ensures.0)))

pub returns : goal.returns
returns c =
    let a = c.args in
    let m = a.chain.now in
    let ch = entries m in
    let w = emptied a.w.now in
    let core = core_of (size m) w in
    let i = c.about-id.result in
    let here : position ch i < size m = omega (arith, c.if-chain-place.false, m.counted, c.position-place.ensures) in
    let right : performed ch c.position-place.result i a.event c.decided-d.result core ≡ step_of ch a.max_retry core a.event =
    rw (c.decided-d.ensures, c.position-place.ensures)
    (decided-right ch a.max_retry i a.event core c.rule_number-rule.result
    ∙ step-inside ch a.max_retry core a.event (id_at ch 0) i c.rule_number-rule.result c.about-id.ensures.0 c.rule_number-rule.ensures.0 here) in
    stepped m a.max_retry a.event w c.perform.new.w (whole_of a.w.now c.requires.1) refl c.about-id.ensures.1 (ran-as right c.perform.ensures)
