-- The loop of `settle_in`: as many turns as it took give what the definition gives.
use Rattle.std.specs.Prelude.{Option, None, Some}
use Rattle.model.specs.declared.Effect.{Effect}
use Prim.Native.Nat.{ℕ, zero, suc, ◌+◌, ◌≤◌}
use native.Mathlib.Numerals.{add-one}
use native.Mathlib.Omega.{arith}
use mathlib.Core.Path.{◌≡◌, refl, sym, ap, ◌∙◌}
use mathlib.Core.List.{List, []}
use lib.ListN.{length, length-drop}
use Rattle.model.specs.declared.Component.{Component}
use Rattle.components.specs.declared.Chain.{Chain}
use Rattle.components.specs.Tables.{entries}
use Rattle.store.specs.Sink.{held}
use Rattle.machine.specs.declared.Work.{Work}
use Rattle.settling.specs.declared.Dispatch.{Dispatch}
use Rattle.settling.specs.Settle.{Model, Run, turn_by, turn_of, turned, turns, settle}
use Rattle.settling.specs.Parts.{together, Parts, Makes, Rested}
use Rattle.settling.proofs.Ends.{turns_next, settle-turns}
use Rattle.settling.proofs.Views.{held-short, makes-same}

module _ (ch : List Component) (max : ℕ) where
  -- What n turns make of a machine.
  abbrev pub turning : Model → ℕ → Model
  turning x n = (turns ch max n record { machine = x; settled = [] }).machine

  -- One turn more.
  turning-next : (x : Model) (n : ℕ) → turn_of ch max (turning x n) ≡ turning x (n + 1)
  turning-next x n = sym (ap (λ (r : Run). r.machine) (turns_next ch max n record { machine = x; settled = [] })) ∙ ap (turning x) (sym (add-one n))

  -- Where a turn changes nothing, no number of turns does.
  fixed : (n : ℕ) (r : Run) → turn_of ch max r.machine ≡ r.machine → (turns ch max n r).machine ≡ r.machine
  unfolding turns
  fixed zero r h = refl
  fixed (suc n) r h = fixed n (turned ch max r) (ap (turn_of ch max) h) ∙ h

  pub fixed_from : (n k : ℕ) (r : Run) → turn_of ch max (turns ch max n r).machine ≡ (turns ch max n r).machine → n ≤ k → (turns ch max k r).machine ≡ (turns ch max n r).machine
  unfolding turns
  fixed_from zero k r h l = fixed k r h
  fixed_from (suc n) zero r h l = absurd (omega arith)
  fixed_from (suc n) (suc k) r h l = fixed_from n k (turned ch max r) h (omega arith)

  -- At most 512 effects are left and 8 events queued, so that 521 turns are enough. While an effect waits, no number of turns
  -- changes anything.
  enough-by : (x : Model) → length x.left ≤ 512 → length x.queue ≤ 8 → (w : Option Effect) → x.waiting ≡ w → turning x 521 ≡ (settle ch max x).machine
  unfolding settle
  enough-by x l q None h = ap (λ (r : Run). r.machine) (settle-turns ch max x h q 521 (omega arith))
  enough-by x l q (Some y) h =
      let start : Run = record { machine = x; settled = [] } in
      let still : turn_of ch max x ≡ x = ap (λ (u : Option Effect). turn_by ch max x u x.left x.queue) h in
      fixed 521 start still ∙ sym (fixed (length x.left + 9) start still)

pub left-few : {c : Chain} {w : Work} {d : Dispatch} → Parts c w d → length (together c w d).left ≤ 512
left-few {c} {w} {d} k = omega (arith, k.room, length-drop d.next (held w.sink), held-short w)

-- From the parts w and d, after n turns.
module _ (c : Chain) (max : ℕ) (w : Work) (d : Dispatch) where
  abbrev x : Model
  x = together c w d

  abbrev pub After : ℕ → Work → Dispatch → Type 0
  After n s r = Makes c (turning (entries c) max x n) s r

  pub after_none : Parts c w d → After 0 w d
  unfolding turns
  after_none k = makes-same k

  pub after_more : (n : ℕ) (s v : Work) (r q : Dispatch) → After n s r → Makes c (turn_of (entries c) max (together c s r)) v q → After (n + 1) v q
  after_more n s v r q a b = record { parts = b.parts; reads = b.reads ∙ ap (turn_of (entries c) max) a.reads ∙ turning-next (entries c) max x n }

  pub after_all : Parts c w d → (s : Work) (r : Dispatch) → After 521 s r → Makes c (settle (entries c) max x).machine s r
  after_all k s r a = record { parts = a.parts; reads = a.reads ∙ enough-by (entries c) max x (left-few k) k.few d.waiting refl }

  pub after_rested : Parts c w d → (n : ℕ) → n ≤ 521 → (s : Work) (r : Dispatch) → After n s r → Rested s r → Makes c (settle (entries c) max x).machine s r
  after_rested k n l s r a still =
      let stays : turn_of (entries c) max (turning (entries c) max x n) ≡ turning (entries c) max x n = ap (turn_of (entries c) max) (sym a.reads) ∙ still c max ∙ a.reads in
      after_all k s r record { parts = a.parts; reads = a.reads ∙ sym (fixed_from (entries c) max n 521 record { machine = x; settled = [] } stays l) }
