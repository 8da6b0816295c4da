-- What every step of a run keeps. The run stands in an E line, with a call under way, or between two, with the dispatch over
-- and the lines of all calls written; at the end of the sheet T lines follow. A step that makes a call begins with a machine
-- at rest; any other step is a turn, or leaves the machine as it is.
use Rattle.std.specs.Prelude.{Option, None, Some}
use mathlib.Core.Path.{◌≡◌, refl, sym, subst, ap, ◌∙◌}
use mathlib.Core.Logic.{◌⊎◌, inl, inr, ⊎_elim}
use mathlib.Core.Bool.{Bool, true, false}
use mathlib.Core.List.{List, [], ◌∷◌, ◌++◌, append-nil, append_assoc}
use Prim.Native.Nat.{ℕ, zero, suc, ◌+◌, ◌≤◌, ◌<◌}
use native.Mathlib.Omega.{arith}
use lib.Dec.{eqb, leb, ltb}
use lib.ListN.{length, drop, length-drop, drop_of_length-le}
use borrow.Author.Tests.{eqb-true, eqb-false, leb-true, leb-false, ltb-true, ltb-false}
use Rattle.model.specs.Vocabulary.{pick}
use Rattle.model.specs.declared.Component.{Component}
use Rattle.model.specs.declared.Event.{Event}
use Rattle.model.specs.declared.Effect.{Effect}
use Rattle.model.proofs.Pick.{pick_p}
use Rattle.components.specs.Chain.{id_at}
use Rattle.machine.specs.declared.ComponentStatus.{ComponentStatus}
use Rattle.machine.specs.Status.{status_at}
use Rattle.settling.specs.declared.Reply.{Reply}
use Rattle.settling.specs.declared.Reply.TheVariants.{Done}
use Rattle.settling.specs.Settle.{Model, turn_by, turn_of, taken_by, next_event}
use Rattle.settling.specs.View.{RestsBy}
use Rattle.lines.specs.declared.Row.{Row}
use Rattle.lines.specs.declared.Row.TheVariants as R
use Rattle.driver.specs.declared.Stage.{Stage}
use Rattle.driver.specs.declared.Stage.TheVariants.{Rests}
use Rattle.driver.specs.Run.{Entry, Effected, SettledIn, Told, Setting, Point, Step, settled_is, onward, silent, stopped, answered, answering, turned, handed, handing, taking, finishing, telling, begun, reading, stage_by, step_by, step_from}
use Rattle.history.specs.History.{Call, Begin, ReplyTo, settled}
use Rattle.rows.specs.Rows.{t_lines}
use Rattle.rows.specs.Handed.{reply_at, begin_at, call_by, call_at, effects_in, line_by, end_lines, Unwritten, nothing, tellings, under_way}
use Rattle.rows.proofs.HandedCalls.{Idle, idle-parts, due, tally, last, log, lines, Effects, Within, Through, waiting-through, rest-through, turning, taking-more, replying, beginning}

-- ---- T lines

-- The next one, where k are told.
tell-next : (cs : List Component) (ss : List ComponentStatus) (k : ℕ) → length ss ≡ length cs → k < length cs
    → drop k (t_lines cs ss) ≡ Told (id_at cs k) (status_at ss k) ∷ drop (suc k) (t_lines cs ss)
unfolding t_lines
tell-next [] ss k z h = absurd (omega arith)
tell-next (c ∷ cs) [] k z h = absurd (omega (arith, z))
tell-next (c ∷ cs) (x ∷ ss) zero z h = refl
tell-next (c ∷ cs) (x ∷ ss) (suc k) z h = tell-next cs ss k (omega (arith, z)) (omega arith)

tell-few : (cs : List Component) (ss : List ComponentStatus) → length (t_lines cs ss) ≤ length cs
unfolding t_lines
tell-few [] ss = omega arith
tell-few (c ∷ cs) [] = omega arith
tell-few (c ∷ cs) (x ∷ ss) = omega (arith, tell-few cs ss)

-- They name no effect.
tell-quiet : (cs : List Component) (ss : List ComponentStatus) (k : ℕ) → effects_in (drop k (t_lines cs ss)) ≡ []
unfolding t_lines effects_in
tell-quiet [] ss zero = refl
tell-quiet [] ss (suc k) = refl
tell-quiet (c ∷ cs) [] zero = refl
tell-quiet (c ∷ cs) [] (suc k) = refl
tell-quiet (c ∷ cs) (x ∷ ss) zero = tell-quiet cs ss zero
tell-quiet (c ∷ cs) (x ∷ ss) (suc k) = tell-quiet cs ss k

-- A line before lines without effects has one effect at most.
pub one-effect : (e : Entry) (es : List Entry) → effects_in es ≡ [] → length (effects_in (e ∷ es)) ≤ 1
unfolding effects_in
one-effect (Effected x) es h = omega (arith, ap length h)
one-effect (SettledIn t) es h = omega (arith, ap length h)
one-effect (Told i t) es h = omega (arith, ap length h)

-- ---- Contradictions

-- A run that goes on has not stopped.
pub goes : {A : Type 0} {b : Bool} → b ≡ true → b ≡ false → A
goes t f = let z : ◌≡◌ {A = ℕ} 1 0 = ap (λ (b : Bool). pick b 1 0) (sym t ∙ f) in absurd (omega arith)

not-waiting : {A : Type 0} (w : Option Effect) (x : Effect) → w ≡ None → w ≡ Some x → A
not-waiting w x e f = let n : None ≡ Some x = sym e ∙ f in let z : ◌≡◌ {A = ℕ} 0 1 = cc in absurd (omega arith)

not-empty : {A B : Type 0} (l : List B) (x : B) (xs : List B) → l ≡ [] → l ≡ x ∷ xs → A
not-empty l x xs e f = let z : ◌≡◌ {A = ℕ} 0 (suc (length xs)) = ap length (sym e ∙ f) in absurd (omega arith)

module _ (s : Setting) where
  abbrev pub ends : List Call → List Entry
  ends ks = end_lines s.chain s.max_retry ks

  -- ---- Where a run stands, with these lines written and after the calls ks

  -- In an E line.
  pub record During (m : Model) (n told work : ℕ) (said : List Entry) (ks : List Call) : Type 0 where
    pub within : Within s m n said ks
    pub early : told ≡ 0
    pub busy : work ≡ 0 → ⊥

  -- Between two; before the sheet's end no T line is told.
  pub record Between (m : Model) (n told : ℕ) (rs : List (Option Row)) (said : List Entry) (ks : List Call) : Type 0 where
    pub idle : Idle m
    pub through : Through s m n ks
    pub written : lines s ks ++ ends ks ≡ said ++ drop told (ends ks)
    pub early : ((told ≡ 0) × (lines s ks ≡ said)) ⊎ (rs ≡ [])
    pub effects : Effects s ks

  abbrev pub Busy : Point → List Entry → List Call → Type 0
  Busy p said ks = During p.machine p.settled p.told p.work said ks

  abbrev pub Free : Point → List Entry → List Call → Type 0
  Free p said ks = Between p.machine p.settled p.told p.rows said ks

  pub record At (next n : ℕ) (stands : Type 0) : Type 0 where
    pub line : 0 < next
    pub low : n ≤ s.limit
    pub here : stands

  abbrev pub Standing : Point → List Entry → List Call → Type 0
  Standing p said ks = At p.line p.settled (Busy p said ks ⊎ (p.work ≡ 0) × Free p said ks)

  pub effects-at : (p : Point) (said : List Entry) (ks : List Call) → Standing p said ks → Effects s ks
  effects-at p said ks h = ⊎_elim (λ d. d.within.effects) (λ b. b.1.effects) h.here

  -- ---- What a step gives

  -- A line, before those that are still to come; every event of the calls is counted.
  pub record Spoken (said : List Entry) (ks : List Call) (t : Step) : Type 0 where
    pub line : Entry
    pub rest : List Entry
    pub this : t.said ≡ line ∷ []
    pub first : lines s ks ++ ends ks ≡ said ++ (line ∷ rest)
    pub few : length rest ≤ length (ends ks)
    pub quiet : effects_in rest ≡ []
    pub count : t.point.settled ≡ settled (log s ks)

  -- Or the end with 0, 7 or 9.
  pub record Stopped (n number : ℕ) (said : List Entry) (ks : List Call) : Type 0 where
    pub rest : List Entry
    pub first : lines s ks ++ ends ks ≡ said ++ rest
    pub few : length rest ≤ suc (length (ends ks))
    pub one : length (effects_in rest) ≤ 1
    pub none : (number ≡ 9 → ⊥) → effects_in rest ≡ []
    pub left : (room : ℕ) → Unwritten room said (ends ks) number rest
    pub same : (number ≡ 9 → ⊥) → n ≡ settled (log s ks)
    pub past : number ≡ 9 → (n ≡ s.limit) × (s.limit < settled (log s ks))
    pub rested : (number ≡ 9 → ⊥) → (last s ks).waiting ≡ None

  abbrev Stops : Bool → Point → List Entry → List Call → Type 0
  Stops going p said ks = going ≡ true → p.going ≡ false → Stopped p.settled p.number said ks

  pub record After (going : Bool) (said : List Entry) (ks : List Call) (t : Step) : Type 0 where
    pub stands : Standing t.point (said ++ t.said) ks
    pub speaks : (t.said ≡ []) ⊎ Spoken said ks t
    pub stops : Stops going t.point (said ++ t.said) ks

  silently : (going : Bool) (said : List Entry) (ks : List Call) (p : Point) → Standing p said ks → Stops going p said ks
      → After going said ks (silent p)
  silently going said ks p h g =
      let e : said ≡ said ++ [] = sym (append-nil said) in
      record {
        stands = subst (λ (es : List Entry). Standing p es ks) e h;
        speaks = inl refl;
        stops = subst (λ (es : List Entry). Stops going p es ks) e g;
      }

  -- The lines of the calls are written but for this one.
  up_to : (said : List Entry) (ks : List Call) (e : Entry) → lines s ks ≡ said ++ (e ∷ [])
      → lines s ks ++ ends ks ≡ said ++ (e ∷ ends ks)
  up_to said ks e h = ap (λ (es : List Entry). es ++ ends ks) h ∙ append_assoc said (e ∷ []) (ends ks)

  pub ends-quiet : (ks : List Call) → effects_in (ends ks) ≡ []
  ends-quiet ks = tell-quiet s.chain _ 0

  replies : (said : List Entry) (ks : List Call) (p : Point) (x : Effect) (a : Reply) → 0 < p.line → p.settled ≤ s.limit
      → p.machine.waiting ≡ Some x → Busy p said ks → After p.going said (ReplyTo a ∷ ks) (silent (answered a p))
  replies said ks p x a line low e d =
      let w = replying s p.machine p.settled said ks x a e d.within in
      silently p.going said (ReplyTo a ∷ ks) (answered a p)
      record { line = line; low = low; here = inl record { within = w; early = d.early; busy = d.busy } } goes

  module _ (said : List Entry) (ks : List Call) (p : Point) (h : Standing p said ks) where
    abbrev m : Model
    m = p.machine

    abbrev n : ℕ
    n = p.settled

    abbrev next : Model
    next = turn_of s.chain s.max_retry m

    -- Where an effect waits or is left, or an event is queued, the run is in an E line.
    busy-by : (Idle m → Busy p said ks) → Busy p said ks
    busy-by f = ⊎_elim (λ d. d) (λ b. f b.1.idle) h.here

    -- ---- An effect waits
    waits : (rs : List (Option Row)) (x : Effect) → m.waiting ≡ Some x
        → After p.going said (ReplyTo (reply_at rs) ∷ ks) (silent (answering p rs))
    waits rs x e = by_row rs
      where
        busy : Busy p said ks
        busy = busy-by (λ i. not-waiting m.waiting x i.0 e)

        by_row : (rs : List (Option Row)) → After p.going said (ReplyTo (reply_at rs) ∷ ks) (silent (answering p rs))
        by_row [] = replies said ks p x Done h.line h.low e busy
        by_row (Some (R.Retry k) ∷ rs) = replies said ks p x Done h.line h.low e busy
        by_row (Some (R.Card c) ∷ rs) = replies said ks p x Done h.line h.low e busy
        by_row (Some (R.Begin v) ∷ rs) = replies said ks p x Done h.line h.low e busy
        by_row (Some (R.Answer a) ∷ rs) = replies said ks (onward rs p) x a (omega arith) h.low e busy
        by_row (None ∷ rs) = replies said ks p x Done h.line h.low e busy

    -- ---- A turn
    -- One that takes no event.
    turns : m.waiting ≡ None → next_event m ≡ None → Busy p said ks
        → Within s next n (said ++ handed next.waiting) ks
    turns e o d =
        subst (λ (v : Option Event). Within s next (tally v n) (said ++ handed next.waiting) ks) o
        (turning s m n said ks e d.within)

    hands_out : (x : Effect) (b : List Effect) → m.waiting ≡ None → m.left ≡ x ∷ b → After p.going said ks (handing s p)
    hands_out x b e l =
        let d : Busy p said ks = busy-by (λ i. not-empty m.left x b (idle-parts m i).0 l) in
        let w : Within s next n (said ++ handed next.waiting) ks = turns e (λ j. taken_by (e j) (l j) m.queue) d in
        record {
          stands = record { line = h.line; low = h.low; here = inl record { within = w; early = d.early; busy = d.busy } };
          speaks = by-effect w next.waiting refl;
          stops = goes;
        }
      where
        by-effect : Within s next n (said ++ handed next.waiting) ks → (v : Option Effect) → next.waiting ≡ v
            → (handed next.waiting ≡ []) ⊎ Spoken said ks (handing s p)
        by-effect w None f = inl (ap handed f)
        by-effect w (Some y) f =
            inr record {
              line = Effected y;
              rest = ends ks;
              this = ap handed f;
              first = up_to said ks (Effected y)
                  (w.written ∙ ap (λ (v : Option Effect). (said ++ handed v) ++ due v (last s ks)) f
                  ∙ append-nil (said ++ (Effected y ∷ [])));
              few = omega arith;
              quiet = ends-quiet ks;
              count = (waiting-through s next n (said ++ handed next.waiting) ks y f w).count;
            }

    takes : (e : Event) (q : List Event) → m.waiting ≡ None → m.left ≡ [] → m.queue ≡ e ∷ q
        → After p.going said ks (silent (taking s p))
    takes e q w l r =
        let d : Busy p said ks = busy-by (λ i. not-empty m.queue e q (idle-parts m i).1 r) in
        let o : next_event m ≡ Some e = λ j. taken_by (w j) (l j) (r j) in
        let v : next.waiting ≡ None = (λ j. (turn_by s.chain s.max_retry m (w j) (l j) (r j)).waiting) ∙ w in
        let t : Within s next (n + 1) (said ++ handed next.waiting) ks =
        subst (λ (u : Option Event). Within s next (tally u n) (said ++ handed next.waiting) ks) o
        (turning s m n said ks w d.within) in
        let quiet : Within s next (n + 1) said ks =
        subst (λ (es : List Entry). Within s next (n + 1) es ks)
        (ap (λ (u : Option Effect). said ++ handed u) v ∙ append-nil said) t in
        let line : Entry = line_by (last s ks) (last s ks).waiting in
        pick_p (λ (x : Point). After p.going said ks (silent x)) (leb s.limit n)
        (λ f. silently p.going said ks (stopped 9 0 p) record { line = h.line; low = h.low; here = inl d }
        (λ a b. let full : n ≡ s.limit = omega (arith, h.low, leb-true s.limit n f) in
        record {
          rest = line ∷ ends ks;
          first = up_to said ks line (d.within.written ∙ ap (λ (u : Option Effect). said ++ due u (last s ks)) w);
          few = omega arith;
          one = one-effect line (ends ks) (ends-quiet ks);
          none = λ k. absurd (k refl);
          left = λ room. under_way line;
          same = λ k. absurd (k refl);
          past = λ k. (full, omega (arith, full, taking-more s m n said ks e o d.within));
          rested = λ k. absurd (k refl);
        }))
        (λ f. silently p.going said ks (settled_is (n + 1) (turned s p))
        record {
          line = h.line;
          low = omega (arith, leb-false s.limit n f);
          here = inl record { within = quiet; early = d.early; busy = d.busy };
        }
        goes)

    -- The turn that ends the dispatch, with nothing left and nothing queued.
    over : m.waiting ≡ None → m.left ≡ [] → m.queue ≡ [] → Idle next
    over e l q =
        subst Idle (λ j. turn_by s.chain s.max_retry m (sym e j) (sym l j) (sym q j))
        (e, subst (λ (w : Option Effect). RestsBy w m.left m.queue false) (sym e) (l, q, refl))

    finishes : m.waiting ≡ None → m.left ≡ [] → m.queue ≡ [] → (p.work ≡ 0 → ⊥)
        → After p.going said ks (finishing s p)
    finishes e l q work =
        let d : Busy p said ks = ⊎_elim (λ x. x) (λ b. absurd (work b.0)) h.here in
        let i : Idle next = over e l q in
        let w : Within s next n (said ++ handed next.waiting) ks = turns e (λ j. taken_by (e j) (l j) (q j)) d in
        let t : Through s next n ks = rest-through s next n (said ++ handed next.waiting) ks i.1 w in
        let core : next.core ≡ m.core = λ j. (turn_by s.chain s.max_retry m (e j) (l j) (q j)).core in
        let line : Entry = SettledIn m.core.state in
        let here : line_by (last s ks) (last s ks).waiting ≡ line =
        (λ j. line_by (sym t.machine j) (sym t.machine j).waiting) ∙ ap (line_by next) i.0
        ∙ (λ j. SettledIn (core j).state) in
        let all : lines s ks ≡ said ++ (line ∷ []) =
        d.within.written ∙ ap (λ (v : Option Effect). said ++ due v (last s ks)) e
        ∙ ap (λ (x : Entry). said ++ (x ∷ [])) here in
        record {
          stands = record {
            line = h.line;
            low = h.low;
            here = inr (
              refl,
              record {
                idle = i;
                through = t;
                written = (λ j. all j ++ drop (sym d.early j) (ends ks));
                early = inl (d.early, all);
                effects = d.within.effects;
              },
            );
          };
          speaks = inr record {
            line = line;
            rest = ends ks;
            this = refl;
            first = up_to said ks line all;
            few = omega arith;
            quiet = ends-quiet ks;
            count = t.count;
          };
          stops = goes;
        }

    -- ---- The next line, with no event at work
    module _ (work : p.work ≡ 0) (b : Free p said ks) where
      -- Before the end of the sheet.
      before : (r : Option Row) (rs : List (Option Row)) → p.rows ≡ r ∷ rs → (p.told ≡ 0) × (lines s ks ≡ said)
      before r rs e = ⊎_elim (λ x. x) (λ x. not-empty p.rows r rs x e) b.early

      rested : (last s ks).waiting ≡ None
      rested = ap (λ (l : Model). l.waiting) (sym b.through.machine) ∙ b.idle.0

      begins : (e : Event) (rs : List (Option Row)) → p.rows ≡ Some (R.Begin e) ∷ rs
          → After p.going said (Begin e ∷ ks) (silent (onward rs (begun e p)))
      begins e rs r =
          let f = before (Some (R.Begin e)) rs r in
          let w = beginning s m n said ks e b.idle b.through f.1 b.effects in
          silently p.going said (Begin e ∷ ks) (onward rs (begun e p))
          record {
            line = omega (arith, h.line);
            low = h.low;
            here = inl record { within = w; early = f.0; busy = λ v. absurd (omega (arith, h.line, v)) };
          }
          goes

      tells : p.rows ≡ [] → length m.core.statuses ≡ length s.chain → After p.going said ks (telling s p)
      unfolding effects_in
      tells r z =
          let line : Entry = Told (id_at s.chain p.told) (status_at m.core.statuses p.told) in
          let rest : List Entry = drop (suc p.told) (ends ks) in
          pick_p (After p.going said ks) (ltb p.told (length s.chain))
          (λ f.
          let first : lines s ks ++ ends ks ≡ said ++ (line ∷ rest) = b.written
          ∙ ap (λ (l : Model). said ++ drop p.told (t_lines s.chain l.core.statuses)) (sym b.through.machine)
          ∙ ap (λ (es : List Entry). said ++ es)
          (tell-next s.chain m.core.statuses p.told z (ltb-true p.told (length s.chain) f))
          ∙ ap (λ (l : Model). said ++ (line ∷ drop (suc p.told) (t_lines s.chain l.core.statuses)))
          b.through.machine in
          let more : suc p.told ≡ p.told + 1 = omega arith in
          record {
            stands = record {
              line = h.line;
              low = h.low;
              here = inr (
                work,
                record {
                  idle = b.idle;
                  through = b.through;
                  written = first ∙ sym (append_assoc said (line ∷ []) rest)
                      ∙ ap (λ (k : ℕ). (said ++ (line ∷ [])) ++ drop k (ends ks)) more;
                  early = inr r;
                  effects = b.effects;
                },
              );
            };
            speaks = inr record {
              line = line;
              rest = rest;
              this = refl;
              first = first;
              few = omega (arith, length-drop (suc p.told) (ends ks));
              quiet = tell-quiet s.chain _ (suc p.told);
              count = b.through.count;
            };
            stops = goes;
          })
          (λ f. silently p.going said ks (stopped 0 0 p) record { line = h.line; low = h.low; here = inr (work, b) }
          (λ x y.
          let few : length (ends ks) ≤ length s.chain = tell-few s.chain _ in
          let all : length (ends ks) ≤ p.told = omega (arith, few, ltb-false p.told (length s.chain) f) in
          record {
            rest = [];
            first = b.written ∙ ap (λ (es : List Entry). said ++ es) (drop_of_length-le (ends ks) all);
            few = omega arith;
            one = omega arith;
            none = λ k. refl;
            left = λ room. nothing;
            same = λ k. b.through.count;
            past = λ k. absurd (omega (arith, k));
            rested = λ k. rested;
          }))

      passes : (r : Option Row) (rs : List (Option Row)) → p.rows ≡ r ∷ rs → After p.going said ks (silent (onward rs p))
      passes r rs e =
          let free : Free (onward rs p) said ks = record {
            idle = b.idle;
            through = b.through;
            written = b.written;
            early = inl (before r rs e);
            effects = b.effects;
          } in
          silently p.going said ks (onward rs p)
          record { line = omega (arith, h.line); low = h.low; here = inr (work, free) } goes

      refuses : (a : Reply) (rs : List (Option Row)) → p.rows ≡ Some (R.Answer a) ∷ rs
          → After p.going said ks (silent (stopped 7 p.line p))
      refuses a rs e =
          silently p.going said ks (stopped 7 p.line p) record { line = h.line; low = h.low; here = inr (work, b) }
          (λ x y. record {
            rest = ends ks;
            first = ap (λ (es : List Entry). es ++ ends ks) (before (Some (R.Answer a)) rs e).1;
            few = omega arith;
            one = omega (arith, ap length (ends-quiet ks));
            none = λ k. ends-quiet ks;
            left = λ room. tellings;
            same = λ k. b.through.count;
            past = λ k. absurd (omega (arith, k));
            rested = λ k. rested;
          })

      reads : (rs : List (Option Row)) → p.rows ≡ rs → length m.core.statuses ≡ length s.chain
          → After p.going said (begin_at rs ++ ks) (reading s p rs)
      reads [] r z = tells r z
      reads (Some (R.Retry k) ∷ rs) r z = passes (Some (R.Retry k)) rs r
      reads (Some (R.Card c) ∷ rs) r z = passes (Some (R.Card c)) rs r
      reads (Some (R.Begin e) ∷ rs) r z = begins e rs r
      reads (Some (R.Answer a) ∷ rs) r z = refuses a rs r
      reads (None ∷ rs) r z = passes None rs r

    -- ---- One step, with a status for each component
    module _ (z : length m.core.statuses ≡ length s.chain) where
      abbrev Steps : Stage → Type 0
      Steps g = After p.going said (call_by g p.work p.rows ++ ks) (step_by s p g)

      rests : m.waiting ≡ None → m.left ≡ [] → m.queue ≡ [] → Steps Rests
      rests e l q = by-work (eqb p.work 0) refl
        where
          by-work : (t : Bool) → eqb p.work 0 ≡ t
              → After p.going said (pick t (begin_at p.rows) [] ++ ks) (pick t (reading s p p.rows) (finishing s p))
          by-work true t =
              let free : p.work ≡ 0 = eqb-true p.work 0 t in
              reads free (⊎_elim (λ d. absurd (d.busy free)) (λ b. b.1) h.here) p.rows refl z
          by-work false t = finishes e l q (eqb-false p.work 0 t)

      by-stage : (w : Option Effect) (b : List Effect) (q : List Event) → m.waiting ≡ w → m.left ≡ b → m.queue ≡ q
          → Steps (stage_by w b q)
      by-stage (Some x) b q e l r = waits p.rows x e
      by-stage None (x ∷ b) q e l r = hands_out x b e l
      by-stage None [] (v ∷ q) e l r = takes v q e l r
      by-stage None [] [] e l r = rests e l r

      pub step : After p.going said (call_at p ++ ks) (step_from s p)
      unfolding step_from
      step = by-stage m.waiting m.left m.queue refl refl refl
