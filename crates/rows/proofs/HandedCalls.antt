-- The machine of the last call is where the turns of the run's machine lead. The lines of the calls are what is written, and
-- the line of the call under way if that is still to come; the events settled are those counted, and those that the call
-- under way is still to take. A turn keeps this. A call begins with a machine at rest: that of the call before.
use Rattle.std.specs.Prelude.{Option, None, Some}
use mathlib.Core.Path.{◌≡◌, refl, sym, subst, ap, ◌∙◌}
use mathlib.Core.List.{List, [], ◌∷◌, ◌++◌, map, append_assoc, append-nil}
use Prim.Native.Nat.{ℕ, ◌+◌, ◌<◌}
use native.Mathlib.Omega.{arith}
use lib.ListN.{length}
use Rattle.model.specs.Vocabulary.{pick}
use Rattle.model.specs.declared.Component.{Component}
use Rattle.model.specs.declared.Event.{Event}
use Rattle.model.specs.declared.Effect.{Effect}
use Rattle.model.proofs.Pick.{pick_p}
use Rattle.pending.specs.Queue.{has_room}
use Rattle.settling.specs.declared.Reply.{Reply}
use Rattle.settling.specs.declared.Reply.TheVariants.{Done, Then, Failed}
use Rattle.settling.specs.Settle.{Model, Run, waiting_is, queue_is, latch, enqueue, replied, turn_by, turn_of, taken_by, next_event, noted, turned, settle}
use Rattle.settling.specs.View.{RestsBy, Rests}
use Rattle.settling.proofs.Ends.{Few, enqueue-few, fail-few, turn-few, turned-stays, settle-ends}
use Rattle.sm.specs.Calls.{Expected, answered, refused, done_by, begin_of, reply_by, reply_of}
use Rattle.driver.specs.Run.{Entry, Effected, SettledIn, Told, Setting, handed}
use Rattle.history.specs.History.{Call, Begin, ReplyTo, machine_after, expected_after, answers_to, Item, Taken, HandedOut, handed_by, log_of, settled}
use Rattle.rows.specs.Handed.{effects_in, handed_out, line_by, call_lines, Granted}
use Rattle.rows.proofs.HandedTurns.{Leads, settle-leads, turn-leads, stays, takes-more}

-- ---- What a call hands out and settles

handed-append : (l log : List Item) → handed_out (l ++ log) ≡ handed_out log ++ handed_out l
unfolding handed_out
handed-append [] log = sym (append-nil (handed_out log))
handed-append (Taken e ∷ l) log = handed-append l log
handed-append (HandedOut x ∷ l) log =
    ap (λ (xs : List Effect). xs ++ (x ∷ [])) (handed-append l log)
    ∙ append_assoc (handed_out log) (handed_out l) (x ∷ [])

handed-taken : (es : List Event) → handed_out (map Taken es) ≡ []
unfolding handed_out
handed-taken [] = refl
handed-taken (e ∷ es) = handed-taken es

-- Its items, where it answers 0 and the effect w waits after it.
abbrev items : Option Effect → List Event → List Item
items w es = handed_by record { number = 0; effect = w } ++ map Taken es

-- Its line has the effect that it hands out.
handed-line : (m : Model) (w : Option Effect) (es : List Event) → handed_out (items w es) ≡ effects_in (line_by m w ∷ [])
unfolding handed_out effects_in
handed-line m None es = handed-taken es
handed-line m (Some x) es = ap (λ (xs : List Effect). xs ++ (x ∷ [])) (handed-taken es)

settled-taken : (es : List Event) (log : List Item) → settled (map Taken es ++ log) ≡ settled log + length es
settled-taken [] log = omega arith
settled-taken (e ∷ es) log = omega (arith, settled-taken es log)

settled-items : (w : Option Effect) (es : List Event) (log : List Item) → settled (items w es ++ log) ≡ settled log + length es
settled-items None es log = settled-taken es log
settled-items (Some x) es log = settled-taken es log

pub effects-append : (es fs : List Entry) → effects_in (es ++ fs) ≡ effects_in es ++ effects_in fs
unfolding effects_in
effects-append [] fs = refl
effects-append (Effected x ∷ es) fs = ap (λ (xs : List Effect). x ∷ xs) (effects-append es fs)
effects-append (SettledIn t ∷ es) fs = effects-append es fs
effects-append (Told i t ∷ es) fs = effects-append es fs

-- ---- Machines

-- The dispatch is over, and no effect waits.
abbrev pub Idle : Model → Type 0
Idle m = (m.waiting ≡ None) × Rests m

-- Then nothing is left and nothing is queued.
pub idle-parts : (m : Model) → Idle m → (m.left ≡ []) × (m.queue ≡ [])
idle-parts m i =
    let r = subst (λ (w : Option Effect). RestsBy w m.left m.queue m.failed) i.0 i.1 in
    (r.0, r.1)

enqueued : (m : Model) (e : Event) → m.queue ≡ [] → enqueue e m ≡ queue_is (e ∷ []) m
enqueued m e q =
    ap (λ (l : List Event). pick (has_room l) (queue_is (l ++ (e ∷ [])) m) (pick m.failed m (latch m))) q

-- A reply leaves no effect waiting, and room for the events.
abbrev Quiet : Model → Type 0
Quiet m = m.waiting ≡ None

replied-quiet : (a : Reply) (m : Model) → Quiet m → Quiet (replied a m)
replied-quiet Done m h = h
replied-quiet (Then e) m h = pick_p Quiet (has_room m.queue) (λ t. h) (λ t. pick_p Quiet m.failed (λ u. h) (λ u. h))
replied-quiet Failed m h = pick_p Quiet m.failed (λ t. h) (λ t. h)

replied-few : (a : Reply) (m : Model) → Few m → Few (replied a m)
replied-few Done m h = h
replied-few (Then e) m h = enqueue-few e m h
replied-few Failed m h = fail-few m h

-- ---- A call under way

-- Its line, if that is still to come: w waits now, and l is the machine in the end.
abbrev pub due : Option Effect → Model → List Entry
due (Some x) l = []
due None l = line_by l l.waiting ∷ []

-- What is to come is what a turn writes, and what is to come after it.
due-next : (w : Option Effect) (l : Model) → ((x : Effect) → w ≡ Some x → l.waiting ≡ w)
    → due None l ≡ handed w ++ due w l
due-next None l h = refl
due-next (Some x) l h = ap (λ (w : Option Effect). line_by l w ∷ []) (h x refl)

-- How many are settled after a turn that takes this event or none.
abbrev pub tally : Option Event → ℕ → ℕ
tally None n = n
tally (Some e) n = n + 1

tally-noted : (o : Option Event) (n before : ℕ) (es : List Event) → n ≡ before + length es
    → tally o n ≡ before + length (noted o es)
tally-noted None n before es h = h
tally-noted (Some e) n before es h = omega (arith, h)

module _ (s : Setting) where
  abbrev ch : List Component
  ch = s.chain

  abbrev max : ℕ
  max = s.max_retry

  abbrev pub last : List Call → Model
  last ks = machine_after ch max ks

  abbrev pub log : List Call → List Item
  log ks = log_of ch max ks (answers_to ch max ks)

  abbrev pub lines : List Call → List Entry
  lines ks = call_lines ch max ks (answers_to ch max ks)

  -- No call is refused, and they hand out the effects of their lines.
  pub record Effects (ks : List Call) : Type 0 where
    pub granted : Granted (answers_to ch max ks)
    pub handed : handed_out (log ks) ≡ effects_in (lines ks)

  -- The run's machine is m, it has settled n events and written `said`, and the last of the calls ks is under way: it has
  -- taken the events `now` of those that it takes in all.
  pub record Within (m : Model) (n : ℕ) (said : List Entry) (ks : List Call) : Type 0 where
    pub before : ℕ
    pub now : List Event
    pub all : List Event
    pub leads : Leads ch max record { machine = m; settled = now } record { machine = last ks; settled = all }
    pub rests : Rests (last ks)
    pub few : Few m
    pub count : n ≡ before + length now
    pub total : settled (log ks) ≡ before + length all
    pub written : lines ks ≡ said ++ due m.waiting (last ks)
    pub effects : Effects ks

  -- Where a turn changes nothing, the call is done.
  pub record Through (m : Model) (n : ℕ) (ks : List Call) : Type 0 where
    pub machine : m ≡ last ks
    pub count : n ≡ settled (log ks)

  turned-waiting : (m : Model) (es : List Event) (x : Effect) → m.waiting ≡ Some x
      → turned ch max record { machine = m; settled = es } ≡ record { machine = m; settled = es }
  turned-waiting m es x e =
      λ j. record {
        machine = turn_by ch max m (e j) m.left m.queue;
        settled = noted (taken_by (e j) m.left m.queue) es;
      }

  through : (m : Model) (n : ℕ) (said : List Entry) (ks : List Call) (h : Within m n said ks)
      → turned ch max record { machine = m; settled = h.now } ≡ record { machine = m; settled = h.now } → Through m n ks
  through m n said ks h t =
      let e = stays ch max h.leads t in
      record {
        machine = ap (λ (r : Run). r.machine) e;
        count = omega (arith, h.count, h.total, ap (λ (r : Run). length r.settled) e);
      }

  -- An effect waits.
  pub waiting-through : (m : Model) (n : ℕ) (said : List Entry) (ks : List Call) (x : Effect) → m.waiting ≡ Some x
      → Within m n said ks → Through m n ks
  waiting-through m n said ks x e h = through m n said ks h (turned-waiting m h.now x e)

  -- Or the dispatch is over.
  pub rest-through : (m : Model) (n : ℕ) (said : List Entry) (ks : List Call) → Rests m → Within m n said ks → Through m n ks
  rest-through m n said ks r h = through m n said ks h (turned-stays ch max record { machine = m; settled = h.now } r)

  -- ---- A turn
  pub turning : (m : Model) (n : ℕ) (said : List Entry) (ks : List Call) → m.waiting ≡ None → Within m n said ks
      → Within (turn_of ch max m) (tally (next_event m) n) (said ++ handed (turn_of ch max m).waiting) ks
  turning m n said ks e h =
      let v : Option Effect = (turn_of ch max m).waiting in
      let l = turn-leads ch max h.leads h.rests in
      let k = tally-noted (next_event m) n h.before h.now h.count in
      let final : (x : Effect) → v ≡ Some x → (last ks).waiting ≡ v =
      λ x w. ap (λ (r : Run). r.machine.waiting)
      (sym (stays ch max l (turned-waiting (turn_of ch max m) (noted (next_event m) h.now) x w))) in
      record {
        before = h.before;
        now = noted (next_event m) h.now;
        all = h.all;
        leads = l;
        rests = h.rests;
        few = turn-few ch max m h.few;
        count = k;
        total = h.total;
        written = h.written ∙ ap (λ (w : Option Effect). said ++ due w (last ks)) e
            ∙ ap (λ (es : List Entry). said ++ es) (due-next v (last ks) final)
            ∙ sym (append_assoc said (handed v) (due v (last ks)));
        effects = h.effects;
      }

  -- More events are to come where the next turn takes one.
  pub taking-more : (m : Model) (n : ℕ) (said : List Entry) (ks : List Call) (e : Event) → next_event m ≡ Some e
      → Within m n said ks → n < settled (log ks)
  taking-more m n said ks e o h =
      let more = takes-more ch max (turn-leads ch max h.leads h.rests) in
      let one : length (noted (next_event m) h.now) ≡ length h.now + 1 =
      ap (λ (v : Option Event). length (noted v h.now)) o ∙ omega arith in
      omega (arith, h.count, h.total, more, one)

  -- ---- A call
  -- It settles the machine m; the lines of the calls before are written, and their events counted.
  calls : (m : Model) (n : ℕ) (said : List Entry) (ks : List Call) (k : Call)
      → expected_after ch max ks k ≡ answered (settle ch max m)
      → m.waiting ≡ None → Few m → n ≡ settled (log ks) → lines ks ≡ said → Effects ks → Within m n said (k ∷ ks)
  unfolding machine_after log_of answers_to call_lines
  calls m n said ks k g w h c e x =
      let r : Run = settle ch max m in
      let v : Option Effect = r.machine.waiting in
      let f : last (k ∷ ks) ≡ r.machine = ap (λ (y : Expected). y.machine) g in
      let logged : log (k ∷ ks) ≡ items v r.settled ++ log ks =
      ap (λ (y : Expected). (handed_by record { number = y.number; effect = y.effect } ++ map Taken y.settled) ++ log ks)
      g in
      let lined : lines (k ∷ ks) ≡ lines ks ++ (line_by r.machine v ∷ []) =
      ap (λ (y : Expected). lines ks ++ (line_by y.machine y.effect ∷ [])) g in
      record {
        before = n;
        now = [];
        all = r.settled;
        leads = subst
            (λ (y : Model). Leads ch max record { machine = m; settled = [] } record { machine = y; settled = r.settled })
            (sym f) (settle-leads ch max m);
        rests = subst Rests (sym f) (settle-ends ch max m w h).0;
        few = h;
        count = omega arith;
        total = ap settled logged ∙ omega (arith, settled-items v r.settled (log ks), c);
        written = lined ∙ (λ j. e j ++ due (sym w j) (sym f j));
        effects = record {
          granted = (ap (λ (y : Expected). y.number) g, x.granted);
          handed = ap handed_out logged ∙ handed-append (items v r.settled) (log ks)
              ∙ (λ j. x.handed j ++ handed-line r.machine v r.settled j)
              ∙ sym (effects-append (lines ks) (line_by r.machine v ∷ [])) ∙ ap effects_in (sym lined);
        };
      }

  pub replying : (m : Model) (n : ℕ) (said : List Entry) (ks : List Call) (x : Effect) (a : Reply)
      → m.waiting ≡ Some x → Within m n said ks
      → Within (replied a (waiting_is None m)) n said (ReplyTo a ∷ ks)
  unfolding reply_of
  replying m n said ks x a e h =
      let quiet : Model = waiting_is None m in
      let t = waiting-through m n said ks x e h in
      calls (replied a quiet) n said ks (ReplyTo a)
      (ap (λ (y : Model). reply_of ch max y a) (sym t.machine) ∙ ap (reply_by ch max m a) e)
      (replied-quiet a quiet refl) (replied-few a quiet h.few) t.count
      (h.written ∙ ap (λ (w : Option Effect). said ++ due w (last ks)) e ∙ append-nil said) h.effects

  -- Between the E lines.
  pub beginning : (m : Model) (n : ℕ) (said : List Entry) (ks : List Call) (e : Event)
      → Idle m → Through m n ks → lines ks ≡ said → Effects ks
      → Within (enqueue e m) n said (Begin e ∷ ks)
  unfolding begin_of
  beginning m n said ks e i t l x =
      let q : m.queue ≡ [] = (idle-parts m i).1 in
      let one : Model = queue_is (e ∷ []) m in
      subst (λ (y : Model). Within y n said (Begin e ∷ ks)) (sym (enqueued m e q))
      (calls one n said ks (Begin e)
      (ap (λ (y : Model). begin_of ch max y e) (sym t.machine)
      ∙ (λ j. pick (done_by (i.0 j) (q j)) (answered (settle ch max one)) (refused 10 m)))
      i.0 (omega arith) t.count l x)
