-- What holds of a machine within a call and between two, with the log so far; every turn keeps it, and so every call.
use Rattle.std.specs.Prelude.{Option, None, Some}
use mathlib.Core.Path.{◌≡◌, refl, sym, subst, ap, ◌∙◌}
use mathlib.Core.Logic.{◌⊎◌, inl, inr, ⊎_elim}
use mathlib.Core.List.Memᴰ
use mathlib.Core.List.{List, [], ◌∷◌, ◌++◌, map, append_assoc}
use mathlib.Core.Bool.{Bool, true, false}
use Prim.Native.Nat.{ℕ, zero, suc, ◌+◌, ◌*◌, ◌≤◌}
use native.Mathlib.Omega.{arith}
use lib.ListN.{length, take, get_or, replicate, length-replicate}
use Rattle.model.specs.Vocabulary.{pick}
use Rattle.components.specs.Chain.{position, Sound}
use Rattle.model.specs.declared.Component.{Component}
use Rattle.model.specs.declared.State.TheVariants.{Locked}
use Rattle.model.specs.declared.Event.{Event}
use Rattle.model.specs.declared.Event.TheVariants.{EffectFailed}
use Rattle.model.specs.declared.Effect.{Effect}
use Rattle.model.proofs.Pick.{pick_p}
use Rattle.pending.specs.Queue.{has_room, emits}
use Rattle.machine.specs.Status.{fresh, iso}
use Rattle.machine.specs.View.{Core}
use Rattle.rot.specs.Step.{step_of}
use Rattle.rot.proofs.Weight.{weigh}
use Rattle.settling.specs.Settle.{Model, Run, waiting_is, queue_is, latch, fail, enqueue, hand_out, turn_by, turned, turns, settle, taken_by, noted, replied}
use Rattle.settling.specs.declared.Reply.{Reply}
use Rattle.settling.specs.declared.Reply.TheVariants.{Done, Then, Failed}
use Rattle.sm.specs.Calls.{Expected, answered, refused, done_by, begin_of, reply_by, reply_of, start_of}
use Rattle.history.specs.History.{Call, Begin, ReplyTo, expected, Item, Taken, given, handed_by, settled}
use Rattle.history.proofs.Statuses.{both, not-true, Off, sum, weight-sum, live, store}
use Rattle.history.proofs.Parts.{walking, Inv, Linked, Ok}
use Rattle.history.proofs.Rules.{step_ok}
use Rattle.history.proofs.Few.{Reached, step-reached, step-few, start-reached}
use Rattle.history.proofs.Logs.{under_check, handed, Kept, told, foretold, Reports, reports-taken, Through, through, kept_back, reports-back, counts-back}
use Rattle.history.proofs.Locks.{locked-step, failed-step, failed-ok}

-- ---- The invariant

-- The effects of the batch that are not told yet.
abbrev pub untold : Option Effect → List Effect → List Effect
untold None es = es
untold (Some x) es = x ∷ es

abbrev pub ahead : Model → List Item → List Item
ahead m l = foretold (untold m.waiting m.left) l

abbrev pub Plain : Option Effect → Type 0
Plain None = Unit {0}
Plain (Some x) = emits x ≡ None

-- A failure is about to lock the machine.
abbrev pub Doomed : Model → Type 0
Doomed m = (q : List Event) × (m.queue ≡ EffectFailed ∷ q) × (m.left ≡ []) × (m.waiting ≡ None)

-- In a walk the cursor's component is under check once the batch is out, and a failure has locked the machine; or one will.
abbrev pub Tied : List Component → Model → List Item → Type 0
Tied ch m l = (Linked ch m.core (under_check (ahead m l)) × (m.failed ≡ true → m.core.state ≡ Locked)) ⊎ Doomed m

pub record Sure (ch : List Component) (m : Model) (l : List Item) : Type 0 where
  pub inv : Inv ch m.core
  pub reached : Reached ch m.core.state
  pub plain : Plain m.waiting
  pub kept : Kept ch (ahead m l)
  pub reports : Reports ch m.core.statuses (ahead m l)
  pub total : handed (ahead m l) + store m.core.statuses ≤ 4 * settled (ahead m l) + 2 * length ch
  pub tied : Tied ch m l

abbrev mk : Core → Option Effect → List Effect → List Event → Bool → Model
mk c w b q f = record { core = c; waiting = w; left = b; queue = q; failed = f }

-- ---- One turn

module _ (n : ℕ) (ch : List Component) (s : Sound n ch) (max : ℕ) where
  -- The front event is taken.
  take-sure : (c : Core) (e : Event) (q : List Event) (f : Bool) (l : List Item) → Sure ch (mk c None [] (e ∷ q) f) l
      → Ok ch c.statuses e (under_check l) 4 (step_of ch max c e) → (f ≡ true → (step_of ch max c e).core.state ≡ Locked)
      → Sure ch (mk (step_of ch max c e).core None (step_of ch max c e).said q f) (Taken e ∷ l)
  take-sure c e q f l h o g =
      let all : Through ch (step_of ch max c e).core.statuses (step_of ch max c e).said (Taken e ∷ l) =
      through ch (step_of ch max c e).core.statuses o.inv.base e (step_of ch max c e).said (Taken e ∷ l)
      o.said refl h.kept (reports-taken ch (step_of ch max c e).core.statuses e l (λ j m. o.mono (position ch j) (h.reports j m)))
      (omega (arith, step-few ch max c e h.reached h.inv.base.sized)) (omega (arith, o.cost, h.total)) in
      record {
        inv = o.inv;
        reached = step-reached ch max c e h.reached;
        plain = tt;
        kept = all.kept;
        reports = all.reports;
        total = omega (arith, all.handed, all.settled, o.cost, h.total);
        tied = inl (λ u b. all.check ∙ o.link u b, g);
      }

  -- The batch is dropped.
  dropped : (m : Model) (l : List Item) (q : List Event) (f : Bool) → Sure ch m l → Tied ch (mk m.core None [] q f) l → Sure ch (mk m.core None [] q f) l
  dropped m l q f h t = record {
    inv = h.inv;
    reached = h.reached;
    plain = tt;
    kept = kept_back ch (untold m.waiting m.left) l h.kept;
    reports = reports-back ch m.core.statuses (untold m.waiting m.left) l h.reports;
    total = omega (arith, h.total, (counts-back (untold m.waiting m.left) l).0, (counts-back (untold m.waiting m.left) l).1);
    tied = t;
  }

  latch-sure : (c : Core) (b : List Effect) (q : List Event) (f : Bool) (l : List Item) → Sure ch (mk c None b q f) l → Sure ch (latch (mk c None b q f)) l
  latch-sure c b q f l h = dropped (mk c None b q f) l (EffectFailed ∷ take 7 q) true h (inr (take 7 q, refl, refl, refl))

  -- A failed reply.
  fail-sure : (c : Core) (b : List Effect) (q : List Event) (f : Bool) (l : List Item) → Sure ch (mk c None b q f) l → Sure ch (fail (mk c None b q f)) l
  fail-sure c b q f l h =
      pick_p (λ (m : Model). Sure ch m l) f
      (λ u.
      dropped (mk c None b q f) l q f h
      (⊎_elim
      (λ (t : Linked ch c (under_check (foretold b l)) × (f ≡ true → c.state ≡ Locked)). inl (λ v w. both (walking c.state) v (ap walking (t.1 u)), t.1))
      (λ (d : Doomed (mk c None b q f)). inr (d.0, d.1, refl, refl))
      h.tied))
      (λ u. latch-sure c b q f l h)

  queue-sure : (c : Core) (b : List Effect) (q : List Event) (f : Bool) (e : Event) (l : List Item) → Sure ch (mk c None b q f) l → Sure ch (mk c None b (q ++ (e ∷ [])) f) l
  queue-sure c b q f e l h = record {
    inv = h.inv;
    reached = h.reached;
    plain = tt;
    kept = h.kept;
    reports = h.reports;
    total = h.total;
    tied = ⊎_elim
        (λ (t : Linked ch c (under_check (foretold b l)) × (f ≡ true → c.state ≡ Locked)). inl t)
        (λ (d : Doomed (mk c None b q f)). inr (d.0 ++ (e ∷ []), ap (λ (r : List Event). r ++ (e ∷ [])) d.1, d.2, d.3))
        h.tied;
  }

  enqueue-sure : (c : Core) (b : List Effect) (q : List Event) (f : Bool) (e : Event) (l : List Item) → Sure ch (mk c None b q f) l → Sure ch (enqueue e (mk c None b q f)) l
  enqueue-sure c b q f e l h =
      pick_p (λ (m : Model). Sure ch m l) (has_room q)
      (λ t. queue-sure c b q f e l h)
      (λ t. pick_p (λ (m : Model). Sure ch m l) f (λ u. h) (λ u. latch-sure c b q f l h))

  -- The next effect of a batch: o is the event that it queues.
  not-doomed : {A : Type 0} (c : Core) (x : Effect) (b : List Effect) (q : List Event) (f : Bool) → Doomed (mk c None (x ∷ b) q f) → A
  not-doomed c x b q f d = let z : ◌≡◌ {A = ℕ} 0 1 = cc d.2 in absurd (omega arith)

  hand-sure : (c : Core) (x : Effect) (b : List Effect) (q : List Event) (f : Bool) (l : List Item) (o : Option Event) → emits x ≡ o → Sure ch (mk c None (x ∷ b) q f) l
      → Sure ch (hand_out x b (mk c None (x ∷ b) q f) o) l
  hand-sure c x b q f l None p h = record {
    inv = h.inv;
    reached = h.reached;
    plain = p;
    kept = h.kept;
    reports = h.reports;
    total = h.total;
    tied = ⊎_elim
        (λ (t : Linked ch c (under_check (foretold (x ∷ b) l)) × (f ≡ true → c.state ≡ Locked)). inl t)
        (λ (d : Doomed (mk c None (x ∷ b) q f)). not-doomed c x b q f d)
        h.tied;
  }
  hand-sure c x b q f l (Some e) p h =
      enqueue-sure c b q f e l
      record {
        inv = h.inv;
        reached = h.reached;
        plain = tt;
        kept = subst (λ (o : Option Event). Kept ch (foretold b (told o x l))) p h.kept;
        reports = subst (λ (o : Option Event). Reports ch c.statuses (foretold b (told o x l))) p h.reports;
        total = subst (λ (o : Option Event). handed (foretold b (told o x l)) + store c.statuses ≤ 4 * settled (foretold b (told o x l)) + 2 * length ch) p h.total;
        tied = ⊎_elim
            (λ (t : Linked ch c (under_check (foretold (x ∷ b) l)) × (f ≡ true → c.state ≡ Locked)). inl (λ u v. ap (λ (o : Option Event). under_check (foretold b (told o x l))) (sym p) ∙ t.0 u v, t.1))
            (λ (d : Doomed (mk c None (x ∷ b) q f)). not-doomed c x b q f d)
            h.tied;
      }

  front : (e : Event) (q r : List Event) → e ∷ q ≡ EffectFailed ∷ r → e ≡ EffectFailed
  front e q r p = cc

  no_front {ℓ} : {A : Type ℓ} (r : List Event) → [] ≡ EffectFailed ∷ r → A
  no_front r p = let z : ◌≡◌ {A = ℕ} 0 1 = cc in absurd (omega arith)

  -- The dispatch has ended, and its failure with it; or it begins.
  calm : (c : Core) (b : List Effect) (f g : Bool) (q : List Event) (l : List Item) → (g ≡ true → f ≡ true) → Sure ch (mk c None b [] f) l → Sure ch (mk c None b q g) l
  calm c b f g q l k h = record {
    inv = h.inv;
    reached = h.reached;
    plain = tt;
    kept = h.kept;
    reports = h.reports;
    total = h.total;
    tied = ⊎_elim
        (λ (t : Linked ch c (under_check (foretold b l)) × (f ≡ true → c.state ≡ Locked)). inl (t.0, λ u. t.1 (k u)))
        (λ (d : Doomed (mk c None b [] f)). no_front d.0 d.1)
        h.tied;
  }

  -- ---- Turns

  module _ (past : List Item) where
    abbrev Going : Model → List Event → Type 0
    Going m es = Sure ch m (map Taken es ++ past)

    turn-sure : (c : Core) (w : Option Effect) (b : List Effect) (q : List Event) (f : Bool) (es : List Event) → Going (mk c w b q f) es
        → Going (turn_by ch max (mk c w b q f) w b q) (noted (taken_by w b q) es)
    turn-sure c (Some x) b q f es h = h
    turn-sure c None (x ∷ b) q f es h = hand-sure c x b q f (map Taken es ++ past) (emits x) refl h
    turn-sure c None [] (e ∷ q) f es h =
        let l : List Item = map Taken es ++ past in
        ⊎_elim
        (λ (t : Linked ch c (under_check l) × (f ≡ true → c.state ≡ Locked)). take-sure c e q f l h (step_ok n ch s (under_check l) c h.inv t.0 max e) (λ g. locked-step ch max c e (t.1 g)))
        (λ (d : Doomed (mk c None [] (e ∷ q) f)).
        take-sure c e q f l h
        (subst (λ (k : Event). Ok ch c.statuses k (under_check l) 4 (step_of ch max c k)) (sym (front e q d.0 d.1)) (failed-ok n ch s max c (under_check l) h.inv))
        (λ g. subst (λ (k : Event). (step_of ch max c k).core.state ≡ Locked) (sym (front e q d.0 d.1)) (failed-step ch max c)))
        h.tied
    turn-sure c None [] [] f es h = calm c [] f false [] (map Taken es ++ past) (λ u. not-true u) h

    turns-sure : (k : ℕ) (r : Run) → Going r.machine r.settled → Going (turns ch max k r).machine (turns ch max k r).settled
    unfolding turns
    turns-sure zero r h = h
    turns-sure (suc k) r h =
        turns-sure k (turned ch max r)
        (turn-sure r.machine.core r.machine.waiting r.machine.left r.machine.queue r.machine.failed r.settled h)

    settle-sure : (m : Model) → Sure ch m past → Going (settle ch max m).machine (settle ch max m).settled
    unfolding settle
    settle-sure m h = turns-sure _ record { machine = m; settled = [] } h

  -- ---- Calls

  -- Between two calls: the effect that waits has been told.
  abbrev pub Rested : Model → List Item → Type 0
  Rested m l = Sure ch (waiting_is None m) l

  -- What a call adds to the log.
  abbrev pub adds : Expected → List Item
  adds x = handed_by record { number = x.number; effect = x.effect } ++ map Taken x.settled

  rest-sure : (c : Core) (w : Option Effect) (b : List Effect) (q : List Event) (f : Bool) (l : List Item) → Sure ch (mk c w b q f) l → Rested (mk c w b q f) (given w ++ l)
  rest-sure c None b q f l h = h
  rest-sure c (Some x) b q f l h = record {
    inv = h.inv;
    reached = h.reached;
    plain = tt;
    kept = subst (λ (o : Option Event). Kept ch (foretold b (told o x l))) h.plain h.kept;
    reports = subst (λ (o : Option Event). Reports ch c.statuses (foretold b (told o x l))) h.plain h.reports;
    total = subst (λ (o : Option Event). handed (foretold b (told o x l)) + store c.statuses ≤ 4 * settled (foretold b (told o x l)) + 2 * length ch) h.plain h.total;
    tied = ⊎_elim
        (λ (t : Linked ch c (under_check (foretold (x ∷ b) l)) × (f ≡ true → c.state ≡ Locked)). inl (λ u v. ap (λ (o : Option Event). under_check (foretold b (told o x l))) (sym h.plain) ∙ t.0 u v, t.1))
        (λ (d : Doomed (mk c (Some x) b q f)). let z : ◌≡◌ {A = ℕ} 0 1 = cc d.3 in absurd (omega arith))
        h.tied;
  }

  answered-rested : (r : Run) (l : List Item) → Sure ch r.machine (map Taken r.settled ++ l) → Rested (answered r).machine (adds (answered r) ++ l)
  answered-rested r l h =
      subst (Rested r.machine) (sym (append_assoc (given r.machine.waiting) (map Taken r.settled) l))
      (rest-sure r.machine.core r.machine.waiting r.machine.left r.machine.queue r.machine.failed (map Taken r.settled ++ l) h)

  abbrev Leaves : List Item → Expected → Type 0
  Leaves l x = Rested x.machine (adds x ++ l)

  begun : (c : Core) (w : Option Effect) (b : List Effect) (q : List Event) (f : Bool) (e : Event) (l : List Item) → Rested (mk c w b q f) l
      → Leaves l (pick (done_by w q) (answered (settle ch max (queue_is (e ∷ []) (mk c w b q f)))) (refused 10 (mk c w b q f)))
  begun c (Some x) b q f e l h = h
  begun c None b (g ∷ q) f e l h = h
  begun c None b [] f e l h =
      answered-rested (settle ch max (mk c None b (e ∷ []) f)) l
      (settle-sure l (mk c None b (e ∷ []) f) (calm c b f f (e ∷ []) l (λ u. u) h))

  replied-sure : (a : Reply) (c : Core) (b : List Effect) (q : List Event) (f : Bool) (l : List Item) → Sure ch (mk c None b q f) l → Sure ch (replied a (mk c None b q f)) l
  replied-sure Done c b q f l h = h
  replied-sure (Then e) c b q f l h = enqueue-sure c b q f e l h
  replied-sure Failed c b q f l h = fail-sure c b q f l h

  answers : (c : Core) (w : Option Effect) (b : List Effect) (q : List Event) (f : Bool) (a : Reply) (l : List Item) → Rested (mk c w b q f) l
      → Leaves l (reply_by ch max (mk c w b q f) a w)
  answers c None b q f a l h = h
  answers c (Some x) b q f a l h =
      answered-rested (settle ch max (replied a (mk c None b q f))) l (settle-sure l (replied a (mk c None b q f)) (replied-sure a c b q f l h))

  pub call-rested : (m : Model) (k : Call) (l : List Item) → Rested m l → Rested (expected ch max m k).machine (adds (expected ch max m k) ++ l)
  unfolding begin_of reply_of
  call-rested m (Begin e) l h = begun m.core m.waiting m.left m.queue m.failed e l h
  call-rested m (ReplyTo a) l h = answers m.core m.waiting m.left m.queue m.failed a l h

  -- ---- The machine that new gives

  fresh_at : (k q : ℕ) → get_or (replicate k fresh) q fresh ≡ fresh
  fresh_at zero q = refl
  fresh_at (suc k) zero = refl
  fresh_at (suc k) (suc q) = fresh_at k q

  fresh-weight : (k : ℕ) → sum weigh (replicate k fresh) ≡ 2 * k
  fresh-weight zero = refl
  fresh-weight (suc k) = omega (arith, fresh-weight k)

  fresh-live : (k : ℕ) → live (replicate k fresh) ≡ 0
  fresh-live zero = refl
  fresh-live (suc k) = omega (arith, fresh-live k)

  pub start-rested : Rested (start_of ch) []
  unfolding start_of
  start-rested = record {
    inv = record {
      base = record {
        sized = length-replicate (length ch) fresh;
        off = λ q. subst Off (sym (fresh_at (length ch) q)) (λ u. not-true u);
        closed = λ i j o pol u. not-true (ap iso (sym (fresh_at (length ch) (position ch j))) ∙ u);
      };
      free = λ u. not-true u;
    };
    reached = start-reached ch;
    plain = tt;
    kept = tt;
    reports = λ j m. absurd (Memᴰ.not-nil m);
    total = omega (arith, weight-sum (replicate (length ch) fresh), fresh-weight (length ch), fresh-live (length ch));
    tied = inl (λ u v. not-true u, λ u. not-true u);
  }

  -- The log of what was handed out is kept.
  pub rested-kept : (m : Model) (l : List Item) → Rested m l → Kept ch l
  rested-kept m l h = kept_back ch m.left l h.kept
