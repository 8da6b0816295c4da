-- One piece of work after another: outcomes follow each other, and a loop leads to its outcome turn by turn.
use mathlib.Core.Path.{◌≡◌, refl, sym, ap, ◌∙◌, subst}
use mathlib.Core.Bool.{Bool}
use mathlib.Core.List.{[], ◌∷◌, ◌++◌}
use Prim.Native.Nat.{ℕ}
use Rattle.model.specs.declared.State.{State}
use Rattle.model.specs.declared.Effect.{Effect}
use Rattle.store.specs.declared.Sink.{Sink}
use Rattle.store.specs.Sink.{with_effect}
use Rattle.machine.specs.declared.Rot.{Rot}
use Rattle.machine.specs.declared.Work.{Work}
use Rattle.machine.specs.View.{Core, Out, out, stay, after, in_state, window_is, core_of, statuses_of, says, Fit, Sized, Ran, state_is, sink_is}
use Rattle.machine.proofs.Says.{says-append}

-- A machine at work in which what is kept changes, or the window alone.
abbrev pub rot_is : Rot → Work → Work
rot_is r w = record { state = w.state; rot = r; sink = w.sink }

abbrev pub open_is : Bool → Work → Work
open_is b w = rot_is (record { statuses = w.rot.statuses; isolated = w.rot.isolated; cursor = w.rot.cursor; pending_commit = b }) w

-- Nothing done.
pub ran-none : {n : ℕ} {w : Work} → Ran n w (stay (core_of n w)) w
unfolding says
ran-none = record { core = refl; sink = refl; fit = λ fit. fit; sized = λ sized. sized }

-- The same machine by another name.
pub ran-is : {n : ℕ} {w v r : Work} {o : Out} → r ≡ v → Ran n w o v → Ran n w o r
ran-is {n} {w} {v} {r} {o} e a = subst (λ (x : Work). Ran n w o x) (sym e) a

-- The same outcome, said otherwise.
pub ran-as : {n : ℕ} {w r : Work} {o q : Out} → o ≡ q → Ran n w o r → Ran n w q r
ran-as {n} {w} {r} e a = subst (λ (x : Out). Ran n w x r) e a

-- What is kept changes, and no effect is handed out.
pub ran-rot : {n : ℕ} {w r : Work} {rot : Rot} {k : Core} → r ≡ rot_is rot w → core_of n (rot_is rot w) ≡ k → (Fit n w.rot → Fit n rot)
    → (Sized w.rot → Sized rot) → Ran n w (stay k) r
unfolding says
ran-rot {n} {w} {r} {rot} {k} q e keep places = subst (λ (x : Work). Ran n w (stay k) x) (sym q) (record { core = e; sink = refl; fit = keep; sized = places })

-- The effects of o, and then those of f of what came of it.
then-says : {n : ℕ} {w v : Work} {o : Out} (f : Core → Out) → Ran n w o v → says v.sink (f (core_of n v)).said ≡ says w.sink (o.said ++ (f o.core).said)
then-says {n} {w} {v} {o} f a =
    ap (λ (s : Sink). says s (f (core_of n v)).said) a.sink
    ∙ ap (λ (c : Core). says (says w.sink o.said) (f c).said) a.core ∙ sym (says-append w.sink o.said (f o.core).said)

-- First o, and then f of what came of it.
pub ran_then : {n : ℕ} {w v r : Work} {o : Out} (f : Core → Out) → Ran n w o v → Ran n v (f (core_of n v)) r → Ran n w (after o.said (f o.core)) r
ran_then f a b = record {
  core = b.core ∙ ap (λ (c : Core). (f c).core) a.core;
  sink = b.sink ∙ then-says f a;
  fit = λ fit. b.fit (a.fit fit);
  sized = λ sized. b.sized (a.sized sized);
}

-- The same where the first part says nothing,
pub ran-still : {n : ℕ} {w v r : Work} {k : Core} (f : Core → Out) → Ran n w (stay k) v → Ran n v (f (core_of n v)) r → Ran n w (f k) r
ran-still f a b = ran_then f a b

-- and where the second is one effect, which the code puts into the sink in place or by a call,
pub ran-emit : {n : ℕ} {w v : Work} {o : Out} {s : Sink} (e : Effect) → Ran n w o v → s ≡ with_effect v.sink e → Ran n w (out o.core (o.said ++ (e ∷ []))) (sink_is s v)
unfolding says
ran-emit e a q = ran_then (λ (c : Core). out c (e ∷ [])) a (record { core = refl; sink = q; fit = λ fit. fit; sized = λ sized. sized })

-- a new state, or the window.
pub ran-state : {n : ℕ} {w v r : Work} {o : Out} (s : State) → Ran n w o v → r ≡ state_is s v → Ran n w (out (in_state s o.core) o.said) r
ran-state {n} {w} {v} {r} {o} s a q =
    subst (λ (x : Work). Ran n w (out (in_state s o.core) o.said) x) (sym q)
    (record { core = ap (in_state s) a.core; sink = a.sink; fit = a.fit; sized = a.sized })

pub ran-window : {n : ℕ} {w v r : Work} {o : Out} (b : Bool) → Ran n w o v → r ≡ open_is b v → Ran n w (out (window_is b o.core) o.said) r
unfolding statuses_of
ran-window {n} {w} {v} {r} {o} b a q =
    subst (λ (x : Work). Ran n w (out (window_is b o.core) o.said) x) (sym q)
    (record { core = ap (window_is b) a.core; sink = a.sink; fit = λ fit. record { clean = (a.fit fit).clean; low = (a.fit fit).low }; sized = λ sized. record { statuses = (a.sized sized).statuses; words = (a.sized sized).words } })

-- ---- loops

-- What is left to do of v, which is f, makes of it what o is for a start from w.
pub record Leads (n : ℕ) (w : Work) (o : Out) (v : Work) (f : Core → Out) : Type 0 where
  pub core : (f (core_of n v)).core ≡ o.core
  pub sink : says v.sink (f (core_of n v)).said ≡ says w.sink o.said
  pub fit : Fit n w.rot → Fit n v.rot
  pub sized : Sized w.rot → Sized v.rot

pub leads-first : {n : ℕ} {w : Work} (f : Core → Out) → Leads n w (f (core_of n w)) w f
leads-first f = record { core = refl; sink = refl; fit = λ fit. fit; sized = λ sized. sized }

-- One turn, which is g.
pub leads-next : {n : ℕ} {w : Work} {o : Out} {v r : Work} {f : Core → Out} (g h : Core → Out) → Ran n v (g (core_of n v)) r
    → f (core_of n v) ≡ after (g (core_of n v)).said (h (g (core_of n v)).core) → Leads n w o v f → Leads n w o r h
leads-next {n} {w} {o} {v} {r} {f} g h a e t = record {
  core = ap (λ (c : Core). (h c).core) a.core ∙ sym (ap (λ (x : Out). x.core) e) ∙ t.core;
  sink = then-says h a ∙ sym (ap (λ (x : Out). says v.sink x.said) e) ∙ t.sink;
  fit = λ fit. a.fit (t.fit fit);
  sized = λ sized. a.sized (t.sized sized);
}

-- Nothing is left.
pub leads-last : {n : ℕ} {w v : Work} {o : Out} {f : Core → Out} → Leads n w o v f → f (core_of n v) ≡ stay (core_of n v) → Ran n w o v
unfolding says
leads-last {n} {w} {v} {o} {f} t e = record {
  core = sym (ap (λ (x : Out). x.core) e) ∙ t.core;
  sink = sym (ap (λ (x : Out). says v.sink x.said) e) ∙ t.sink;
  fit = t.fit;
  sized = t.sized;
}
