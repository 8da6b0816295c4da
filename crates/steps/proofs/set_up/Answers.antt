-- `set_up` makes a machine: the chain is that of another one, what is kept fits it, and nothing is in the sink or queued. So it rests.
use Rattle.std.proofs.Common.{◌≡◌, ℕ, arith, ap, subst, sym, refl, length, drop}
use Rattle.store.specs.declared.Sink.{Sink}
use Rattle.store.specs.Sink.{empty_sink, held}
use Rattle.pending.specs.Queue.{events}
use Rattle.settling.specs.declared.Dispatch.{Dispatch}
use Rattle.settling.specs.Parts.{idle}
use Rattle.settling.specs.View.{view, RestsBy}
use Rattle.machine.specs.View.{Fit}
use Rattle.steps.proofs.set_up.Goals as goal

-- With nothing in the sink and nothing kept of a dispatch, a machine rests.
rests : (k : Sink) (d : Dispatch) → k ≡ empty_sink → d ≡ idle → RestsBy d.waiting (drop d.next (held k)) (events d.pending) d.failed
unfolding held events
rests k d ek ed =
    subst (λ (x : Sink). RestsBy d.waiting (drop d.next (held x)) (events d.pending) d.failed) (sym ek)
    (subst (λ (y : Dispatch). RestsBy y.waiting (drop y.next (held empty_sink)) (events y.pending) y.failed) (sym ed) (refl, refl, refl))

pub invariant_of-result : goal.invariant_of-result
unfolding events
invariant_of-result c =
    let none = ap (λ (s : Sink). s.effects.len) c.new.ensures in
    let empty = ap (λ (d : Dispatch). length (events d.pending)) c.new-2.ensures in
    record {
      accepted = c.args.m.accepted;
      fit = subst (λ (n : ℕ). Fit n c.machine_of-rot.result) c.args.m.chain.counted c.machine_of-rot.ensures;
      room = omega (arith, none);
      few = omega (arith, empty);
    }

pub returns : goal.returns
unfolding view
returns c = rests c.new.result c.new-2.result c.new.ensures c.new-2.ensures
