-- `keep` meets its contract: what is stored, then the window, then the state.
use Rattle.std.proofs.Common.{refl}
use Rattle.store.specs.declared.Status.{Status}
use Rattle.rules.specs.Performed.{stored}
use Rattle.machine.proofs.Stored.{ran-change}
use Rattle.machine.proofs.Runs.{ran-state, ran-window}
use Rattle.rot.proofs.keep.Goals as goal

pub returns : goal.returns
returns c =
    λ n few here.
    let k = c.args.k in
    ran-state k.state
    (ran-window k.window
    (ran-change n c.args.w.now c.args.place c.requires.1 few here (stored k.status) (λ (s : Status). k.status) (λ b s. refl) refl)
    refl)
    refl
