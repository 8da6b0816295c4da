-- That a piece of work does what an outcome says.
use Rattle.std.specs.Prelude.{ℕ}
use Rattle.machine.specs.declared.Work.{Work}
use Rattle.machine.specs.View.{Core, Out, core_of, Ran}

-- f of what w was is what r is, for a chain of n components.
abbrev pub Does : ℕ → Work → (Core → Out) → Work → Type 0
Does n w f r = Ran n w (f (core_of n w)) r
