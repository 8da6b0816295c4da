-- `finish` keeps the machine valid from reply to reply.
use Rattle.settling.specs.View.{Valid}
use Rattle.blade.proofs.finish.Given as goal

abbrev pub invariant-loop : goal.invariant-loop
invariant-loop l = Valid l.fn.m → Valid l.v
