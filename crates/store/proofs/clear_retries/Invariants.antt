-- After i turns the first i statuses have retry 0, and the others are as they were.
use Rattle.std.proofs.Common.{◌≡◌, ◌++◌, map, take, drop}
use Rattle.store.specs.Retry.{no_retry}
use Rattle.store.proofs.clear_retries.Given as goal

abbrev pub invariant-loop-status : goal.invariant-loop-status
invariant-loop-status l = l.statuses ≡ map no_retry (take l.status-index l.fn.statuses) ++ drop l.status-index l.fn.statuses
