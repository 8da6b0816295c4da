-- A turn clears the status at its index.
use Rattle.std.proofs.Common.{arith}
use Rattle.std.proofs.lemmas.List.{get_or_default}
use Rattle.std.proofs.lemmas.List.Edits.{map_over_more}
use Rattle.store.specs.Retry.{no_retry}
use Rattle.store.proofs.clear_retries.Goals as goal

pub loop-status-preserved : goal.loop-status-preserved
loop-status-preserved c = grind (arith, map_over_more no_retry, get_or_default)
