-- `first` meets its contract: the part up to the first tab.
use Rattle.std.proofs.Common.{sym}
use Rattle.std.proofs.Math.Seq.{length-take-le}
use Rattle.fields.specs.Fields.{before}
use Rattle.fields.proofs.Scan.{place-bound}
use Rattle.fields.proofs.first.Goals as goal

pub slice_bounds-result-end : goal.slice_bounds-result-end
slice_bounds-result-end c = sym (length-take-le _ _ (place-bound _ _ _ c.place.ensures))

pub returns : goal.returns
unfolding before
returns c = rw c.place.ensures
