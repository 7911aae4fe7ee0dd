-- The length is told.
use Rattle.lookup.proofs.ranges.WaysOut.{length-told}
use Rattle.lookup.proofs.ranges.inner.other_length.Goals as goal

pub returns : goal.returns
returns c = search length-told
