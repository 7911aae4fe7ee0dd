use mathlib.Core.Path.{refl}
use Rattle.bitmap.proofs.visited.Noted.{sees_same, seen_bit}
use Rattle.compressed_segmentation.proofs.readable.Offsets.{walked_start, walked_known, walked_29, walked_on}
use Rattle.compressed_segmentation.proofs.block.Visited.{visiting_start, visiting_on}
use Rattle.compressed_segmentation.proofs.readable.headers.headers_of.Goals as goal

pub loop-c-init : goal.loop-c-init
loop-c-init c = (refl, search walked_start, search visiting_start)

pub with_channel-worst-requires-clause-count_bound : goal.with_channel-worst-requires-clause-count_bound
with_channel-worst-requires-clause-count_bound c = λ e. let k = seen_bit c.is_seen-known.ensures e in search walked_known

pub returns-then-worst-eq29-clause-value : goal.returns-then-worst-eq29-clause-value
returns-then-worst-eq29-clause-value c = search walked_29

pub loop-c-preserved : goal.loop-c-preserved
loop-c-preserved c = (search sees_same, search walked_on, search visiting_on)
