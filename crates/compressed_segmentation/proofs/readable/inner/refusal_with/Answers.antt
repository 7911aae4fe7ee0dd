use Rattle.compressed_segmentation.proofs.readable.Verdict.{verdict_headers, verdict_blocks}
use Rattle.compressed_segmentation.proofs.readable.inner.refusal_with.Goals as goal

pub returns-then-k-gt0 : goal.returns-then-k-gt0
returns-then-k-gt0 c = search verdict_headers

pub returns : goal.returns
returns c = search verdict_blocks
