use Rattle.compressed_segmentation.proofs.readable.Offsets.{headers_cut, headers_whole}
use Rattle.compressed_segmentation.proofs.readable.headers.headers_refusal.Goals as goal

pub returns-then-whole-channels-clause-value : goal.returns-then-whole-channels-clause-value
returns-then-whole-channels-clause-value c = search headers_cut

pub returns-clause-value : goal.returns-clause-value
returns-clause-value c = search headers_whole
