use Rattle.compressed_segmentation.proofs.block.Sure.{not-reached}
use Rattle.compressed_segmentation.proofs.block.is_reached.Goals as goal

pub returns-clause-refused_28 : goal.returns-clause-refused_28
returns-clause-refused_28 c = λ e. search not-reached
