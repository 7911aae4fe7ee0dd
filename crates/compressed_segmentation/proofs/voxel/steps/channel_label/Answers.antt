use Rattle.compressed_segmentation.proofs.voxel.Asked.{channel-cut, channel-at}
use Rattle.compressed_segmentation.proofs.voxel.steps.channel_label.Goals as goal

pub returns-then-words-c : goal.returns-then-words-c
returns-then-words-c c = search channel-cut

pub returns : goal.returns
returns c = search channel-at
