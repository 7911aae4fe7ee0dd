use Rattle.bitmap.proofs.visited.Noted.{blank_zeros}
use Rattle.compressed_segmentation.proofs.readable.Judged.{judged_0, judged_28, judged_29}
use Rattle.compressed_segmentation.proofs.readable.inner.judge.Goals as goal

pub refusal_with-number-requires : goal.refusal_with-number-requires
refusal_with-number-requires c = blank_zeros 4096

pub returns-then-number-eq0 : goal.returns-then-number-eq0
returns-then-number-eq0 c = judged_0 _ _ c.refusal_with-number.ensures c.if-number-eq0.true

pub returns-then-number-eq28 : goal.returns-then-number-eq28
returns-then-number-eq28 c = judged_28 _ _ c.refusal_with-number.ensures c.if-number-eq28.true

pub returns : goal.returns
returns c = judged_29 _ _ c.refusal_with-number.ensures c.if-number-eq0.false c.if-number-eq28.false
