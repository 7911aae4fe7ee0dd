use Rattle.bitmap.proofs.Words.{shifted_one, low-all, low-some}
use Rattle.bitmap.proofs.low_bits.Goals as goal

pub returns-then-x-eq64 : goal.returns-then-x-eq64
returns-then-x-eq64 c = search low-all

pub overflow_sub-result : goal.overflow_sub-result
overflow_sub-result c = search shifted_one

pub returns : goal.returns
returns c = search low-some
