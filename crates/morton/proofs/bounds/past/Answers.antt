-- `morton::bounds::past` meets its contract.
use Rattle.morton.proofs.bounds.Signed.{widened, wide_sum-fits, wide_sum-is}
use Rattle.morton.proofs.bounds.past.Goals as goal

pub overflow_cast-result : goal.overflow_cast-result
overflow_cast-result c = search widened

pub overflow_add-result : goal.overflow_add-result
overflow_add-result c = search wide_sum-fits

pub returns : goal.returns
returns c = search wide_sum-is
