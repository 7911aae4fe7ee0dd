-- `morton::steps::too_many_bits` meets its contract.
use Rattle.morton.specs.Key.{too_many_bits}
use Rattle.morton.proofs.steps.too_many_bits.Goals as goal

pub returns : goal.returns
unfolding too_many_bits
returns c = rw c.key_bits.ensures
