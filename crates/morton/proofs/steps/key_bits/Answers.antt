-- `morton::steps::key_bits` meets its contract.
use Rattle.morton.proofs.Lengths.{key-bits-sum}
use Rattle.morton.proofs.steps.key_bits.Goals as goal

pub returns : goal.returns
returns c = search key-bits-sum
