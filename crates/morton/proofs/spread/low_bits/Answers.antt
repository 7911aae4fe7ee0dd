-- `morton::spread::low_bits` meets its contract.
use native.Mathlib.Omega.{arith}
use lib.Bits.{and_mask, mask_lt}
use lib.Pow.{pow_pos}
use Rattle.morton.proofs.spread.Bytes.{ones}
use Rattle.morton.proofs.spread.low_bits.Goals as goal

pub overflow_sub-result : goal.overflow_sub-result
overflow_sub-result c = omega (arith, ones c.args.n (omega arith), pow_pos c.args.n)

pub returns : goal.returns
returns c = rw (ones c.args.n (omega arith)) (and_mask c.args.v c.args.n, mask_lt c.args.v c.args.n)
