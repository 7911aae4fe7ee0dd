use Rattle.std.proofs.Common.{rules}
use Rattle.info.proofs.numbers.Numbering.{digit_sub, digit_small}
use Rattle.info.proofs.numbers.digit.Goals as goal

pub overflow_sub-b : goal.overflow_sub-b
overflow_sub-b c = search digit_sub

pub returns : goal.returns
returns c = search (digit_small, rules)
