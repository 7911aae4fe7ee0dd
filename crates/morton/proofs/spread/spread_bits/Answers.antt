-- `morton::spread::spread_bits` meets its contract: one, two or three bytes.
use borrow.Author.Rules.{rules}
use Rattle.morton.proofs.spread.Bytes.{bytes_1, bytes_2, bytes_3, bytes_3_most, bytes_fit, third-fits, bits_most}
use Rattle.morton.proofs.spread.spread_bits.Goals as goal

ruleset spreading = (bytes_1, bytes_2, bytes_3, bytes_3_most, bytes_fit, third-fits, rules)

pub returns-then-n-le8 : goal.returns-then-n-le8
returns-then-n-le8 c = (search spreading, search (bits_most, spreading))

pub returns-then-n-le16 : goal.returns-then-n-le16
returns-then-n-le16 c = (search spreading, search (bits_most, spreading))

pub overflow_mul-result : goal.overflow_mul-result
overflow_mul-result c = search spreading

pub overflow_add-result : goal.overflow_add-result
overflow_add-result c = search spreading

pub returns : goal.returns
returns c = (search spreading, search spreading)
