use borrow.Author.Rules.{rules}
use Rattle.names.proofs.digits.Signing.{decimal-put}
use Rattle.names.proofs.digits.put_decimal.Goals as goal

pub decimal_len-n-requires : goal.decimal_len-n-requires
decimal_len-n-requires c = search (decimal-put, rules)

pub put_digits-requires : goal.put_digits-requires
put_digits-requires c = search (decimal-put, rules)

pub overflow_add-result : goal.overflow_add-result
overflow_add-result c = search (decimal-put, rules)

pub shape_of-out : goal.shape_of-out
shape_of-out c = search (decimal-put, rules)

pub returns : goal.returns
returns c = search (decimal-put, rules)
