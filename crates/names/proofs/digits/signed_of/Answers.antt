use borrow.Author.Rules.{rules}
use Rattle.names.proofs.digits.Signing.{signed_is}
use Rattle.names.proofs.digits.signed_of.Goals as goal

pub returns : goal.returns
returns c = signed_is c.args.z (search rules) c.is_negative.ensures c.unsigned_abs.ensures.value
