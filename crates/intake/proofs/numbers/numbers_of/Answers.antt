use borrow.Author.Rules.{rules}
use Rattle.intake.specs.numbers.Numbers.{numbers_of}
use Rattle.intake.proofs.numbers.numbers_of.Goals as goal

pub returns : goal.returns
unfolding numbers_of
returns c = search rules
