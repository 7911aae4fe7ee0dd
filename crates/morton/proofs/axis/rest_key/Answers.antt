-- `morton::axis::rest_key` meets its contract.
use Rattle.morton.specs.axis.Axis.{rest}
use borrow.Author.Rules.{rules}
use Rattle.morton.proofs.axis.rest_key.Goals as goal

pub uses-requires : goal.uses-requires
uses-requires c = search rules

pub returns-then-uses : goal.returns-then-uses
unfolding rest
returns-then-uses c = rw (← c.uses.ensures, c.if-uses.true)

pub returns-else-uses : goal.returns-else-uses
unfolding rest
returns-else-uses c = rw (← c.uses.ensures, c.if-uses.false)
