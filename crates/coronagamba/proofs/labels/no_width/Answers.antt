use borrow.Author.Tests.{eq-eqb, ne_eqb}
use Rattle.coronagamba.proofs.labels.no_width.Goals as goal

pub returns-then-bits-eq32 : goal.returns-then-bits-eq32
returns-then-bits-eq32 c = rw (eq-eqb _ _ c.if-bits-eq32.true)

pub returns : goal.returns
returns c = rw (ne_eqb _ _ c.if-bits-eq32.false)
