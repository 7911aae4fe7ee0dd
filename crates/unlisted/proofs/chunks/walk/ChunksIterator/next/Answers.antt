use Rattle.unlisted.proofs.chunks.Steps.{chunks_none, chunks_more}
use Rattle.unlisted.proofs.chunks.walk.ChunksIterator.next.Goals as goal

pub returns-then-self-eq0-clause-steps : goal.returns-then-self-eq0-clause-steps
returns-then-self-eq0-clause-steps c = let z = chunks_none _ _ _ _ c.if-self-eq0.true in (z, z)

pub returns-clause-steps : goal.returns-clause-steps
returns-clause-steps c = chunks_more _ _ _ _ _ c.if-self-eq0.false c.read_u64.ensures.0 c.read_u64-size.ensures.0
