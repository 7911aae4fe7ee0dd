use Rattle.split_shard.proofs.held_range.Held.{holding}
use Rattle.split_shard.proofs.held_range.inner.held.Goals as goal

pub returns-then-end-start : goal.returns-then-end-start
returns-then-end-start c = search holding

pub returns-then-n-end : goal.returns-then-n-end
returns-then-n-end c = search holding

pub returns-then-seam-end : goal.returns-then-seam-end
returns-then-seam-end c = search holding

pub returns-then-start-seam : goal.returns-then-start-seam
returns-then-start-seam c = search holding

pub returns : goal.returns
returns c = search holding
