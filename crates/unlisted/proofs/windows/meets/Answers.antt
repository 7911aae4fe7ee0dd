use Rattle.std.proofs.Common.{arith}
use Rattle.unlisted.proofs.windows.Noting.{meets-told}
use Rattle.unlisted.proofs.windows.meets.Goals as goal

pub returns : goal.returns
returns c = let r = c.requires in meets-told _ _ _ _ r.0 r.1 r.2 (omega arith) (omega arith)
