-- Three stores are one write.
use Rattle.std.proofs.Common.{arith, length-set}
use Rattle.lookup.proofs.entries.Entries.{stored-three}
use Rattle.lookup.proofs.entries.put_entry.Goals as goal

pub bounds-out-i-2 : goal.bounds-out-i-2
bounds-out-i-2 c = simp length-set (omega arith)

pub bounds-out-i-3 : goal.bounds-out-i-3
bounds-out-i-3 c = simp length-set (omega arith)

pub returns : goal.returns
returns c = search stored-three
