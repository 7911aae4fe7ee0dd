-- The loop keeps `CopyingRows`: the rows from i on are as they were, and their items and start steps are what is left to write.
use Rattle.settle.proofs.item_runs.Copying.{CopyingRows}
use Rattle.settle.proofs.item_runs.copy_items.Given as goal

abbrev pub invariant-loop-i : goal.invariant-loop-i
invariant-loop-i l = CopyingRows l.spec l.data l.n l.initial.out l.q l.at l.p l.out l.i l.to l.place
