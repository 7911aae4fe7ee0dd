-- The loop keeps `Rising`.
use Rattle.endian.specs.Little.{row_at}
use Rattle.duplicate_ids.proofs.ids.Rises.{Rising}
use Rattle.duplicate_ids.proofs.ids.rising.Given as goal

abbrev pub invariant-loop-i : goal.invariant-loop-i
invariant-loop-i l = Rising (row_at l.data l.p) l.n l.i l.id
