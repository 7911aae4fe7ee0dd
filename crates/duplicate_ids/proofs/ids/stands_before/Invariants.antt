-- The loop passes no entry with the id.
use Rattle.std.proofs.Common.{◌≡◌, ◌%◌, ◌^◌, false, eqb}
use Rattle.endian.specs.Little.{row_at}
use Rattle.endian.specs.Range.{sum_to, any_below}
use Rattle.duplicate_ids.specs.ids.Ids.{id_at}
use Rattle.duplicate_ids.proofs.ids.stands_before.Given as goal

abbrev pub invariant-loop-j : goal.invariant-loop-j
invariant-loop-j l =
    (l.id ≡ sum_to (row_at l.data l.p) l.j % 2 ^ 64) × (any_below l.j (λ k. eqb (id_at (row_at l.data l.p) k) l.x) ≡ false)
