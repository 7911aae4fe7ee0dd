-- The loop keeps `Sifted`: no entry passed repeats an id, and their ids are noted.
use Rattle.std.proofs.Common.{◌≡◌, ◌%◌, ◌^◌, ◌≤◌, length}
use Rattle.endian.specs.Little.{row_at}
use Rattle.endian.specs.Range.{sum_to}
use Rattle.duplicate_ids.specs.ids.Ids.{id_at}
use Rattle.duplicate_ids.specs.filter.Filter.{Sifted}
use Rattle.duplicate_ids.proofs.filter.sift.Given as goal

abbrev pub invariant-loop-i : goal.invariant-loop-i
invariant-loop-i l =
    (l.id ≡ sum_to (row_at l.data l.p) l.i % 2 ^ 64) × (l.vain ≤ l.i) × (length l.words ≡ 32768) × Sifted (id_at (row_at l.data l.p)) l.i l.words
