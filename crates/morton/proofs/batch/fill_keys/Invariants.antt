-- The keys of the cells from i on are left to write.
use Rattle.std.proofs.Common.{◌≡◌, map, drop}
use Rattle.endian.specs.Place.{paste}
use Rattle.morton.specs.Key.{key_of}
use Rattle.morton.specs.batch.Batch.{cells_of}
use Rattle.morton.proofs.batch.fill_keys.Given as goal

abbrev pub invariant-loop-i : goal.invariant-loop-i
invariant-loop-i l =
    paste l.i (map (key_of l.grid) (drop l.i (cells_of l.cells))) l.keys ≡ paste 0 (map (key_of l.grid) (cells_of l.cells)) l.initial.keys
