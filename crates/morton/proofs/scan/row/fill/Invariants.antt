-- The keys of the cells from x on are left to write.
use Rattle.std.proofs.Common.{◌≡◌, ◌-◌, map}
use Rattle.endian.specs.Place.{paste}
use Rattle.morton.specs.Key.{key_of}
use Rattle.morton.specs.plan.Parts.{rest_key}
use Rattle.morton.specs.rows.Row.{cells_from}
use Rattle.morton.proofs.scan.row.fill.Given as goal

abbrev pub invariant-loop-x : goal.invariant-loop-x
invariant-loop-x l = record {
  rest : l.rest ≡ rest_key l.plan.low l.plan.grid (record { x = l.x; y = l.y; z = l.z });
  left : paste (l.x - l.from) (map (key_of l.plan.grid) (cells_from (l.to - l.x) l.x l.y l.z)) l.keys ≡ paste 0 (map (key_of l.plan.grid) (cells_from (l.to - l.from) l.from l.y l.z)) l.initial.keys;
}
