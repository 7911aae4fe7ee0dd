-- Keys written by a plan are those of its grid.
use mathlib.Core.Path.{◌≡◌, ap, ◌∙◌}
use mathlib.Core.List.{List, map}
use Prim.Native.Nat.{ℕ}
use Rattle.endian.specs.Place.{paste}
use Rattle.morton.specs.declared.grid.Extents.{Extents}
use Rattle.morton.specs.declared.grid.Cell.{Cell}
use Rattle.morton.specs.Key.{key_of}
use Rattle.morton.specs.declared.plan.Plan.{Plan}

pub planned_keys : (p : Plan) (g : Extents) (cells : List Cell) (d : List ℕ) {e : List ℕ} → p.grid ≡ g
    → e ≡ paste 0 (map (key_of p.grid) cells) d → e ≡ paste 0 (map (key_of g) cells) d
planned_keys p g cells d q w = w ∙ ap (λ (a : Extents). paste 0 (map (key_of a) cells) d) q
