-- The sizes of a manifest's fragments.
use Rattle.std.specs.Prelude.{ℕ, List}
use Rattle.endian.specs.Range.{sum_to}
use Rattle.mesh_manifest.specs.layout.Layout.{count_of, level_item, size_at}

-- the size of the fragment of node i of level l, and the sizes of all of level l's together
abbrev pub fragment_size : List ℕ → ℕ → ℕ → ℕ
fragment_size s l i = size_at s (level_item s l) (count_of s l) i

unfoldable pub level_bytes : List ℕ → ℕ → ℕ
level_bytes s l = sum_to (size_at s (level_item s l) (count_of s l)) (count_of s l)
