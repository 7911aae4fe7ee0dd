-- The sizes of a level together, from those that were read.
use Prim.Native.Nat.{ℕ}
use mathlib.Core.Path.{◌≡◌}
use mathlib.Core.List.{List}
use Rattle.endian.specs.Range.{sum_to}
use Rattle.mesh_manifest.specs.layout.Layout.{count_of, level_item, size_at}
use Rattle.mesh_manifest.specs.fragment_sums.Sums.{level_bytes}

pub level-bytes : (s : List ℕ) (l : ℕ) {first n t : ℕ} → t ≡ sum_to (size_at s first n) n → first ≡ level_item s l → n ≡ count_of s l → t ≡ level_bytes s l
unfolding level_bytes
level-bytes s l {first} {n} {t} e f g = cc
