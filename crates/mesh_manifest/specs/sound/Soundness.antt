-- What a sound manifest is, said of each item and each node (RULES M5). The verdict is 0 exactly of these.
use Rattle.std.specs.Prelude.{ℕ, ◌+◌, ◌*◌, ◌≤◌, ◌<◌, ◌≡◌, true, List, length}
use Rattle.mesh_manifest.specs.layout.Layout.{manifest_item, levels_of, is_real_of, count_of, nodes_before, level_item}
use Rattle.mesh_manifest.specs.layout.Bits.{finite_bits, above_zero}
use Rattle.mesh_manifest.specs.sound.Verdict.{most_bytes, most_levels, in_order_of}

-- RULES M5
pub record Sound (s : List ℕ) : Type 0 where
  pub bytes : length s ≤ most_bytes
  pub levels : levels_of s ≤ most_levels
  pub ends : length s ≡ 28 + 20 * levels_of s + 16 * nodes_before s (levels_of s)
  pub reals : (i : ℕ) → is_real_of (levels_of s) i ≡ true → finite_bits (manifest_item s i) ≡ true
  pub above : (i : ℕ) → i < 3 → above_zero (manifest_item s i) ≡ true
  pub rises : (l i : ℕ) → l < levels_of s → i + 1 < count_of s l → in_order_of s (level_item s l) (count_of s l) i ≡ true
