-- A node's level stands whole in a sound manifest; e is what the test for the node gave.
use Prim.Native.Nat.{ℕ, ◌+◌, ◌*◌, ◌≤◌, ◌<◌}
use mathlib.Core.Path.{◌≡◌, sym, subst}
use mathlib.Core.Bool.{true, ◌&&◌}
use mathlib.Core.List.{List}
use native.Mathlib.Omega.{arith}
use lib.Dec.{T, ltb, ltb→lt}
use lib.Ieee.Fits.{and_l, and_r}
use lib.ListN.{length}
use Rattle.mesh_manifest.specs.layout.Layout.{levels_of, count_of, nodes_before}
use Rattle.mesh_manifest.specs.sound.Verdict.{manifest_verdict}
use Rattle.mesh_manifest.proofs.sound.Sounds.{sound-ends, read_fits, sound as sound-manifest}
use Rattle.mesh_manifest.specs.nodes.Nodes.{has_node}

module _ (s : List ℕ) (l i : ℕ) (e : has_node s l i ≡ true) where
  both : (l < levels_of s) × (i < count_of s l)
  unfolding has_node
  both = let t : T (ltb l (levels_of s) && ltb i (count_of s l)) = subst T (sym e) tt in
      (ltb→lt l (levels_of s) (and_l (ltb l (levels_of s)) (ltb i (count_of s l)) t), ltb→lt i (count_of s l) (and_r (ltb l (levels_of s)) (ltb i (count_of s l)) t))

  pub has-level : {v : ℕ} → v ≡ levels_of s → l < v
  has-level f = let b = both in omega (arith, b.0)

  pub has-index : {n : ℕ} → n ≡ count_of s l → i < n
  has-index f = let b = both in omega (arith, b.1)

  pub has-to : {v : ℕ} → v ≡ levels_of s → l ≤ v
  has-to f = let b = both in omega (arith, b.0)

  pub has-most : {n : ℕ} → n ≡ count_of s l → i ≤ n
  has-most f = let b = both in omega (arith, b.1)

  pub made-fits : {v k n : ℕ} → v ≡ levels_of s → k ≡ nodes_before s l → n ≡ count_of s l → manifest_verdict s ≡ 0 → 4 * (7 + 5 * v + 4 * k + 4 * n) ≤ length s
  made-fits f g h z = read_fits s l f g h (has-level f) (sound-ends s z)

pub ruleset sound = (has-level, has-to, has-index, has-most, made-fits, sound-manifest)
