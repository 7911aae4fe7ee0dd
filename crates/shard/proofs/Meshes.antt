-- The tests over entries that a mesh has and a volume has not.
use Rattle.std.proofs.Common.{◌≡◌, ℕ, Bool, true, false, List, [], refl, arith}
use Rattle.refusal.specs.Choice.{pick}
use Rattle.sharding.specs.declared.Sharding.{Sharding}
use Rattle.sharding.specs.Specification.{is_mesh}
use Rattle.shard.specs.declared.index.Fault.{Fault}
use Rattle.shard.specs.index.Tests.{fault, first_of}
use Rattle.shard.specs.manifests.Mesh.{manifest_tests}
use Rattle.shard.specs.Faults.{mesh_tests, entry_tests}
use Rattle.shard.proofs.index.Tests.{AllPass, Numbered}

module _ (spec : Sharding) (d : List ℕ) (s n : ℕ) where
  pub mesh-numbered : Numbered 21 (mesh_tests spec d s n)
  unfolding manifest_tests
  mesh-numbered = go (is_mesh spec)
    where
      go : (b : Bool) → Numbered 21 (pick b (manifest_tests d s n) [])
      go true = (omega arith, omega arith, (omega arith, omega arith, (omega arith, omega arith, (omega arith, omega arith, tt))))
      go false = tt

  pub tests_numbered : (shard m : ℕ) → Numbered 21 (entry_tests spec shard m d s n)
  unfolding entry_tests
  tests_numbered shard m = (omega arith, omega arith, (omega arith, omega arith, (omega arith, omega arith, mesh-numbered)))

  -- all pass them exactly where they do so in a mesh
  pub mesh_passed : AllPass n (mesh_tests spec d s n) → is_mesh spec ≡ true → AllPass n (manifest_tests d s n)
  mesh_passed h e = rw e at h

  pub mesh_pass : (is_mesh spec ≡ true → AllPass n (manifest_tests d s n)) → AllPass n (mesh_tests spec d s n)
  mesh_pass h = go (is_mesh spec) refl
    where
      go : (b : Bool) → is_mesh spec ≡ b → AllPass n (pick b (manifest_tests d s n) [])
      go true e = h e
      go false e = tt

  -- their first fault, as the code finds it
  module _ (p : ℕ) {b : Bool} (e : b ≡ is_mesh spec) where
    pub fault-mesh : b ≡ true → {r : Fault} → r ≡ first_of p n (manifest_tests d s n) → r ≡ first_of p n (mesh_tests spec d s n)
    fault-mesh t q = rw (← e, t) q

    pub fault-volume : b ≡ false → fault 0 0 ≡ first_of p n (mesh_tests spec d s n)
    unfolding first_of
    fault-volume t = rw (← e, t)
