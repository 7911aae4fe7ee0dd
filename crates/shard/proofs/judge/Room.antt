-- What the judge reads lies in the index and in the data, and no place or sum passes 2^64: facts on plain numbers, one for each shape.
use Rattle.std.proofs.Common.{◌≡◌, ℕ, ◌+◌, ◌-◌, ◌*◌, ◌/◌, ◌<◌, ◌≤◌, arith}
use Rattle.sharding.specs.Specification.{minishard_count_of}
use Rattle.sharding.specs.declared.Sharding.{Sharding}
use Rattle.shard.specs.index.Index.{most_shard_bytes}
use Rattle.shard.specs.File.{index_length_of}

-- the entry of minishard m in an index of n bytes
module _ (spec : Sharding) {m to n : ℕ} (h : m < to) (t : to ≤ minishard_count_of spec) (e : n ≡ index_length_of spec) where
  pub minishard-small : n ≤ most_shard_bytes → m < 1073741824
  minishard-small l = omega arith

-- a minishard index from s up to e, end excluded, in data of d bytes behind an index of b
pub record Rows (s e d b : ℕ) : Type 0 where
  pub some : s < e
  pub inside : e ≤ d
  pub short : d ≤ most_shard_bytes
  pub near : b ≤ most_shard_bytes

pub rows : {s e d b : ℕ} → s < e → e ≤ d → d ≤ most_shard_bytes → b ≤ most_shard_bytes → Rows s e d b
rows h l short near = record { some = h; inside = l; short = short; near = near }

module _ {s e d b : ℕ} (r : Rows s e d b) where
  pub rows_inside : s + 24 * ((e - s) / 24) ≤ d
  rows_inside = omega arith

  module _ {j : ℕ} (h : j < (e - s) / 24) where
    pub size-inside : s + 16 * ((e - s) / 24) + 8 * j + 8 ≤ d
    size-inside = omega arith

    pub id-place : b + s + 8 * j < 18446744073709551616
    id-place = omega arith

    pub start-place : b + (s + 8 * ((e - s) / 24)) + 8 * j < 18446744073709551616
    start-place = omega arith
