-- What the writer relies on.
use Rattle.std.specs.Prelude.{◌≡◌, ℕ, ◌+◌, ◌*◌, ◌<◌, ◌≤◌, true, false, List, length}
use Rattle.sharding.specs.declared.Sharding.{Sharding}
use Rattle.sharding.specs.Specification.{allowed, minishard_count_of}
use Rattle.shard.specs.index.Index.{most_shard_bytes}
use Rattle.shard.specs.File.{index_length_of}
use Rattle.shard.specs.Items.{Item}
use Rattle.settled_form.specs.Form.{parts_length}
use Rattle.repair.specs.form.Chosen.{sound_in, content_by}

-- two copies that 6 does not refuse
pub record Pair (spec : Sharding) (ia da ib db : List ℕ) : Type 0 where
  pub permitted : allowed spec ≡ true
  pub first : length ia ≡ index_length_of spec
  pub second : length ib ≡ index_length_of spec
  pub short : length da ≤ most_shard_bytes
  pub small : length db ≤ most_shard_bytes

-- minishard m is sound in one of them
pub record SoundInOne (spec : Sharding) (shard : ℕ) (ia da ib db : List ℕ) (m : ℕ) : Type 0 where
  pub below : m < minishard_count_of spec
  pub other : sound_in spec shard ia da m ≡ false → sound_in spec shard ib db m ≡ true

-- each of the first n is
pub record SoundInOneEach (spec : Sharding) (shard : ℕ) (ia da ib db : List ℕ) (n : ℕ) : Type 0 where
  pub each : (m : ℕ) → m < n → SoundInOne spec shard ia da ib db m

-- the length of the form of n minishards, where f gives each
abbrev pub length_by : (ℕ → List Item) → ℕ → ℕ
length_by f n = 16 * n + parts_length (content_by f 0 n)
