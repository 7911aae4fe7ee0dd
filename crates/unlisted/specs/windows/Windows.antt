-- What the windows over a shard's data are told of an item before it is looked at.
use Rattle.std.specs.Prelude.{◌≡◌, ℕ, ◌+◌, ◌-◌, ◌<◌, ◌≤◌, Bool, false, ◌⊎◌, List}
use Rattle.bitmap.specs.window.Window.{span}
use Rattle.sharding.specs.declared.Sharding.{Sharding}
use Rattle.shard.specs.index.Index.{most_shard_bytes}
use Rattle.shard.specs.Items.{lead_length_of}

-- the item of a chunk that starts at `limit` or later begins past the window from lo on
pub record Limit (spec : Sharding) (lo limit : ℕ) : Type 0 where
  pub above : lo < limit
  pub near : limit ≤ 2147483648
  pub far : (body : List ℕ) (start : ℕ) → start ≤ most_shard_bytes → limit ≤ start → lo + span ≤ start - lead_length_of spec body

-- where b is false, the chunk ends by lo, or starts at the limit or later
pub record Meets (lo limit start size : ℕ) (b : Bool) : Type 0 where
  pub apart : b ≡ false → (start + size ≤ lo) ⊎ (limit ≤ start)
