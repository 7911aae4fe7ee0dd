-- What order 12 promises (RULES U9): nothing is shorter than the settled form.
use Rattle.std.specs.Prelude.{ℕ, ◌+◌, ◌<◌, ◌≤◌, ◌≡◌, ◌↔◌, List, length}
use Rattle.sharding.specs.declared.Sharding.{Sharding}
use Rattle.sharding.specs.Specification.{volume, mesh}
use Rattle.shard.specs.index.Index.{most_shard_bytes}
use Rattle.shard.specs.Sound.{SoundShard}
use Rattle.shard.specs.Lists.{SameListing}
use Rattle.unlisted.specs.ranges.Covered.{file_unlisted}
use Rattle.settled_form.specs.Content.{file_form}
use Rattle.settled_form.specs.shortest.Shares.{SharesNone}
use Rattle.settled_form.specs.shortest.Worked.{one_bit, twins, nested}

-- Order 12: "Show that among all sound shards with the same specification, number and content, whose listed chunks, fragments and nonempty minishard
-- indexes share no byte, none is shorter than the settled form." (RULES U9)
pub record Order12 : Type 0 where
  pub shortest : (spec : Sharding) (shard : ℕ) (a b : List ℕ) → SoundShard spec shard a → SoundShard spec shard b → SameListing spec a b → SharesNone spec b
      → length (file_form spec a) ≤ length b
  -- Each of these is longer than it by exactly its unlisted bytes,
  pub longer : (spec : Sharding) (shard : ℕ) (a b : List ℕ) → SoundShard spec shard a → SoundShard spec shard b → SameListing spec a b → SharesNone spec b
      → length b ≡ length (file_form spec a) + file_unlisted spec b
  -- and the settled form, where it is at most 1 GiB as sound shards are, is one of these.
  pub among : (spec : Sharding) (shard : ℕ) (a : List ℕ) → SoundShard spec shard a → length (file_form spec a) ≤ most_shard_bytes
      → SoundShard spec shard (file_form spec a) × SameListing spec a (file_form spec a) × SharesNone spec (file_form spec a)
  -- Of every sound shard: it is at most as long as its settled form and its unlisted bytes together, and as long exactly where it shares no byte.
  pub most : (spec : Sharding) (shard : ℕ) (b : List ℕ) → SoundShard spec shard b → length b ≤ length (file_form spec b) + file_unlisted spec b
  pub exact : (spec : Sharding) (shard : ℕ) (b : List ℕ) → SoundShard spec shard b → (length b ≡ length (file_form spec b) + file_unlisted spec b) ↔ SharesNone spec b
  -- That no byte is shared is needed, of chunks and of fragments: these sound shards, a volume's and a mesh's, are shorter than their settled forms.
  pub chunks : SoundShard (one_bit volume) 0 twins × (length twins < length (file_form (one_bit volume) twins))
  pub fragments : SoundShard (one_bit mesh) 0 nested × (length nested < length (file_form (one_bit mesh) nested))
