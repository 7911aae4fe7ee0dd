-- What settling relies on, over a shard index and the data behind it, and the lengths that are added up.
use Rattle.std.specs.Prelude.{◌≡◌, ℕ, ◌+◌, ◌-◌, ◌*◌, ◌%◌, ◌<◌, ◌≤◌, true, ◌⊎◌, List, length, ◌≢◌}
use Rattle.sharding.specs.declared.Sharding.{Sharding}
use Rattle.sharding.specs.Specification.{allowed, minishard_count_of}
use Rattle.shard.specs.index.Index.{entry_start_of, entry_end_of, entry_count, id_steps, start_steps, sizes, id_at, start_at, end_at}
use Rattle.shard.specs.Items.{Led}
use Rattle.settled_form.specs.Form.{parts_length}
use Rattle.settled_form.specs.Content.{content_from}
use Rattle.settle.specs.minishard_length.Writing.{minishard_length}

-- of 7, 8, 9 and 11, and of leads, all that settling a minishard relies on, whose minishard index stands in d from s to e
pub record Settleable (spec : Sharding) (d : List ℕ) (s e : ℕ) : Type 0 where
  pub ordered : s ≤ e
  pub within : (s ≡ e) ⊎ (e ≤ length d)
  pub whole : (e - s) % 24 ≡ 0
  pub distinct : (i j : ℕ) → i < j → j < entry_count s e → id_at (id_steps d s) i ≢ id_at (id_steps d s) j
  pub inside : (i : ℕ) → i < entry_count s e → end_at (start_steps d s (entry_count s e)) (sizes d s (entry_count s e)) i ≤ length d
  pub led : (i : ℕ) → i < entry_count s e → Led spec d (start_at (start_steps d s (entry_count s e)) (sizes d s (entry_count s e)) i) (sizes d s (entry_count s e) i)

abbrev pub SettleableIn : Sharding → List ℕ → List ℕ → ℕ → Type 0
SettleableIn spec index d m = Settleable spec d (entry_start_of index m) (entry_end_of index m)

-- each of n minishards, whose entries the shard index holds
pub record SettleableParts (spec : Sharding) (index d : List ℕ) (n : ℕ) : Type 0 where
  pub held : 16 * n ≤ length index
  pub each : (m : ℕ) → m < n → SettleableIn spec index d m

-- a shard of two parts that can be settled
pub record SettleableShard (spec : Sharding) (index d : List ℕ) : Type 0 where
  pub permitted : allowed spec ≡ true
  pub parts : SettleableParts spec index d (minishard_count_of spec)

-- the length of minishard m, settled, and of the whole form of n, by the counts that are read
abbrev pub one_length : Sharding → List ℕ → List ℕ → ℕ → ℕ
one_length spec index d m = minishard_length spec d (entry_start_of index m) (entry_count (entry_start_of index m) (entry_end_of index m))

abbrev pub whole_length : Sharding → List ℕ → List ℕ → ℕ → ℕ
whole_length spec index d n = 16 * n + parts_length (content_from spec index d 0 n)
