-- What repair takes of two copies of one shard: minishard by minishard what copy a lists where it is sound there, else what copy b lists.
-- A copy is two lists here: its shard index, and the data behind it. Unlisted bytes are in no minishard's listing, and so are dropped.
use Rattle.std.specs.Prelude.{ℕ, zero, suc, Bool, List, [], ◌∷◌, ◌==◌}
use Rattle.refusal.specs.Choice.{pick}
use Rattle.sharding.specs.declared.Sharding.{Sharding}
use Rattle.sharding.specs.Specification.{minishard_count_of}
use Rattle.shard.specs.Faults.{fault_of}
use Rattle.shard.specs.Items.{Item}
use Rattle.settled_form.specs.Form.{settled, settled_length}
use Rattle.settled_form.specs.Content.{items_of, by_id}

-- no test of the whole-shard check refuses minishard m
unfoldable pub sound_in : Sharding → ℕ → List ℕ → List ℕ → ℕ → Bool
sound_in spec shard index d m = (fault_of spec shard index d m).number == 0

-- what minishard m lists, in rising id order (RULES U3)
abbrev pub listed : Sharding → List ℕ → List ℕ → ℕ → List Item
listed spec index d m = by_id (items_of spec index d m)

-- what is taken for minishard m
unfoldable pub chosen : Sharding → ℕ → List ℕ → List ℕ → List ℕ → List ℕ → ℕ → List Item
chosen spec shard ia da ib db m = pick (sound_in spec shard ia da m) (listed spec ia da m) (listed spec ib db m)

-- k minishards from minishard m on, where f gives each
unfoldable pub content_by : (ℕ → List Item) → ℕ → ℕ → List (List Item)
content_by f m zero = []
content_by f m (suc k) = f m ∷ content_by f (suc m) k

-- all that is taken, its settled form and the length of that
unfoldable pub chosen_content : Sharding → ℕ → List ℕ → List ℕ → List ℕ → List ℕ → List (List Item)
chosen_content spec shard ia da ib db = content_by (chosen spec shard ia da ib db) 0 (minishard_count_of spec)

unfoldable pub repaired_form : Sharding → ℕ → List ℕ → List ℕ → List ℕ → List ℕ → List ℕ
repaired_form spec shard ia da ib db = settled (chosen_content spec shard ia da ib db)

unfoldable pub repaired_length : Sharding → ℕ → List ℕ → List ℕ → List ℕ → List ℕ → ℕ
repaired_length spec shard ia da ib db = settled_length (chosen_content spec shard ia da ib db)
