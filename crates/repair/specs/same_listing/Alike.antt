-- When two minishards list the same: as a test, and what the functions tell of it.
use Rattle.std.specs.Prelude.{◌≡◌, ℕ, ◌<◌, Bool, true, false, ◌&&◌, List, [], ◌∷◌, ◌==◌}
use Rattle.sharding.specs.declared.Sharding.{Sharding}
use Rattle.shard.specs.Items.{Item, item_of, item_at}
use Rattle.settled_form.specs.Sorted.{Member}
use Rattle.settled_form.specs.Content.{items_at, items_of, by_id}

-- ---- as a test

-- the same bytes
unfoldable pub same_bytes_of : List ℕ → List ℕ → Bool
same_bytes_of [] [] = true
same_bytes_of [] (y ∷ ys) = false
same_bytes_of (x ∷ xs) [] = false
same_bytes_of (x ∷ xs) (y ∷ ys) = x == y && same_bytes_of xs ys

-- the same id, lead and bytes
unfoldable pub same_item_of : Item → Item → Bool
same_item_of x y = x.id == y.id && (same_bytes_of x.lead y.lead && same_bytes_of x.body y.body)

-- the same items in the same order
unfoldable pub same_items : List Item → List Item → Bool
same_items [] [] = true
same_items [] (y ∷ ys) = false
same_items (x ∷ xs) [] = false
same_items (x ∷ xs) (y ∷ ys) = same_item_of x y && same_items xs ys

-- minishard m lists the same in two shards, in whatever order each holds it
unfoldable pub alike : Sharding → List ℕ → List ℕ → List ℕ → List ℕ → ℕ → Bool
alike spec ia da ib db m = same_items (by_id (items_of spec ia da m)) (by_id (items_of spec ib db m))

-- ---- as it is told

-- b is whether P
pub record Tells (P : Type 0) (b : Bool) : Type 0 where
  pub yes : b ≡ true → P
  pub no : b ≡ false → P → ⊥

-- the chunk of `size` bytes at `start` of d and that of `size'` bytes at `start'` of d' are the same, with their leads
abbrev pub SameChunk : Sharding → List ℕ → ℕ → ℕ → List ℕ → ℕ → ℕ → Type 0
SameChunk spec d start size d' start' size' = item_of spec d 0 start size ≡ item_of spec d' 0 start' size'

-- each of the n entries at s of d is one of the n' at s' of d'
abbrev pub AllIn : Sharding → List ℕ → ℕ → ℕ → List ℕ → ℕ → ℕ → Type 0
AllIn spec d s n d' s' n' = (i : ℕ) → i < n → Member (item_at spec d s n i) (items_at spec d' s' n')

-- the n entries at s of d are, one by one, those at s' of d'
abbrev pub InStep : Sharding → List ℕ → ℕ → List ℕ → ℕ → ℕ → Type 0
InStep spec d s d' s' n = (i : ℕ) → i < n → item_at spec d s n i ≡ item_at spec d' s' n i
