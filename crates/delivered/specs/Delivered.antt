-- What is delivered to an intake, and its settled form (RULES N6). Nothing here speaks of states or of what an intake writes.
use Rattle.std.specs.Prelude.{ℕ, zero, suc, ◌<◌, ◌≤◌, ◌≡◌, List, [], ◌∷◌, ◌++◌, eqb}
use Rattle.refusal.specs.Choice.{pick}
use Rattle.sharding.specs.declared.Sharding.{Sharding}
use Rattle.sharding.specs.Specification.{minishard_count_of}
use Rattle.sharding.specs.placement.Place.{minishard_of}
use Rattle.shard.specs.Items.{Item}
use Rattle.settled_form.specs.Sorted.{Member}
use Rattle.settled_form.specs.Form.{settled}
use Rattle.settled_form.specs.Content.{by_id}

-- a chunk as it is delivered: its id, the size that is announced, and its bytes "in successive parts of any lengths"
pub record Delivery : Type 0 where
  pub id : ℕ
  pub size : ℕ
  pub parts : List (List ℕ)

-- the parts one after the other
unfoldable pub concat_parts : List (List ℕ) → List ℕ
concat_parts [] = []
concat_parts (part ∷ parts) = part ++ concat_parts parts

-- the item that it makes: in a volume no bytes go before a chunk
abbrev pub as_item : Delivery → Item
as_item x = record { id = x.id; lead = []; body = concat_parts x.parts }

unfoldable pub as_items : List Delivery → List Item
as_items [] = []
as_items (x ∷ xs) = as_item x ∷ as_items xs

-- ---- the settled form

-- the items of minishard m
unfoldable pub in_minishard : Sharding → ℕ → List Item → List Item
in_minishard spec m [] = []
in_minishard spec m (x ∷ xs) = pick (eqb (minishard_of spec x.id) m) (x ∷ in_minishard spec m xs) (in_minishard spec m xs)

-- those of k minishards from minishard m on, each "in rising id order"
unfoldable pub gathered_from : Sharding → List Item → ℕ → ℕ → List (List Item)
gathered_from spec xs m zero = []
gathered_from spec xs m (suc k) = by_id (in_minishard spec m xs) ∷ gathered_from spec xs (suc m) k

-- the items as a shard's content
unfoldable pub gathered : Sharding → List Item → List (List Item)
gathered spec xs = gathered_from spec xs 0 (minishard_count_of spec)

-- "the settled form of what was delivered" (RULES N6)
abbrev pub delivered_form : Sharding → List Delivery → List ℕ
delivered_form spec xs = settled (gathered spec (as_items xs))

-- ---- the order: "Chunks come by rising minishard, then rising id"

-- a comes before b
pub record Precedes (spec : Sharding) (a b : ℕ) : Type 0 where
  pub minishards : minishard_of spec a ≤ minishard_of spec b
  pub ids : minishard_of spec a ≡ minishard_of spec b → a < b

-- each comes before all that follow
unfoldable pub InOrder : Sharding → List Item → Type 0
InOrder spec [] = Unit {0}
InOrder spec (x ∷ xs) = ((y : Item) → Member y xs → Precedes spec x.id y.id) × InOrder spec xs
