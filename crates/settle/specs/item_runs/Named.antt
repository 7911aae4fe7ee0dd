-- The items that entries name (RULES U3).
use Rattle.std.specs.Prelude.{ℕ, ◌+◌, ◌≤◌, List, map, length}
use Rattle.sharding.specs.declared.Sharding.{Sharding}
use Rattle.shard.specs.Items.{Item, item_of, Led}
use Rattle.settled_form.specs.Sorted.{Member}
use Rattle.index_sort.specs.declared.three_rows.Entry.{Entry}

-- the item that an entry names, and those of several
abbrev pub item_from : Sharding → List ℕ → Entry → Item
item_from spec d e = item_of spec d e.id e.start e.size

unfoldable pub named : Sharding → List ℕ → List Entry → List Item
named spec d es = map (item_from spec d) es

-- the chunk of each entry lies within d, and so does its lead
pub record InData (spec : Sharding) (d : List ℕ) (es : List Entry) : Type 0 where
  pub inside : (e : Entry) → Member e es → e.start + e.size ≤ length d
  pub led : (e : Entry) → Member e es → Led spec d e.start e.size
