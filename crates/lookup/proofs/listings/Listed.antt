-- The listing of a minishard gives exactly what it lists.
use Rattle.std.proofs.Common.{◌≡◌, ℕ, ◌+◌, ◌*◌, ◌<◌, ◌≤◌, ◌↔◌, List, length, get_or, drop, sym, refl, ◌∙◌, arith, length-take-le, drop-drop}
use Rattle.sharding.specs.declared.Sharding.{Sharding}
use Rattle.shard.specs.index.Index.{entry_start_of, entry_end_of, entry_count, start_steps, sizes, start_at}
use Rattle.shard.specs.File.{index_length_of, index_part, data_part}
use Rattle.shard.specs.Items.{Item}
use Rattle.shard.specs.Lists.{ListsAt, ListsItem}
use Rattle.shard.proofs.Chunks.{item-at}
use Rattle.lookup.specs.entries.Entries.{listing_in}
use Rattle.lookup.proofs.entries.Entries.{triple, length-entries, entry-number}
use Rattle.lookup.specs.listings.Listing.{listing_of}
use Rattle.lookup.specs.listings.Triples.{Says}

module _ (spec : Sharding) (file : List ℕ) (m : ℕ) (held : index_length_of spec ≤ length file) where
  abbrev x : List ℕ
  x = index_part spec file

  abbrev d : List ℕ
  d = data_part spec file

  abbrev s : ℕ
  s = entry_start_of x m

  abbrev n : ℕ
  n = entry_count s (entry_end_of x m)

  long : length (listing_of spec file m) ≡ 3 * n
  unfolding listing_in
  long = length-entries (length x) d s n 0 n

  number : (i r : ℕ) {a : ℕ} → a ≡ 3 * i + r → i < n → r < 3 → get_or (listing_of spec file m) a 0 ≡ get_or (triple (length x) d s n i) r 0
  unfolding listing_in
  number i r e l h = entry-number (length x) d s n 0 n i r e (omega arith) l h

  place : (i : ℕ) → drop (start_at (start_steps d s n) (sizes d s n) i) d ≡ drop (length x + start_at (start_steps d s n) (sizes d s n) i) file
  place i = rw (length-take-le (index_length_of spec) file held, ← drop-drop)

  module _ (i id : ℕ) (bytes : List ℕ) where
    says : ListsAt x d m i id bytes → Says (listing_of spec file m) file i id bytes
    says t =
        let l = t.among in
        record {
          start = length x + start_at (start_steps d s n) (sizes d s n) i;
          size = sizes d s n i;
          among = omega (arith, long, l);
          named = number i 0 (omega arith) l (omega arith) ∙ t.named;
          placed = number i 1 refl l (omega arith);
          sized = number i 2 refl l (omega arith);
          holding = rw (place i) at t.holding;
        }

    lists : Says (listing_of spec file m) file i id bytes → ListsAt x d m i id bytes
    lists g =
        let l : i < n = omega (arith, long, g.among) in
        let a = sym (number i 1 refl l (omega arith)) ∙ g.placed in
        let b = sym (number i 2 refl l (omega arith)) ∙ g.sized in
        record {
          among = l;
          named = sym (number i 0 (omega arith) l (omega arith)) ∙ g.named;
          holding = rw (place i, a, b) g.holding;
        }

    -- the three numbers of entry i name an id and bytes exactly where entry i of the minishard lists them
    pub listing_says_what_is-listed : ListsAt x d m i id bytes ↔ Says (listing_of spec file m) file i id bytes
    listing_says_what_is-listed = (says, lists)

  -- each item that the minishard lists stands in its listing
  pub listed-item-is-said : {item : Item} (t : ListsItem spec x d m item) → Says (listing_of spec file m) file t.entry item.id item.body
  listed-item-is-said {item} t = says t.entry item.id item.body (item-at t)
