-- A walk over the entries of a minishard index: where their chunks start, and which bytes their items hold.
use Rattle.std.proofs.Common.{◌≡◌, ℕ, ◌+◌, ◌-◌, ◌*◌, ◌%◌, ◌^◌, ◌<◌, ◌≤◌, Bool, true, not, ◌||◌, List, length, take, drop, add-one, arith}
use borrow.Author.Tests.{not-true}
use Rattle.endian.specs.Little.{le_at}
use Rattle.endian.specs.Range.{sum_to, any_below}
use Rattle.bitmap.specs.Positions.{within}
use Rattle.sharding.specs.declared.Sharding.{Sharding}
use Rattle.shard.specs.index.Index.{start_steps, sizes, start_at}
use Rattle.shard.specs.Items.{lead_length_of, Led, MayLead}
use Rattle.unlisted.specs.ranges.Covered.{item_start, in_item, in_items}
use Rattle.unlisted.specs.stretches.Reading.{Ranged}

-- where no chunk has a lead, an item begins with its chunk
pub lead-none : {spec : Sharding} {b : Bool} (start : ℕ) (body : List ℕ) → MayLead spec b → not b ≡ true → start ≡ start - lead_length_of spec body
lead-none {spec} {b} start body m e = omega (arith, m.none (not-true b e) body)

-- of the first k of n entries entry i is next, and `end` is where the chunk before it ends
pub record Walk (d : List ℕ) (s n k i end : ℕ) : Type 0 where
  pub most : k ≤ n
  pub below : i ≤ k
  pub walked : end ≡ (sum_to (start_steps d s n) i + sum_to (sizes d s n) i) % 2 ^ 64

-- u and v are its start step and its size as they were read, t is where its chunk starts
module _ {spec : Sharding} {d : List ℕ} {s n k i end : ℕ} (r : Ranged spec d s n) (h : Walk d s n k i end) (l : i < k)
    (u v t : ℕ) (eu : u ≡ le_at 8 d (s + 8 * n + 8 * i)) (et : t ≡ (end + u) % 2 ^ 64) (ev : v ≡ le_at 8 d (s + 16 * n + 8 * i)) where
  walk_start : start_at (start_steps d s n) (sizes d s n) i ≡ t
  unfolding start_at sum_to
  walk_start = let w = h.walked in omega arith

  pub walk_inside : t + v ≤ length d
  walk_inside = omega (arith, r.inside i (omega (arith, h.most)), walk_start)

  pub walk-led : Led spec d t v
  walk-led = rw (walk_start, ← ev) at (r.led i (omega (arith, h.most)))

  walk-item : item_start spec d s n i ≡ t - lead_length_of spec (take v (drop t d))
  unfolding item_start
  walk-item = rw (walk_start, ← ev)

  pub walk-test : {a : ℕ} → a ≡ t - lead_length_of spec (take v (drop t d))
      → (p : ℕ) → in_items spec d s n i p || within a (t + v) p ≡ in_items spec d s n (i + 1) p
  unfolding in_items any_below in_item
  walk-test e p = rw (add-one, walk-item, walk_start, ← ev, e)
