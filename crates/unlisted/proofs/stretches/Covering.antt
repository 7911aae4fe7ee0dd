-- The tests of a byte, minishard by minishard.
use Rattle.std.proofs.Common.{◌≡◌, ℕ, ◌+◌, ◌-◌, ◌*◌, ◌/◌, ◌<◌, ◌≤◌, false, ◌||◌, List, length, ⊎_elim, add-one, arith}
use Rattle.endian.specs.Range.{any_below}
use Rattle.endian.proofs.Ranges.{any_none}
use Rattle.bitmap.specs.Positions.{within}
use Rattle.bitmap.proofs.Within.{within-empty}
use Rattle.sharding.specs.declared.Sharding.{Sharding}
use Rattle.sharding.specs.Specification.{minishard_count_of}
use Rattle.shard.specs.index.Index.{entry_start_of, entry_end_of, entry_count, most_shard_bytes}
use Rattle.shard.specs.Sound.{SoundMinishard}
use Rattle.shard.proofs.Leads.{sound-led}
use Rattle.unlisted.specs.stretches.Reading.{Ranged, RangedIn, RangedShard}
use Rattle.unlisted.specs.ranges.Covered.{in_item, in_items, in_minishard, covered_by, covered_in}

-- none of no items
pub items_none : (spec : Sharding) (d : List ℕ) (s n p : ℕ) → in_items spec d s n 0 p ≡ false
unfolding in_items
items_none spec d s n p = any_none (in_item spec d s n p)

-- an empty minishard holds nothing
none-empty : (spec : Sharding) (d : List ℕ) (s e p : ℕ) → s ≡ e → in_minishard spec d s e p ≡ false
unfolding in_minishard
none-empty spec d s e p q =
    let z : entry_count s e ≡ 0 = omega arith in
    rw (z, items_none spec d s 0 p) (within-empty s e p (omega arith))

-- s and e as they were read
module _ (spec : Sharding) (index d : List ℕ) (m p : ℕ) {s e : ℕ} (es : s ≡ entry_start_of index m) (ee : e ≡ entry_end_of index m) where
  pub none_read : s ≡ e → in_minishard spec d (entry_start_of index m) (entry_end_of index m) p ≡ false
  none_read q = none-empty spec d (entry_start_of index m) (entry_end_of index m) p (rw (es, ee) at q)

  pub some_read : in_items spec d s ((e - s) / 24) ((e - s) / 24) p || within s e p ≡ in_minishard spec d (entry_start_of index m) (entry_end_of index m) p
  unfolding in_minishard
  some_read = rw (es, ee)

-- no minishard, and one more
pub covered_none : (spec : Sharding) (index d : List ℕ) (p : ℕ) → covered_in spec index d 0 p ≡ false
unfolding covered_in
covered_none spec index d p = any_none (covered_by spec index d p)

pub covered_next : (spec : Sharding) (index d : List ℕ) (m p : ℕ)
    → covered_in spec index d m p || in_minishard spec d (entry_start_of index m) (entry_end_of index m) p ≡ covered_in spec index d (m + 1) p
unfolding covered_in any_below covered_by
covered_next spec index d m p = rw add-one

-- ---- what is known of each

-- of a sound minishard
pub ranged_in : {spec : Sharding} {shard m : ℕ} {index d : List ℕ} → SoundMinishard spec shard index d m → 16 * m + 16 ≤ length index
    → length d ≤ most_shard_bytes → RangedIn spec index d m
ranged_in {spec} {shard} {m} {index} {d} g h l =
    record {
      entry = h;
      ordered = g.ordered;
      ends = λ n. ending n;
      some = λ n. record { short = l; whole = omega (arith, ending n, g.ordered); inside = g.inside; led = sound-led g };
    }
  where
    ending : (entry_start_of index m ≡ entry_end_of index m → ⊥) → entry_end_of index m ≤ length d
    ending n = ⊎_elim (λ q. absurd (n q)) (λ q. q) g.within

pub read_ranged : (spec : Sharding) (index d : List ℕ) (m : ℕ) {s e : ℕ} → s ≡ entry_start_of index m → e ≡ entry_end_of index m → RangedIn spec index d m
    → (s ≡ e → ⊥) → Ranged spec d s ((e - s) / 24)
read_ranged spec index d m es ee r n = rw (es, ee) (r.some (rw (es, ee) at n))

pub each_ranged : {spec : Sharding} {index d : List ℕ} {m n : ℕ} → RangedShard spec index d → n ≡ minishard_count_of spec → m < n → RangedIn spec index d m
each_ranged r e l = r.each _ (omega arith)
