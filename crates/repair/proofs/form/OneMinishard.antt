-- One minishard, of the copy that is chosen.
use Rattle.std.proofs.Common.{◌≡◌, ℕ, ◌+◌, ◌*◌, ◌<◌, ◌≤◌, Bool, true, false, eqb, List, length, sym, ap, ◌∙◌, arith, rules, eq-eqb, eqb-true}
use Rattle.endian.specs.Place.{paste}
use Rattle.sharding.specs.declared.Sharding.{Sharding}
use Rattle.sharding.specs.Specification.{allowed, minishard_count_of}
use Rattle.shard.specs.declared.index.Fault.{Fault}
use Rattle.shard.specs.index.Index.{most_shard_bytes}
use Rattle.shard.specs.Faults.{fault_of}
use Rattle.shard.specs.File.{index_length_of}
use Rattle.shard.specs.Sound.{SoundFrom, SoundMinishard}
use Rattle.shard.proofs.Leads.{sound-led}
use Rattle.shard.proofs.Judged.{passes-minishard, minishard-passes}
use Rattle.settled_form.specs.Form.{part_of, part_length_of}
use Rattle.settled_form.specs.Content.{items_of, by_id}
use Rattle.settle.specs.minishard_length.Writing.{capped}
use Rattle.settle.specs.length.Settleable.{Settleable, SettleableIn, one_length}
use Rattle.settle.proofs.length.Lengths.{sorted-length}
use Rattle.settle.specs.writing.Entry.{settled_entry}
use Rattle.repair.specs.form.Chosen.{sound_in, listed, chosen}
use Rattle.repair.specs.form.Choosing.{Pair, SoundInOne}

-- ---- sound minishards

pub sound-if : (spec : Sharding) (shard : ℕ) (index d : List ℕ) (m : ℕ) → sound_in spec shard index d m ≡ true → SoundMinishard spec shard index d m
unfolding sound_in
sound-if spec shard index d m e = passes-minishard spec shard index d m (eqb-true _ _ e)

pub sound-only : (spec : Sharding) (shard : ℕ) (index d : List ℕ) (m : ℕ) → SoundMinishard spec shard index d m → sound_in spec shard index d m ≡ true
unfolding sound_in
sound-only spec shard index d m g = eq-eqb _ _ (ap (λ (f : Fault). f.number) (minishard-passes spec shard index d m g))

pub sound-judged : (spec : Sharding) (shard : ℕ) (index d : List ℕ) (m : ℕ) {f : Fault} → f ≡ fault_of spec shard index d m → eqb f.number 0 ≡ sound_in spec shard index d m
unfolding sound_in
sound-judged spec shard index d m e = rw e

pub settleable : {spec : Sharding} {shard m : ℕ} {d : List ℕ} {s e : ℕ} → SoundFrom spec shard m d s e → Settleable spec d s e
settleable g = record { ordered = g.ordered; within = g.within; whole = g.whole; distinct = g.distinct; inside = g.inside; led = sound-led g }

pub ruleset judging = (sound-judged, rules)

-- ---- the choice

module _ (spec : Sharding) (shard : ℕ) (ia da ib db : List ℕ) (m : ℕ) where
  pub chosen-first : sound_in spec shard ia da m ≡ true → chosen spec shard ia da ib db m ≡ listed spec ia da m
  unfolding chosen
  chosen-first e = rw e

  pub chosen-second : sound_in spec shard ia da m ≡ false → chosen spec shard ia da ib db m ≡ listed spec ib db m
  unfolding chosen
  chosen-second e = rw e

-- as the code makes it: b tells whether minishard m is sound in the first copy
module _ {spec : Sharding} {shard : ℕ} {ia da ib db : List ℕ} {m : ℕ} (pair : Pair spec ia da ib db) (one : SoundInOne spec shard ia da ib db m) where
  pub first_entry : 16 * m + 16 ≤ length ia
  first_entry = omega (arith, one.below, pair.first)

  pub second-entry : 16 * m + 16 ≤ length ib
  second-entry = omega (arith, one.below, pair.second)

  pub pair-permitted : allowed spec ≡ true
  pair-permitted = pair.permitted

  pub pair-first : length ia ≡ index_length_of spec
  pair-first = pair.first

  pub pair-short : length da ≤ most_shard_bytes
  pair-short = pair.short

  pub one_below : m < minishard_count_of spec
  one_below = one.below

  module _ {b : Bool} (e : b ≡ sound_in spec shard ia da m) where
    module _ (t : b ≡ true) where
      is-first : chosen spec shard ia da ib db m ≡ listed spec ia da m
      is-first = chosen-first spec shard ia da ib db m (sym e ∙ t)

      length-first : part_length_of (chosen spec shard ia da ib db m) ≡ one_length spec ia da m
      length-first = ap part_length_of is-first ∙ sorted-length spec ia da m

      pub first_settleable : SettleableIn spec ia da m
      first_settleable = settleable (sound-if spec shard ia da m (sym e ∙ t))

      pub first-capped : {r : ℕ} → r ≡ capped (one_length spec ia da m) → r ≡ capped (part_length_of (chosen spec shard ia da ib db m))
      first-capped h = rw length-first h

      pub first-length : {r : ℕ} → r ≡ one_length spec ia da m → r ≡ part_length_of (chosen spec shard ia da ib db m)
      first-length h = h ∙ sym length-first

      pub first-room : (base p : ℕ) (out : List ℕ) → base + p + part_length_of (chosen spec shard ia da ib db m) ≤ length out → base + p + one_length spec ia da m ≤ length out
      first-room base p out h = omega (arith, length-first)

      pub first-most : part_length_of (chosen spec shard ia da ib db m) ≤ most_shard_bytes → one_length spec ia da m ≤ most_shard_bytes
      first-most h = omega (arith, length-first)

      pub first-written : (base p : ℕ) (out : List ℕ) {o : List ℕ} → o ≡ paste (16 * m) (settled_entry p (by_id (items_of spec ia da m))) (paste (base + p) (part_of p (by_id (items_of spec ia da m))) out)
          → o ≡ paste (16 * m) (settled_entry p (chosen spec shard ia da ib db m)) (paste (base + p) (part_of p (chosen spec shard ia da ib db m)) out)
      first-written base p out h = rw is-first h

    module _ (t : b ≡ false) where
      is-second : chosen spec shard ia da ib db m ≡ listed spec ib db m
      is-second = chosen-second spec shard ia da ib db m (sym e ∙ t)

      length-second : part_length_of (chosen spec shard ia da ib db m) ≡ one_length spec ib db m
      length-second = ap part_length_of is-second ∙ sorted-length spec ib db m

      pub second_settleable : SettleableIn spec ib db m
      second_settleable = settleable (sound-if spec shard ib db m (one.other (sym e ∙ t)))

      pub second-capped : {r : ℕ} → r ≡ capped (one_length spec ib db m) → r ≡ capped (part_length_of (chosen spec shard ia da ib db m))
      second-capped h = rw length-second h

      pub second-length : {r : ℕ} → r ≡ one_length spec ib db m → r ≡ part_length_of (chosen spec shard ia da ib db m)
      second-length h = h ∙ sym length-second

      pub second-room : (base p : ℕ) (out : List ℕ) → base + p + part_length_of (chosen spec shard ia da ib db m) ≤ length out → base + p + one_length spec ib db m ≤ length out
      second-room base p out h = omega (arith, length-second)

      pub second-most : part_length_of (chosen spec shard ia da ib db m) ≤ most_shard_bytes → one_length spec ib db m ≤ most_shard_bytes
      second-most h = omega (arith, length-second)

      pub second-written : (base p : ℕ) (out : List ℕ) {o : List ℕ} → o ≡ paste (16 * m) (settled_entry p (by_id (items_of spec ib db m))) (paste (base + p) (part_of p (by_id (items_of spec ib db m))) out)
          → o ≡ paste (16 * m) (settled_entry p (chosen spec shard ia da ib db m)) (paste (base + p) (part_of p (chosen spec shard ia da ib db m)) out)
      second-written base p out h = rw is-second h

pub ruleset choosing = (first_entry, second-entry, pair-permitted, pair-first, pair-short, one_below, first_settleable, first-capped, first-length, first-room, first-most, first-written, second_settleable, second-capped, second-length, second-room, second-most, second-written, rules)
