-- What holds at the head of each loop over the entries of a minishard, and what each way out of a turn shows.
use Rattle.std.proofs.Common.{◌≡◌, ℕ, ◌+◌, ◌-◌, ◌*◌, ◌%◌, ◌^◌, ◌<◌, ◌≤◌, Bool, true, false, not, ◌||◌, eqb, List, length, sym, ◌∙◌, arith, ltb-false, le-ltb, lt-ltb}
use Rattle.endian.specs.Range.{sum_to, any_below, first}
use Rattle.endian.proofs.Ranges.{sum-none, sum_step, any_none, any-more, any-miss, first-none, first_hit, told_none}
use Rattle.sharding.specs.declared.Sharding.{Sharding}
use Rattle.sharding.specs.declared.placement.Place.{Place}
use Rattle.sharding.specs.placement.Place.{place_of}
use Rattle.duplicate_ids.specs.Twice.{first_twice}
use Rattle.shard.specs.index.Index.{start_steps, sizes, id_at, start_at, end_at, most_shard_bytes}
use Rattle.shard.specs.index.Reading.{Readable}
use Rattle.shard.specs.Faults.{bad_id, foreign, foreign_at, ends_past}

-- ---- test 9: the first entry that has the id of an earlier one

pub twice-first : (f : ℕ → ℕ) (n : ℕ) {r : ℕ} → r ≡ first_twice f n → r ≡ first (bad_id f) n
unfolding first_twice
twice-first f n e = e

pub twice-none : (f : ℕ → ℕ) (n : ℕ) {r : ℕ} → r ≡ first_twice f n → n ≤ r → n ≡ first (bad_id f) n
unfolding first_twice
twice-none f n e h = sym (first-none (bad_id f) n (told_none (bad_id f) n e h))

-- ---- test 10: the sum of the steps passed, modulo 2^64, none of which fails

pub record Walk (steps : ℕ → ℕ) (test : ℕ → Bool) (n i sum : ℕ) : Type 0 where
  pub within : i ≤ n
  pub total : sum ≡ sum_to steps i % 2 ^ 64
  pub none : any_below i test ≡ false

pub walk_start : (steps : ℕ → ℕ) (test : ℕ → Bool) (n : ℕ) → Walk steps test n 0 0
walk_start steps test n = record { within = omega arith; total = omega (arith, sum-none steps); none = any_none test }

pub walk_end : {steps : ℕ → ℕ} {test : ℕ → Bool} {n i sum : ℕ} → Walk steps test n i sum → n ≤ i → n ≡ first test n
walk_end {steps} {test} {n} {i} r l = let e : i ≡ n = omega arith in sym (first-none test n (rw e at r.none))

-- test 10 of an id from its place
pub foreign-place : (spec : Sharding) (shard m id : ℕ) {at : Place} → at ≡ place_of spec id → not (eqb at.shard shard) || not (eqb at.minishard m) ≡ foreign spec shard m id
unfolding foreign
foreign-place spec shard m id e = rw e

module _ {f : ℕ → ℕ} (spec : Sharding) (shard m : ℕ) {n i id x own : ℕ} (r : Walk f (foreign_at spec shard m f) n i id) (l : i < n) (e : x ≡ f i) (w : own ≡ (id + x) % 2 ^ 64) where
  own-id : own ≡ id_at f i
  unfolding id_at sum_to
  own-id = let t = r.total in omega arith

  at_entry : {y : Bool} → y ≡ foreign spec shard m own → foreign_at spec shard m f i ≡ y
  unfolding foreign_at
  at_entry p = let q = own-id in cc

  pub ours_hit : {y : Bool} → y ≡ foreign spec shard m own → y ≡ true → i ≡ first (foreign_at spec shard m f) n
  ours_hit p q = sym (first_hit (foreign_at spec shard m f) n i r.none l (at_entry p ∙ q))

  pub ours-turn : {y : Bool} → y ≡ foreign spec shard m own → y ≡ false → Walk f (foreign_at spec shard m f) n (i + 1) own
  ours-turn p q =
      let t = r.total in
      let s = sum_step f i in
      record { within = omega arith; total = omega arith; none = any-more (foreign_at spec shard m f) i r.none (at_entry p ∙ q) }

-- ---- test 11: where the last chunk passed ends

pub record Span (starts size : ℕ → ℕ) (len n i end : ℕ) : Type 0 where
  pub within : i ≤ n
  pub total : end ≡ (sum_to starts i + sum_to size i) % 2 ^ 64
  pub none : any_below i (ends_past len starts size) ≡ false

pub span-start : (g h : ℕ → ℕ) (len n : ℕ) → Span g h len n 0 0
span-start g h len n =
    record { within = omega arith; total = omega (arith, sum-none g, sum-none h); none = any_none _ }

module _ {g h : ℕ → ℕ} {len n i end : ℕ} (r : Span g h len n i end) where
  pub span-end : n ≤ i → n ≡ first (ends_past len g h) n
  span-end l = let e : i ≡ n = omega arith in sym (first-none (ends_past len g h) n (rw e at r.none))

  pub span-inside : n ≤ i → (j : ℕ) → j < n → end_at g h j ≤ len
  unfolding ends_past
  span-inside l j k = let e : i ≡ n = omega arith in ltb-false _ _ (any-miss (ends_past len g h) n j (rw e at r.none) k)

  -- the start of the next chunk is u
  module _ (l : i < n) {x u y : ℕ} (e : x ≡ g i) (w : u ≡ (end + x) % 2 ^ 64) (d : y ≡ h i) where
    start_is : u ≡ start_at g h i
    unfolding start_at sum_to
    start_is = let t = r.total in omega arith

    pub span-start-past : len < u → i ≡ first (ends_past len g h) n
    unfolding ends_past
    span-start-past p = sym (first_hit (ends_past len g h) n i r.none l (lt-ltb len (start_at g h i + h i) (omega (arith, start_is))))

    pub span-past : u ≤ len → len - u < y → i ≡ first (ends_past len g h) n
    unfolding ends_past
    span-past p q = sym (first_hit (ends_past len g h) n i r.none l (lt-ltb len (start_at g h i + h i) (omega (arith, start_is))))

    not_outside : u + y ≤ len → ends_past len g h i ≡ false
    unfolding ends_past
    not_outside p = le-ltb len (start_at g h i + h i) (omega (arith, start_is))

    pub span-turn : u ≤ len → y ≤ len - u → len ≤ most_shard_bytes → Span g h len n (i + 1) (u + y)
    span-turn p q f =
        let t = r.total in
        let a = sum_step g i in
        let b = sum_step h i in
        record { within = omega arith; total = omega arith; none = any-more (ends_past len g h) i r.none (not_outside (omega arith)) }

-- chunks that passed can be read
pub span-readable : {base : ℕ} {d : List ℕ} (s n : ℕ) {i end : ℕ} → base ≤ most_shard_bytes → length d ≤ most_shard_bytes → s + 24 * n ≤ length d
    → Span (start_steps d s n) (sizes d s n) (length d) n i end → n ≤ i → Readable base d s n
span-readable s n b l w r h = record { near = b; short = l; whole = w; inside = span-inside r h }
