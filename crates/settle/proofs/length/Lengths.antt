-- The lengths of a shard's minishards, and a turn over the minishards that adds them up.
use Rattle.std.proofs.Common.{◌≡◌, ℕ, suc, ◌+◌, ◌-◌, ◌*◌, ◌/◌, ◌<◌, ◌≤◌, true, ◌⊎◌, List, [], ◌∷◌, length, refl, ap, ◌∙◌, ⊎_elim, eq-or-lt_of_le, add-one, arith, rules}
use native.Mathlib.Nat.{sub-zero}
use Rattle.sharding.specs.declared.Sharding.{Sharding}
use Rattle.sharding.specs.Specification.{allowed, minishard_count_of}
use Rattle.shard.specs.index.Index.{entry_start_of, entry_end_of, entry_count, most_shard_bytes}
use Rattle.shard.specs.Items.{Item}
use Rattle.settled_form.specs.Form.{chunks_length, part_length_of, parts_length, settled_length}
use Rattle.settled_form.specs.Content.{items_at, items_of, by_id, content_from, content_of, form_length}
use Rattle.settle.specs.length.Settleable.{Settleable, SettleableIn, SettleableParts, SettleableShard, one_length, whole_length}
use Rattle.settled_form.proofs.Measures.{length_items, part_by_id, length-content}
use Rattle.settle.specs.minishard_length.Writing.{ReadableIndex, LeadsIn, minishard_length, capped}
use Rattle.settle.proofs.stored.StoredRows.{items_none, items_all}

-- ---- one minishard

pub stored-length : (spec : Sharding) (d : List ℕ) (s n : ℕ) → part_length_of (items_at spec d s n) ≡ minishard_length spec d s n
unfolding part_length_of
stored-length spec d s n = rw (length_items spec d s n)

pub sorted-length : (spec : Sharding) (index d : List ℕ) (m : ℕ) → part_length_of (by_id (items_of spec index d m)) ≡ one_length spec index d m
sorted-length spec index d m = part_by_id (items_of spec index d m) ∙ stored-length spec d (entry_start_of index m) (entry_count (entry_start_of index m) (entry_end_of index m))

-- a minishard that is not empty has entries, and all of its minishard index
readable : (spec : Sharding) (d : List ℕ) (s e : ℕ) → Settleable spec d s e → (s ≡ e → ⊥) → ReadableIndex d s (entry_count s e)
readable spec d s e t h =
    let o = t.ordered in
    let w = t.whole in
    let l : e ≤ length d = ⊎_elim (λ q. absurd (h q)) (λ q. q) t.within in
    let k : s < e = ⊎_elim (λ q. absurd (h q)) (λ q. q) (apart s e o) in
    record { some = omega arith; index = omega arith; inside = t.inside }
  where
    apart : (a b : ℕ) → a ≤ b → (a ≡ b) ⊎ (a < b)
    apart a b q = eq-or-lt_of_le q

pub none_items : (spec : Sharding) (d : List ℕ) (s e : ℕ) → s ≡ e → items_at spec d s (entry_count s e) ≡ []
none_items spec d s e q = items_all spec d s (entry_count s e) ∙ items_none spec d s (entry_count s e) 0 (entry_count s e) (omega arith)

none-length : (spec : Sharding) (d : List ℕ) (s e : ℕ) → s ≡ e → 0 ≡ minishard_length spec d s (entry_count s e)
unfolding chunks_length
none-length spec d s e q = rw (none_items spec d s e q) (omega arith)

-- of a minishard whose entry was read: s and e are what was read
module _ (spec : Sharding) (index d : List ℕ) (m : ℕ) {s e : ℕ} (es : s ≡ entry_start_of index m) (ee : e ≡ entry_end_of index m) where
  pub ordered-read : SettleableIn spec index d m → s ≤ e
  ordered-read t = rw (es, ee) t.ordered

  pub readable-read : SettleableIn spec index d m → (s ≡ e → ⊥) → ReadableIndex d s ((e - s) / 24)
  readable-read t h = readable spec d s e (rw (es, ee) t) h

  pub leads-read : SettleableIn spec index d m → LeadsIn spec d s ((e - s) / 24)
  leads-read t = record { led = rw (es, ee) t.led }

  pub none-length-read : s ≡ e → 0 ≡ one_length spec index d m
  none-length-read q = none-length spec d (entry_start_of index m) (entry_end_of index m) (rw (es, ee) at q)

  pub none-capped-read : s ≡ e → 0 ≡ capped (one_length spec index d m)
  none-capped-read q = omega (arith, none-length-read q)

  pub capped-read : {len : ℕ} → len ≡ capped (minishard_length spec d s ((e - s) / 24)) → len ≡ capped (one_length spec index d m)
  capped-read h = h ∙ rw (es, ee)

pub ruleset reading = (ordered-read, readable-read, leads-read, none-capped-read, capped-read, rules)

-- ---- the shard

content-cons : (spec : Sharding) (index d : List ℕ) (m k : ℕ) → content_from spec index d m (suc k) ≡ by_id (items_of spec index d m) ∷ content_from spec index d (suc m) k
unfolding content_from
content-cons spec index d m k = refl

pub content-none : (spec : Sharding) (index d : List ℕ) (m k : ℕ) → k ≡ 0 → content_from spec index d m k ≡ []
unfolding content_from
content-none spec index d m k e = rw e

pub length-nil : (c : List (List Item)) → c ≡ [] → parts_length c ≡ 0
unfolding parts_length
length-nil c e = rw e

pub length-cons : (xs : List Item) (c : List (List Item)) → parts_length (xs ∷ c) ≡ part_length_of xs + parts_length c
unfolding parts_length
length-cons xs c = refl

-- minishards from m on
abbrev pub from : Sharding → List ℕ → List ℕ → ℕ → ℕ → List (List Item)
from spec index d n m = content_from spec index d m (n - m)

module _ (spec : Sharding) (index d : List ℕ) (n m : ℕ) (l : m < n) where
  pub from_cons : from spec index d n m ≡ by_id (items_of spec index d m) ∷ from spec index d n (m + 1)
  from_cons =
      let e : n - m ≡ suc (n - (m + 1)) = omega arith in
      rw (e, content-cons spec index d m (n - (m + 1)), add-one m)

  pub length-next : parts_length (from spec index d n m) ≡ one_length spec index d m + parts_length (from spec index d n (m + 1))
  length-next = rw from_cons (length-cons _ _ ∙ rw (sorted-length spec index d m))

pub length_none : (spec : Sharding) (index d : List ℕ) (n m : ℕ) → n ≤ m → parts_length (from spec index d n m) ≡ 0
length_none spec index d n m l = length-nil (from spec index d n m) (content-none spec index d m (n - m) (omega arith))

module _ {spec : Sharding} {index d : List ℕ} {n m : ℕ} (a : SettleableParts spec index d n) (l : m < n) where
  pub each_at : SettleableIn spec index d m
  each_at = a.each m l

  pub entry_at : 16 * m + 16 ≤ length index
  entry_at = omega (arith, a.held)

-- ---- the loop that adds up the lengths, up to the first one that is refused

pub record Summing (spec : Sharding) (index d : List ℕ) (n m sum : ℕ) : Type 0 where
  pub below : m ≤ n
  pub most : sum ≤ most_shard_bytes + 1
  pub left : capped (sum + parts_length (from spec index d n m)) ≡ capped (whole_length spec index d n)

pub summing_first : (spec : Sharding) (index d : List ℕ) (n : ℕ) {sum : ℕ} → sum ≡ capped (0 + 16 * n) → Summing spec index d n 0 sum
summing_first spec index d n e = record { below = omega arith; most = omega arith; left = rw sub-zero (omega arith) }

pub summing_next : {spec : Sharding} {index d : List ℕ} {n m sum : ℕ} → Summing spec index d n m sum → m < n → (len : ℕ) {sum' : ℕ} → len ≡ capped (one_length spec index d m) → sum' ≡ capped (sum + len)
    → Summing spec index d n (m + 1) sum'
summing_next {spec} {index} {d} {n} {m} {sum} h l len {sum'} el e =
    let t = length-next spec index d n m l in
    let g : capped (sum + (one_length spec index d m + parts_length (from spec index d n (m + 1)))) ≡ capped (whole_length spec index d n) = rw t at h.left in
    record { below = omega arith; most = omega arith; left = step sum (one_length spec index d m) (parts_length (from spec index d n (m + 1))) len sum' el e ∙ g }
  where
    step : (a x r len b : ℕ) → len ≡ capped x → b ≡ capped (a + len) → capped (b + r) ≡ capped (a + (x + r))
    step a x r len b p q = omega arith

pub summed : {spec : Sharding} {index d : List ℕ} {n m sum : ℕ} → Summing spec index d n m sum → n ≤ m → sum ≡ capped (whole_length spec index d n)
summed {spec} {index} {d} {n} {m} h l = let g = h.most in omega (arith, h.left, length_none spec index d n m l)

pub ruleset summing = (summing_first, summing_next, summed, each_at, entry_at, rules)

-- ---- of n minishards, where n is the number that the specification gives

pub permitted-shard : {spec : Sharding} {index d : List ℕ} → SettleableShard spec index d → allowed spec ≡ true
permitted-shard h = h.permitted

module _ (spec : Sharding) (index d : List ℕ) {n : ℕ} (e : n ≡ minishard_count_of spec) where
  pub whole-content : content_from spec index d 0 n ≡ content_of spec index d
  unfolding content_of
  whole-content = rw e

  pub whole_length_lem : whole_length spec index d n ≡ form_length spec index d
  unfolding form_length settled_length
  whole_length_lem = rw whole-content (omega (arith, length-content spec index d))

  pub parts-counted : SettleableShard spec index d → SettleableParts spec index d n
  parts-counted h = rw e h.parts

  pub capped-counted : {r : ℕ} → r ≡ capped (whole_length spec index d n) → r ≡ capped (form_length spec index d)
  capped-counted h = h ∙ ap (λ (x : ℕ). capped x) whole_length_lem

pub ruleset counting = (permitted-shard, parts-counted, capped-counted, rules)
