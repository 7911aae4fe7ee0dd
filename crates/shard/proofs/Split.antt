-- The two parts of a file, and its length.
use Rattle.std.proofs.Common.{◌≡◌, ℕ, ◌-◌, ◌<◌, ◌≤◌, true, false, ltb, List, length, take, drop, sym, ◌∙◌, arith, length-drop, length-take-le, take_all, le-ltb, lt-ltb}
use mathlib.Core.Bool.{or-true}
use Rattle.sharding.specs.declared.Sharding.{Sharding}
use Rattle.sharding.specs.Specification.{allowed}
use Rattle.sharding.proofs.Allowed.{minishards-most}
use Rattle.shard.specs.declared.index.Fault.{Fault}
use Rattle.shard.specs.index.Index.{most_shard_bytes}
use Rattle.shard.specs.File.{index_length_of, index_part, data_part, bad_file_length}
use Rattle.shard.specs.Faults.{fault_of}

-- ---- 6, as the code finds it

pub length-short : (spec : Sharding) {n k : ℕ} → k ≡ index_length_of spec → n < k → bad_file_length spec n ≡ true
unfolding bad_file_length
length-short spec {n} {k} e l = rw (← e, lt-ltb n k l)

pub length-long : (spec : Sharding) (n : ℕ) → most_shard_bytes < n → bad_file_length spec n ≡ true
unfolding bad_file_length
length-long spec n l = rw (lt-ltb most_shard_bytes n l) (or-true (ltb n (index_length_of spec)))

pub length_good : (spec : Sharding) {n k : ℕ} → k ≡ index_length_of spec → k ≤ n → n ≤ most_shard_bytes → bad_file_length spec n ≡ false
unfolding bad_file_length
length_good spec {n} {k} e l h = rw (← e, le-ltb n k l, le-ltb most_shard_bytes n h)

-- ---- the two parts

pub index_short : (spec : Sharding) {n : ℕ} → n ≡ index_length_of spec → allowed spec ≡ true → n ≤ most_shard_bytes
index_short spec e a = omega (arith, minishards-most spec a)

-- as the code takes the data: so many bytes from n on
abbrev pub rest_of : ℕ → List ℕ → List ℕ
rest_of n file = take (length file - n) (drop n file)

pub rest-whole : (n : ℕ) (file : List ℕ) → rest_of n file ≡ drop n file
rest-whole n file = take_all (length file - n) (drop n file) (omega (arith, length-drop n file))

rest-length : (n : ℕ) (file : List ℕ) → length (rest_of n file) ≡ length file - n
rest-length n file = rw (rest-whole n file) (length-drop n file)

module _ (spec : Sharding) (file : List ℕ) {n : ℕ} (e : n ≡ index_length_of spec) where
  pub front-count : index_length_of spec ≤ length file → n ≡ length (take n file)
  front-count l = sym (length-take-le n file (omega arith))

  pub front-index : index_length_of spec ≤ length file → length (take n file) ≡ index_length_of spec
  front-index l = length-take-le n file (omega arith) ∙ e

  pub rest-short : length file ≤ most_shard_bytes → length (rest_of n file) ≤ most_shard_bytes
  rest-short l = omega (arith, rest-length n file)

  pub parts-fault : (shard m : ℕ) {r : Fault} → r ≡ fault_of spec shard (take n file) (rest_of n file) m → r ≡ fault_of spec shard (index_part spec file) (data_part spec file) m
  parts-fault shard m r = rw (rest-whole n file, e) at r
