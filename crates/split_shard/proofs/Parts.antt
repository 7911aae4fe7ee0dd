-- What an answer of a pair finds lies in the data file.
use Prim.Native.Nat.{ℕ, zero, suc, ◌+◌, ◌-◌, ◌≤◌}
use mathlib.Core.Path.{◌≡◌, refl, sym, ap, ◌∙◌}
use mathlib.Core.Bool.{Bool}
use mathlib.Core.List.{List, ◌++◌}
use native.Mathlib.Omega.{arith}
use lib.ListN.{length, length-append}
use lib.Seq.{length-take-le}
use borrow.Author.Rules.{rules}
use Rattle.refusal.specs.Checks.{first_number, unless}
use Rattle.sharding.specs.declared.Sharding.{Sharding}
use Rattle.shard.specs.index.Index.{most_shard_bytes}
use Rattle.shard.specs.File.{index_length_of}
use Rattle.split_shard.specs.seam.Pair.{pair_checks}
use Rattle.split_shard.proofs.seam.Pairs.{checks_seamed, joined_rest}
use Rattle.lookup.specs.declared.id_search.LookupAnswer.{LookupAnswer}
use Rattle.lookup.specs.declared.id_search.LookupAnswer.TheVariants.{Found, Refused, Faulty}
use Rattle.lookup.specs.Find.{lookup_answer, part_start, part_end, part_bytes}
use Rattle.lookup.proofs.Handed.{found-file, found_inside}
use Rattle.split_shard.specs.Answers.{other_shard, pair_lookup, in_data, Behind}

-- ---- the place counted in the data file

module _ (seam : ℕ) {r : LookupAnswer} where
  module _ {a k : ℕ} (q : r ≡ Found a k) where
    pub moved-found : Found (a - seam) k ≡ in_data seam r
    moved-found = rw q

    pub moved-behind : Behind seam r → seam ≤ a
    moved-behind h = rw q at h

  pub moved-refused : {n : ℕ} → r ≡ Refused n → Refused n ≡ in_data seam r
  moved-refused q = rw q

  pub moved-faulty : {n p : ℕ} → r ≡ Faulty n p → Faulty n p ≡ in_data seam r
  moved-faulty q = rw q

pub ruleset moving = (moved-found, moved-behind, moved-refused, moved-faulty, rules)

-- the part of that place
module _ {x r : LookupAnswer} (p : x ≡ r) (d : List ℕ) where
  pub moved-end : {n : ℕ} → part_end r ≤ n → part_end x ≤ n
  moved-end h = rw p h

  pub moved-bytes : {b : List ℕ} → b ≡ part_bytes x d → b ≡ part_bytes r d
  moved-bytes e = e ∙ ap (λ (y : LookupAnswer). part_bytes y d) p

  pub moved-place : (at : ℕ) {n : ℕ} → n ≡ at + part_start x → n ≡ at + part_start r
  moved-place at e = e ∙ ap (λ (y : LookupAnswer). at + part_start y) p

pub ruleset moved = (moved-end, moved-bytes, moved-place, rules)

-- ---- an answer that finds in the data file only

pub record Lies (index d : List ℕ) (r : LookupAnswer) : Type 0 where
  pub behind : (a k : ℕ) → r ≡ Found a k → length index ≤ a
  pub inside : (a k : ℕ) → r ≡ Found a k → a + k ≤ length index + length d
  pub short : (a k : ℕ) → r ≡ Found a k → a + k ≤ most_shard_bytes

pub lies-behind : {index d : List ℕ} {r : LookupAnswer} → Lies index d r → Behind (length index) r
lies-behind {r = Found a k} h = h.behind a k refl
lies-behind {r = Refused n} h = tt
lies-behind {r = Faulty n p} h = tt

pub lies-inside : {index d : List ℕ} {r : LookupAnswer} → Lies index d r → part_end (in_data (length index) r) ≤ length d
lies-inside {r = Found a k} h = omega (arith, h.behind a k refl, h.inside a k refl)
lies-inside {r = Refused n} h = omega arith
lies-inside {r = Faulty n p} h = omega arith

pub lies-short : {index d : List ℕ} {r : LookupAnswer} → Lies index d r → part_end (in_data (length index) r) ≤ most_shard_bytes
lies-short {r = Found a k} h = omega (arith, h.short a k refl)
lies-short {r = Refused n} h = omega arith
lies-short {r = Faulty n p} h = omega arith

-- its bytes are those of the joined file
pub lies-bytes : {index d : List ℕ} {r : LookupAnswer} → Lies index d r → part_bytes (in_data (length index) r) d ≡ part_bytes r (index ++ d)
lies-bytes {index} {d} {r = Found a k} h = sym (joined_rest index d a k (h.behind a k refl))
lies-bytes {r = Refused n} h = refl
lies-bytes {r = Faulty n p} h = refl

-- ---- what is found in a pair is found in the joined file

pub record Joined (spec : Sharding) (index : List ℕ) (x : LookupAnswer) (a k : ℕ) : Type 0 where
  pub measured : length index ≡ index_length_of spec
  pub found : x ≡ Found a k

pub found_joined : (spec : Sharding) (five : Bool) (index : List ℕ) (x : LookupAnswer) {a k : ℕ} → unless Refused (first_number (pair_checks spec five index)) x ≡ Found a k
    → Joined spec index x a k
found_joined spec five index x {a} {k} e = go (first_number (pair_checks spec five index)) refl e
  where
    go : (n : ℕ) → first_number (pair_checks spec five index) ≡ n → unless Refused n x ≡ Found a k → Joined spec index x a k
    go zero z e = unfold unless in record { measured = checks_seamed spec five index z; found = e }
    go (suc n) z e = unfold unless in (let y : ◌≡◌ {A = ℕ} 0 1 = cc in absurd (omega arith))

module _ (spec : Sharding) (shard : ℕ) (index d : List ℕ) (id : ℕ) where
  pub lookup_joined : {a k : ℕ} → pair_lookup spec shard index d id ≡ Found a k → Joined spec index (lookup_answer spec shard (index ++ d) id) a k
  unfolding pair_lookup
  lookup_joined e = found_joined spec (other_shard spec shard id) index _ e

  lookup-lies : Lies index d (pair_lookup spec shard index d id)
  lookup-lies = record {
    behind = λ a k e.
        let j = lookup_joined e in
        let f = found-file spec shard (index ++ d) id a k j.found in
        omega (arith, j.measured, f.found.at.placed, length-take-le (index_length_of spec) (index ++ d) f.held);
    inside = λ a k e. omega (arith, found_inside spec shard (index ++ d) id a k (lookup_joined e).found, length-append index d);
    short = λ a k e. omega (arith, found_inside spec shard (index ++ d) id a k (lookup_joined e).found, (found-file spec shard (index ++ d) id a k (lookup_joined e).found).short);
  }

-- ---- as the code has it: r is what the call gave, x its answer

module _ (index d : List ℕ) {x r : LookupAnswer} (p : r ≡ x) where
  pub part_bytes_lem : Lies index d x → {b : List ℕ} → b ≡ part_bytes (in_data (length index) r) d → b ≡ part_bytes x (index ++ d)
  part_bytes_lem h e = e ∙ ap (λ (y : LookupAnswer). part_bytes (in_data (length index) y) d) p ∙ lies-bytes h

  pub part-place : (at : ℕ) {n : ℕ} → n ≡ at + part_start (in_data (length index) r) → n ≡ at + part_start (in_data (length index) x)
  part-place at e = e ∙ ap (λ (y : LookupAnswer). at + part_start (in_data (length index) y)) p

module _ (spec : Sharding) (shard : ℕ) (index d : List ℕ) (id : ℕ) {r : LookupAnswer} (p : r ≡ pair_lookup spec shard index d id) where
  pub given-lies : Lies index d r
  given-lies = rw p (lookup-lies spec shard index d id)

  pub lookup-behind : Behind (length index) r
  lookup-behind = lies-behind given-lies

  pub lookup-end : part_end (in_data (length index) r) ≤ length d
  lookup-end = lies-inside given-lies

  pub lookup-most : part_end (in_data (length index) r) ≤ most_shard_bytes
  lookup-most = lies-short given-lies

  pub lookup-bytes : {b : List ℕ} → b ≡ part_bytes (in_data (length index) r) d → b ≡ part_bytes (pair_lookup spec shard index d id) (index ++ d)
  lookup-bytes = part_bytes_lem index d p (lookup-lies spec shard index d id)
