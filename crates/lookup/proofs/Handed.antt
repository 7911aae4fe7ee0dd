-- What is handed out is the chunk of an entry of the chosen minishard, and lies within the file.
use Rattle.std.proofs.Common.{◌≡◌, ℕ, zero, suc, ◌+◌, ◌-◌, ◌≤◌, not, ◌||◌, eqb, List, [], length, take, drop, sym, refl, ap, ◌∙◌, arith, length-drop, length-take-le, drop-drop, w64, Fits}
use Rattle.refusal.specs.Checks.{unless}
use Rattle.sharding.specs.declared.Sharding.{Sharding}
use Rattle.sharding.specs.Specification.{no_such_shard}
use Rattle.sharding.specs.placement.Place.{shard_of, minishard_of}
use Rattle.shard.specs.index.Index.{entry_start_of, entry_end_of, entry_count, most_shard_bytes}
use Rattle.shard.specs.Faults.{fault_of}
use Rattle.shard.specs.File.{index_length_of, index_part, data_part}
use Rattle.shard.specs.Sound.{SoundMinishard}
use Rattle.shard.proofs.Judged.{passes-minishard}
use Rattle.shard.proofs.Numbers.{file-called}
use Rattle.lookup.specs.declared.id_search.LookupAnswer.{LookupAnswer}
use Rattle.lookup.specs.declared.id_search.LookupAnswer.TheVariants.{Found, Refused, Faulty}
use Rattle.lookup.specs.chosen_minishard.Chosen.{lookup_in}
use Rattle.lookup.specs.Find.{lookup_answer, part_start, part_end, part_bytes}
use Rattle.lookup.specs.Lookups.{chunk_count, chunk_bytes}
use Rattle.lookup.proofs.id_search.Seek.{entry_of, FoundAt, found-entry}
use Rattle.lookup.proofs.chosen_minishard.InParts.{in_parts}
use Rattle.lookup.proofs.Answers.{answer-files}

-- what is found is no refusal r
unless-found : (r : ℕ → LookupAnswer) (n : ℕ) (x : LookupAnswer) {a k : ℕ} → ((j : ℕ) → r j ≡ Found a k → ◌≡◌ {A = ℕ} 0 1) → unless r n x ≡ Found a k → (n ≡ 0) × (x ≡ Found a k)
unfolding unless
unless-found r zero x never e = (refl, e)
unless-found r (suc n) x never e = let z = never (suc n) e in absurd (omega arith)

-- what was found is the chunk of an entry of the chosen minishard, which is sound
pub record FoundIn (spec : Sharding) (shard : ℕ) (x d : List ℕ) (id a k : ℕ) : Type 0 where
  pub sound : SoundMinishard spec shard x d (minishard_of spec id)
  pub at : FoundAt (length x) d (entry_start_of x (minishard_of spec id)) (entry_count (entry_start_of x (minishard_of spec id)) (entry_end_of x (minishard_of spec id))) id a k

-- over two parts
found_in_lem : (spec : Sharding) (shard : ℕ) (x d : List ℕ) (id a k : ℕ) → lookup_in spec shard x d id ≡ Found a k → FoundIn spec shard x d id a k
found_in_lem spec shard x d id a k e =
    let m = minishard_of spec id in
    let q = unless-found (λ k. Faulty k (fault_of spec shard x d m).position) _ _ (λ j f. cc) (sym (in_parts spec shard x d id) ∙ e) in
    record { sound = passes-minishard spec shard x d m q.0; at = found-entry (length x) d (entry_start_of x m) (entry_count (entry_start_of x m) (entry_end_of x m)) id a k q.1 }

-- in a file, which then has an allowed length
pub record FoundFile (spec : Sharding) (shard : ℕ) (file : List ℕ) (id a k : ℕ) : Type 0 where
  pub held : index_length_of spec ≤ length file
  pub short : length file ≤ most_shard_bytes
  pub found : FoundIn spec shard (index_part spec file) (data_part spec file) id a k

pub found-file : (spec : Sharding) (shard : ℕ) (file : List ℕ) (id a k : ℕ) → lookup_answer spec shard file id ≡ Found a k → FoundFile spec shard file id a k
found-file spec shard file id a k e =
    let q = unless-found Refused _ _ (λ j f. cc) (sym (answer-files spec shard file id) ∙ e) in
    let c = file-called spec (no_such_shard spec shard || not (eqb (shard_of spec id) shard)) file q.0 in
    record { held = c.held; short = c.short; found = found_in_lem spec shard (index_part spec file) (data_part spec file) id a k q.1 }

-- which entry that is
abbrev pub chosen_entry : Sharding → List ℕ → ℕ → ℕ
chosen_entry spec file id = entry_of (data_part spec file) (entry_start_of (index_part spec file) (minishard_of spec id)) (chunk_count spec file (minishard_of spec id)) id

-- its bytes
pub found-bytes : {spec : Sharding} {shard : ℕ} {file : List ℕ} {id a k : ℕ} → FoundFile spec shard file id a k
    → take k (drop a file) ≡ chunk_bytes spec file (minishard_of spec id) (chosen_entry spec file id)
found-bytes {spec} {file = file} f =
    let at = f.found.at in
    rw (at.placed, at.counted, length-take-le (index_length_of spec) file f.held, ← drop-drop)

-- it lies within the file
pub found_inside : (spec : Sharding) (shard : ℕ) (file : List ℕ) (id a k : ℕ) → lookup_answer spec shard file id ≡ Found a k → a + k ≤ length file
found_inside spec shard file id a k e =
    let f = found-file spec shard file id a k e in
    let at = f.found.at in
    omega (
      arith,
      f.held,
      at.placed,
      at.counted,
      f.found.sound.inside (chosen_entry spec file id) at.among,
      length-take-le (index_length_of spec) file f.held,
      length-drop (index_length_of spec) file,
    )

-- ---- the part of an answer r

module _ {r : LookupAnswer} {a k : ℕ} (q : r ≡ Found a k) where
  pub part-inside : {n : ℕ} → part_end r ≤ n → a + k ≤ n
  part-inside l = rw q at l

  pub part-fits : part_end r ≤ most_shard_bytes → Fits w64 (a + k)
  part-fits l = let w = part-inside l in record { fits = omega arith }

  pub part_bytes_lem : (file : List ℕ) → take (a + k - a) (drop a file) ≡ part_bytes r file
  part_bytes_lem file = let same : a + k - a ≡ k = omega arith in rw (q, same)

  pub part-place : (at : ℕ) → a + at ≡ at + part_start r
  part-place at = rw q (omega arith)

module _ {r : LookupAnswer} {n : ℕ} (q : r ≡ Refused n) where
  pub none-bytes : (file : List ℕ) → [] ≡ part_bytes r file
  none-bytes file = rw q

  pub none-place : (at : ℕ) → 0 + at ≡ at + part_start r
  none-place at = rw q (omega arith)

module _ {r : LookupAnswer} {n position : ℕ} (q : r ≡ Faulty n position) where
  pub fault-bytes : (file : List ℕ) → [] ≡ part_bytes r file
  fault-bytes file = rw q

  pub fault-place : (at : ℕ) → 0 + at ≡ at + part_start r
  fault-place at = rw q (omega arith)

-- of an answer that finds within n bytes only
pub end-within : (n : ℕ) (r : LookupAnswer) → ((a k : ℕ) → r ≡ Found a k → a + k ≤ n) → part_end r ≤ n
end-within n (Found a k) h = h a k refl
end-within n (Refused number) h = omega arith
end-within n (Faulty number position) h = omega arith

-- r is what a call gave, x its answer
module _ {x r : LookupAnswer} (p : r ≡ x) where
  pub same_bytes : (file : List ℕ) {b : List ℕ} → b ≡ part_bytes r file → b ≡ part_bytes x file
  same_bytes file e = e ∙ ap (λ (y : LookupAnswer). part_bytes y file) p

  pub same_place : (at : ℕ) {n : ℕ} → n ≡ at + part_start r → n ≡ at + part_start x
  same_place at e = e ∙ ap (λ (y : LookupAnswer). at + part_start y) p

-- that of a lookup
module _ (spec : Sharding) (shard : ℕ) (file : List ℕ) (id : ℕ) {r : LookupAnswer} (p : r ≡ lookup_answer spec shard file id) where
  module _ {a k : ℕ} (q : r ≡ Found a k) where
    pub chunk_inside : a + k ≤ length file
    chunk_inside = found_inside spec shard file id a k (sym p ∙ q)

    pub chunk-short : a + k ≤ most_shard_bytes
    chunk-short = omega (arith, chunk_inside, (found-file spec shard file id a k (sym p ∙ q)).short)

  pub lookup-inside : part_end r ≤ length file
  lookup-inside = end-within (length file) r (λ a k q. chunk_inside q)

  pub lookup-short : part_end r ≤ most_shard_bytes
  lookup-short = end-within most_shard_bytes r (λ a k q. chunk-short q)
