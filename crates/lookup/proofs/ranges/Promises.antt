-- The promises of specs/ranges/Ranges.antt.
use Rattle.std.proofs.Common.{◌≡◌, ℕ, zero, suc, ◌+◌, ◌*◌, ◌%◌, ◌<◌, ◌≤◌, Bool, true, false, not, ◌||◌, eqb, List, length, sym, refl, ◌∙◌, arith}
use mathlib.Core.Bool.{or-true}
use Rattle.endian.specs.Range.{any_below}
use Rattle.refusal.specs.Choice.{pick}
use Rattle.refusal.specs.Checks.{first_number, unless}
use Rattle.sharding.specs.declared.Sharding.{Sharding}
use Rattle.sharding.specs.Specification.{is_mesh, allowed, no_such_shard}
use Rattle.sharding.specs.placement.Place.{shard_of, minishard_of}
use Rattle.sharding.proofs.placement.Placed.{minishard-below}
use Rattle.shard.specs.index.Index.{id_steps}
use Rattle.shard.specs.File.{index_part, data_part, bad_file_length, file_checks}
use Rattle.lookup.specs.declared.id_search.LookupAnswer.{LookupAnswer}
use Rattle.lookup.specs.declared.id_search.LookupAnswer.TheVariants.{Found, Refused, Faulty}
use Rattle.lookup.specs.id_search.Search.{is_id, chunk_of, found_in}
use Rattle.lookup.proofs.id_search.Seek.{found_picks}
use Rattle.lookup.proofs.chosen_minishard.InParts.{in_parts}
use Rattle.lookup.specs.Find.{lookup_answer}
use Rattle.lookup.proofs.Answers.{answer-files}
use Rattle.lookup.specs.ranges.Steps.{call_checks, entry_range, index_range, chunk_range}
use Rattle.lookup.specs.ranges.Says.{rows_say}
use Rattle.lookup.specs.ranges.Ranges.{and_then, Handed, AsLookup, RangesWithin, MeshRefused}
use Rattle.lookup.proofs.ranges.Answers.{index_picks, chunk_picks}
use Rattle.lookup.proofs.ranges.Composed.{on_range, composed}
use Rattle.lookup.proofs.ranges.Passing.{call_passed, unless-found, index-named, index_pointed, rows_inside, index-fault, rows-fault-inside}
use Rattle.lookup.proofs.ranges.Agreement.{third-agrees}

unless-then : (k start n : ℕ) (b : LookupAnswer) → and_then (unless Refused k (Found start n)) (unless Refused k b) ≡ unless Refused k b
unfolding unless
unless-then zero start n b = refl
unless-then (suc k) start n b = refl

module _ (spec : Sharding) (shard id len : ℕ) (entry rows : List ℕ) where
  -- a call that follows repeats the refusals of the calls before
  second-then-third : and_then (index_range spec shard id len entry) (chunk_range spec shard id len entry rows) ≡ chunk_range spec shard id len entry rows
  second-then-third = go (index_range spec shard id len entry) (composed spec shard id len entry rows)
    where
      go : (r : LookupAnswer) → chunk_range spec shard id len entry rows ≡ on_range r (λ at k. rows_say spec shard id len at k rows) → and_then r (chunk_range spec shard id len entry rows) ≡ chunk_range spec shard id len entry rows
      go (Found start n) e = refl
      go (Refused k) e = sym e
      go (Faulty k p) e = sym e

  first-then-third : and_then (entry_range spec shard id len) (chunk_range spec shard id len entry rows) ≡ chunk_range spec shard id len entry rows
  unfolding entry_range
  first-then-third = rw (chunk_picks spec shard id len entry rows) (unless-then (first_number (call_checks spec shard id len)) _ _ _)

  pub ranges_within : RangesWithin spec shard id len entry rows
  ranges_within = record { first = in_first; second = in_second; third = λ start n e. go start n (index_range spec shard id len entry) refl (sym (composed spec shard id len entry rows) ∙ e); second_fault = λ k p e. index-fault spec shard id len entry e; third_fault = λ k p e. faulty k p (index_range spec shard id len entry) refl (sym (composed spec shard id len entry rows) ∙ e) }
    where
      faulty : (k p : ℕ) (r : LookupAnswer) → index_range spec shard id len entry ≡ r → on_range r (λ at n. rows_say spec shard id len at n rows) ≡ Faulty k p → p + 8 ≤ len
      faulty k p (Found at n) e t = rows-fault-inside spec shard id len at n rows (index_pointed spec shard id len entry e).inside t
      faulty k p (Refused j) e t = let z : ◌≡◌ {A = ℕ} 0 1 = cc in absurd (omega arith)
      faulty k p (Faulty j q) e t = let o : q ≡ p = cc in omega (arith, index-fault spec shard id len entry e)

      in_first : (start n : ℕ) → entry_range spec shard id len ≡ Found start n → (start + 16 ≤ len) × (n ≡ 16)
      in_first start n e =
          unfold entry_range in
          let q = unless-found (first_number (call_checks spec shard id len)) e in
          let c = call_passed spec shard id len q.0 in
          let found = q.1 in
          let p : start ≡ 16 * minishard_of spec id = cc in
          (omega (arith, c.held, minishard-below spec id), cc)

      in_second : (start n : ℕ) → index_range spec shard id len entry ≡ Found start n → (start + n ≤ len) × (0 < n) × (n % 24 ≡ 0)
      in_second start n e =
          let p = index_pointed spec shard id len entry e in
          let w = index-named spec shard id len entry e in
          (p.inside, omega (arith, w.ordered, w.counted), w.whole)

      go : (start n : ℕ) (r : LookupAnswer) → index_range spec shard id len entry ≡ r → on_range r (λ at k. rows_say spec shard id len at k rows) ≡ Found start n → start + n ≤ len
      go start n (Found at k) e t = rows_inside spec shard id len at k rows (call_passed spec shard id len (index_pointed spec shard id len entry e).called).held t
      go start n (Refused k) e t = let z : ◌≡◌ {A = ℕ} 0 1 = cc in absurd (omega arith)
      go start n (Faulty k p) e t = let z : ◌≡◌ {A = ℕ} 0 1 = cc in absurd (omega arith)

  -- a mesh
  mesh_call : is_mesh spec ≡ true → first_number (call_checks spec shard id len) ≡ 1
  unfolding call_checks first_number
  mesh_call h = rw (h, or-true (not (allowed spec)))

  pub mesh-refused : is_mesh spec ≡ true → MeshRefused spec shard id len entry rows
  unfolding unless
  mesh-refused h =
      record {
        first = unfold entry_range in rw (mesh_call h);
        second = index_picks spec shard id len entry ∙ rw (mesh_call h);
        third = chunk_picks spec shard id len entry rows ∙ rw (mesh_call h);
      }

-- the plain lookup never answers 31
unless-never : (k : ℕ) (a : LookupAnswer) → k ≤ 6 → (a ≡ Refused 31 → ⊥) → unless Refused k a ≡ Refused 31 → ⊥
unfolding unless
unless-never zero a l n e = n e
unless-never (suc k) a l n e = let z : suc k ≡ 31 = cc in omega arith

fault-never : (k p : ℕ) (a : LookupAnswer) → (a ≡ Refused 31 → ⊥) → unless (λ j. Faulty j p) k a ≡ Refused 31 → ⊥
unfolding unless
fault-never zero p a n e = n e
fault-never (suc k) p a n e = let z : ◌≡◌ {A = ℕ} 0 1 = cc in omega arith

pick-never : (b : Bool) (start n : ℕ) → pick b (Refused 12) (Found start n) ≡ Refused 31 → ⊥
pick-never true start n e = let z : ◌≡◌ {A = ℕ} 12 31 = cc in omega arith
pick-never false start n e = let z : ◌≡◌ {A = ℕ} 0 1 = cc in omega arith

pick-most : (a b c : Bool) → pick a 1 (pick b 5 (pick c 6 0)) ≤ 6
pick-most true b c = omega arith
pick-most false true c = omega arith
pick-most false false true = omega arith
pick-most false false false = omega arith

module _ (spec : Sharding) (shard : ℕ) (f : List ℕ) (id : ℕ) where
  found-never : (d : List ℕ) (base s n : ℕ) → found_in base d s n id ≡ Refused 31 → ⊥
  unfolding chunk_of
  found-never d base s n e = pick-never (not (any_below n (is_id (id_steps d s) id))) _ _ (sym (found_picks base d s n id) ∙ e)

  file-most : first_number (file_checks spec (no_such_shard spec shard || not (eqb (shard_of spec id) shard)) f) ≤ 6
  unfolding file_checks first_number
  file-most = pick-most (not (allowed spec)) (no_such_shard spec shard || not (eqb (shard_of spec id) shard)) (bad_file_length spec (length f))

  lookup-never_31 : lookup_answer spec shard f id ≡ Refused 31 → ⊥
  lookup-never_31 e =
      unless-never _ _ file-most
      (λ t. fault-never _ _ _ (found-never _ _ _ _) (sym (in_parts spec shard (index_part spec f) (data_part spec f) id) ∙ t))
      (sym (answer-files spec shard f id) ∙ e)

-- the chain of the three answers
module _ {spec : Sharding} {shard id len : ℕ} {f entry rows : List ℕ} (h : Handed spec shard id len f entry rows) where
  whole : and_then (entry_range spec shard id len) (and_then (index_range spec shard id len entry) (chunk_range spec shard id len entry rows)) ≡ lookup_answer spec shard f id
  whole = rw (second-then-third spec shard id len entry rows) (first-then-third spec shard id len entry rows ∙ third-agrees spec shard id len f entry rows h)

  later : and_then (index_range spec shard id len entry) (chunk_range spec shard id len entry rows) ≡ lookup_answer spec shard f id
  later = second-then-third spec shard id len entry rows ∙ third-agrees spec shard id len f entry rows h

  pub ranges_answer_as_lookup : AsLookup spec shard id len f entry rows
  ranges_answer_as_lookup =
      record {
        chain = whole;
        third = third-agrees spec shard id len f entry rows h;
        first_refused = λ k e. sym (rw e at whole);
        second_refused = λ k e. sym (rw e at later);
        second_faulty = λ k p e. sym (rw e at later);
        right_slices = λ e. lookup-never_31 spec shard f id (sym (third-agrees spec shard id len f entry rows h) ∙ e);
      }
