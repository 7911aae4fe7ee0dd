-- What a lookup refuses with 1 to 8 depends on the file's length and the chosen minishard's entry alone.
use Prim.Native.Nat.{ℕ, ◌+◌, ◌*◌, ◌-◌, ◌≤◌, ◌<◌}
use mathlib.Core.Path.{◌≡◌, refl, sym, ap, ◌∙◌}
use mathlib.Core.Bool.{Bool, true, false, not}
use mathlib.Core.Logic.{◌⊎◌, inl, inr, ⊎_elim}
use mathlib.Core.List.{List, [], ◌∷◌, ◌++◌}
use mathlib.Core.Option.{Option}
use native.Mathlib.Omega.{arith}
use lib.ListN.{length, take, drop, length-drop}
use Rattle.refusal.specs.Choice.{pick}
use Rattle.refusal.specs.Checks.{Check, check, check_at, first_number, first_position, refusal}
use Rattle.endian.specs.Little.{le_at}
use Rattle.endian.proofs.Little.{le_at-drop, le_at-take}
use Rattle.sharding.specs.declared.Sharding.{Sharding}
use Rattle.sharding.specs.Specification.{is_mesh, allowed, minishard_count_of}
use Rattle.sharding.specs.placement.Place.{minishard_of}
use Rattle.sharding.proofs.placement.Placed.{minishard-below}
use Rattle.shard.specs.index.Index.{entry_start_of, entry_end_of, entry_count}
use Rattle.shard.specs.index.Tests.{EntryTest}
use Rattle.shard.specs.manifests.Mesh.{manifest_tests}
use Rattle.shard.specs.Faults.{bad_entry, bad_length, entry_tests}
use Rattle.shard.specs.Checks.{entry_checks, minishard_checks}
use Rattle.shard.specs.File.{index_length_of, index_part, data_part, bad_file_length, file_checks}
use Rattle.split_shard.specs.Answers.{other_shard}
use Rattle.lookup.specs.declared.id_search.LookupAnswer.TheVariants as L
use Rattle.lookup.specs.id_search.Search.{not_listed}
use Rattle.lookup.specs.chosen_minishard.Chosen.{chosen_checks}
use Rattle.lookup.specs.Find.{lookup_checks, lookup_answer}
use Rattle.lookup.specs.Lookups.{entry_bytes}
use Rattle.lookup.proofs.Refused.{lookup-refuses}

-- ---- checks with numbers from 9 on

Late : List Check → Type 0
Late [] = Unit {0}
Late (c ∷ cs) = (9 ≤ c.number) × Late cs

late_first : (cs : List Check) → Late cs → (first_number cs ≡ 0) ⊎ (9 ≤ first_number cs)
unfolding Late first_number
late_first [] h = inl refl
late_first (c ∷ cs) h = either c.holds (late_first cs h.1)
  where
    either : (b : Bool) → (first_number cs ≡ 0) ⊎ (9 ≤ first_number cs) → (pick b c.number (first_number cs) ≡ 0) ⊎ (9 ≤ pick b c.number (first_number cs))
    either true g = inr h.0
    either false g = g

LateTests : List EntryTest → Type 0
LateTests [] = Unit {0}
LateTests (t ∷ ts) = (9 ≤ t.number) × LateTests ts

late_tests : (spec : Sharding) (shard m : ℕ) (d : List ℕ) (s n : ℕ) → LateTests (entry_tests spec shard m d s n)
unfolding entry_tests LateTests
late_tests spec shard m d s n = (omega arith, (omega arith, (omega arith, go (is_mesh spec))))
  where
    go : (b : Bool) → LateTests (pick b (manifest_tests d s n) [])
    go true = unfold manifest_tests in (omega arith, (omega arith, (omega arith, (omega arith, tt))))
    go false = tt

late_entries : (p n : ℕ) (ts : List EntryTest) (cs : List Check) → LateTests ts → Late cs → Late (entry_checks p n ts ++ cs)
unfolding entry_checks Late LateTests
late_entries p n [] cs h g = g
late_entries p n (t ∷ ts) cs h g = (h.0, late_entries p n ts cs h.1 g)

-- ---- the five before them

first_five : (b1 b5 b6 b7 b8 : Bool) (p : ℕ) (xs ys : List Check) → Late xs → (k : ℕ) (q : Option ℕ) → 1 ≤ k → k ≤ 8
    → first_number (check 1 b1 ∷ check 5 b5 ∷ check 6 b6 ∷ check_at 7 b7 p ∷ check_at 8 b8 p ∷ xs) ≡ k
    → first_position (check 1 b1 ∷ check 5 b5 ∷ check 6 b6 ∷ check_at 7 b7 p ∷ check_at 8 b8 p ∷ xs) ≡ q
    → (first_number (check 1 b1 ∷ check 5 b5 ∷ check 6 b6 ∷ check_at 7 b7 p ∷ check_at 8 b8 p ∷ ys) ≡ k)
    × (first_position (check 1 b1 ∷ check 5 b5 ∷ check 6 b6 ∷ check_at 7 b7 p ∷ check_at 8 b8 p ∷ ys) ≡ q)
unfolding first_number first_position
first_five true b5 b6 b7 b8 p xs ys h k q l m e f = (e, f)
first_five false true b6 b7 b8 p xs ys h k q l m e f = (e, f)
first_five false false true b7 b8 p xs ys h k q l m e f = (e, f)
first_five false false false true b8 p xs ys h k q l m e f = (e, f)
first_five false false false false true p xs ys h k q l m e f = (e, f)
first_five false false false false false p xs ys h k q l m e f = absurd (⊎_elim (λ z. omega (arith, z)) (λ z. omega (arith, z)) (late_first xs h))

-- ---- a lookup's checks

-- a number of the entry stands in the 16 bytes of the entry
entry-number : (spec : Sharding) (m j : ℕ) (a : List ℕ) → m < minishard_count_of spec → j + 8 ≤ 16 → le_at 8 (index_part spec a) (16 * m + j) ≡ le_at 8 (take 16 (drop (16 * m) a)) j
entry-number spec m j a l h =
    le_at-take 8 a (index_length_of spec) (16 * m + j) (omega arith)
    ∙ sym (le_at-take 8 (drop (16 * m) a) 16 j h ∙ le_at-drop 8 a (16 * m) j)

module _ (spec : Sharding) (shard id : ℕ) where
  abbrev m : ℕ
  m = minishard_of spec id

  abbrev rest : List ℕ → List Check
  rest a =
      let s = entry_start_of (index_part spec a) m in
      let n = entry_count s (entry_end_of (index_part spec a) m) in
      entry_checks (length (index_part spec a) + s) n (entry_tests spec shard m (data_part spec a) s n) ++ (not_listed (data_part spec a) s n id ∷ [])

  abbrev five : List ℕ → List Check → List Check
  five a cs =
      let s = entry_start_of (index_part spec a) m in
      let e = entry_end_of (index_part spec a) m in
      check 1 (not (allowed spec)) ∷ check 5 (other_shard spec shard id) ∷ check 6 (bad_file_length spec (length a)) ∷ check_at 7 (bad_entry (data_part spec a) s e) (16 * m) ∷ check_at 8 (bad_length s e) (16 * m) ∷ cs

  checks_are : (a : List ℕ) → lookup_checks spec shard a id ≡ five a (rest a)
  unfolding lookup_checks file_checks chosen_checks minishard_checks
  checks_are a = refl

  late_rest : (a : List ℕ) → Late (rest a)
  late_rest a =
      let s = entry_start_of (index_part spec a) m in
      let n = entry_count s (entry_end_of (index_part spec a) m) in
      late_entries (length (index_part spec a) + s) n (entry_tests spec shard m (data_part spec a) s n) (not_listed (data_part spec a) s n id ∷ []) (late_tests spec shard m (data_part spec a) s n) (unfold Late in (omega arith, tt))

  module _ (a b : List ℕ) (size : length a ≡ length b) (entry : entry_bytes a m ≡ entry_bytes b m) where
    same_number : (j : ℕ) → j + 8 ≤ 16 → le_at 8 (index_part spec a) (16 * m + j) ≡ le_at 8 (index_part spec b) (16 * m + j)
    same_number j l = entry-number spec m j a (minishard-below spec id) l ∙ ap (λ (t : List ℕ). le_at 8 t j) entry ∙ sym (entry-number spec m j b (minishard-below spec id) l)

    starts-alike : entry_start_of (index_part spec a) m ≡ entry_start_of (index_part spec b) m
    starts-alike = let at : 16 * m + 0 ≡ 16 * m = omega arith in rw at at (same_number 0 (omega arith))

    ends-alike : entry_end_of (index_part spec a) m ≡ entry_end_of (index_part spec b) m
    ends-alike = same_number 8 (omega arith)

    data_alike : length (data_part spec a) ≡ length (data_part spec b)
    data_alike = length-drop (index_length_of spec) a ∙ ap (λ (n : ℕ). n - index_length_of spec) size ∙ sym (length-drop (index_length_of spec) b)

    same_five : (cs : List Check) → five a cs ≡ five b cs
    unfolding bad_entry
    same_five cs = rw (starts-alike, ends-alike, data_alike, size)

    pub entry_decides : (k : ℕ) (q : Option ℕ) → k ≤ 8 → lookup_answer spec shard a id ≡ refusal L.Refused L.Faulty k q → lookup_answer spec shard b id ≡ refusal L.Refused L.Faulty k q
    entry_decides k q l e =
        let g = ((lookup-refuses spec shard a id).decided k q).0 e in
        let s = entry_start_of (index_part spec a) m in
        let t = entry_end_of (index_part spec a) m in
        let c = checks_are a in
        let h = first_five (not (allowed spec)) (other_shard spec shard id) (bad_file_length spec (length a)) (bad_entry (data_part spec a) s t) (bad_length s t) (16 * m) (rest a) (rest b) (late_rest a) k q g.2.0 l
        (ap first_number (sym c) ∙ g.0) (ap first_position (sym c) ∙ g.1) in
        let w : lookup_checks spec shard b id ≡ five a (rest b) = checks_are b ∙ sym (same_five (rest b)) in
        ((lookup-refuses spec shard b id).decided k q).1 (ap first_number w ∙ h.0, ap first_position w ∙ h.1, g.2)
