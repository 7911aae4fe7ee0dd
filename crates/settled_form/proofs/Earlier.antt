-- The settled form of a volume is what it was before order 7, and that of a shard that passed before order 2 is what it was then.
use Prim.Native.Nat.{ℕ, zero, suc, ◌+◌, ◌<◌}
use mathlib.Core.Path.{◌≡◌, refl, ap, ◌∙◌}
use mathlib.Core.Bool.{Bool, true, false}
use mathlib.Core.List.{List, [], ◌∷◌, map}
use native.Mathlib.Omega.{arith}
use lib.ListN.{length, take, drop}
use Rattle.refusal.specs.Choice.{pick}
use Rattle.sharding.specs.declared.Sharding.{Sharding}
use Rattle.sharding.specs.Specification.{is_mesh, minishard_count_of}
use Rattle.shard.specs.index.Index.{entry_start_of, entry_end_of, entry_count, start_steps, sizes}
use Rattle.shard.specs.File.{index_part, data_part}
use Rattle.shard.specs.Items.{Item, NoLeads, item_of, item_at}
use Rattle.shard.specs.Before.{exact_start, PassedBefore}
use Rattle.shard.proofs.Leads.{volume-leads}
use Rattle.shard.proofs.Chunks.{item-pair}
use Rattle.shard.proofs.Earlier.{EarlierFrom, earlier-each}
use Rattle.settled_form.specs.Sorted.{not_above, insert_by, sort_by}
use Rattle.settled_form.specs.Form.{chunks_of, chunks_length, id_row, start_row, size_row, index_of, part_of, part_length_of, parts_from, entry_begin, entry_finish, shard_index_from, settled}
use Rattle.settled_form.specs.Content.{items_from, items_at, id_of, by_id, content_from, content_of, form_of, file_form}
use Rattle.settled_form.specs.Before.{Pair, chunks_before, chunks_length_before, id_row_before, start_row_before, size_row_before, index_before, part_before, part_length_before, parts_before, entry_begin_before, entry_finish_before, entries_before, settled_before, pairs_from, id_of_pair, pairs_of, pair_before, file_form_before, pair_before_mesh, file_form_before_mesh}

-- ---- the form of items without leads

abbrev bare : Pair → Item
bare x = record { id = x.id; lead = []; body = x.bytes }

same-chunks : (xs : List Pair) → chunks_of (map bare xs) ≡ chunks_before xs
unfolding chunks_of chunks_before
same-chunks [] = refl
same-chunks (x ∷ xs) = rw (same-chunks xs)

same-chunks-length : (xs : List Pair) → chunks_length (map bare xs) ≡ chunks_length_before xs
unfolding chunks_length chunks_length_before
same-chunks-length [] = refl
same-chunks-length (x ∷ xs) = rw (same-chunks-length xs) (omega arith)

same-id-row : (before : ℕ) (xs : List Pair) → id_row before (map bare xs) ≡ id_row_before before xs
unfolding id_row id_row_before
same-id-row before [] = refl
same-id-row before (x ∷ xs) = rw (same-id-row x.id xs)

same-start-row : (p : ℕ) (xs : List Pair) → start_row p (map bare xs) ≡ start_row_before p xs
unfolding start_row start_row_before
same-start-row p [] = refl
same-start-row p (x ∷ xs) = let z : p + 0 ≡ p = omega arith in rw (z, same-start-row 0 xs)

same-size-row : (xs : List Pair) → size_row (map bare xs) ≡ size_row_before xs
unfolding size_row size_row_before
same-size-row [] = refl
same-size-row (x ∷ xs) = rw (same-size-row xs)

same_count : (xs : List Pair) → length (map bare xs) ≡ length xs
same_count [] = refl
same_count (x ∷ xs) = rw (same_count xs)

same-part : (p : ℕ) (xs : List Pair) → part_of p (map bare xs) ≡ part_before p xs
unfolding part_of part_before index_of index_before
same-part p xs = rw (same-chunks xs, same-id-row 0 xs, same-start-row p xs, same-size-row xs)

same-part-length : (xs : List Pair) → part_length_of (map bare xs) ≡ part_length_before xs
unfolding part_length_of part_length_before
same-part-length xs = rw (same-chunks-length xs, same_count xs)

same_parts : (p : ℕ) (content : List (List Pair)) → parts_from p (map (map bare) content) ≡ parts_before p content
unfolding parts_from parts_before
same_parts p [] = refl
same_parts p (xs ∷ more) = rw (same-part p xs, same-part-length xs, same_parts (p + part_length_before xs) more)

same-begin : (p : ℕ) (xs : List Pair) → entry_begin p (map bare xs) ≡ entry_begin_before p xs
unfolding entry_begin entry_begin_before
same-begin p [] = refl
same-begin p (x ∷ xs) = ap (λ (k : ℕ). p + k) (same-chunks-length (x ∷ xs))

same-finish : (p : ℕ) (xs : List Pair) → entry_finish p (map bare xs) ≡ entry_finish_before p xs
unfolding entry_finish entry_finish_before
same-finish p [] = refl
same-finish p (x ∷ xs) = ap (λ (k : ℕ). p + k) (same-part-length (x ∷ xs))

same_entries : (p : ℕ) (content : List (List Pair)) → shard_index_from p (map (map bare) content) ≡ entries_before p content
unfolding shard_index_from entries_before
same_entries p [] = refl
same_entries p (xs ∷ more) = rw (same-begin p xs, same-finish p xs, same-part-length xs, same_entries (p + part_length_before xs) more)

same-settled : (content : List (List Pair)) → settled (map (map bare) content) ≡ settled_before content
unfolding settled settled_before
same-settled content = rw (same_entries 0 content, same_parts 0 content)

-- ---- their order

map-pick : (t : Bool) (u v : List Pair) → pick t (map bare u) (map bare v) ≡ map bare (pick t u v)
map-pick true u v = refl
map-pick false u v = refl

same_insert : (a : Pair) (xs : List Pair) → insert_by id_of (bare a) (map bare xs) ≡ map bare (insert_by id_of_pair a xs)
unfolding insert_by not_above
same_insert a [] = refl
same_insert a (x ∷ xs) = rw (same_insert a xs) (map-pick (not_above id_of_pair a x) (a ∷ x ∷ xs) (x ∷ insert_by id_of_pair a xs))

same_sort : (xs : List Pair) → sort_by id_of (map bare xs) ≡ map bare (sort_by id_of_pair xs)
unfolding sort_by
same_sort [] = refl
same_sort (x ∷ xs) = rw (same_sort xs) (same_insert x (sort_by id_of_pair xs))

-- ---- a shard of which each entry lists what the pair says

module _ (spec : Sharding) (pair : List ℕ → ℕ → ℕ → ℕ → Pair) where
  same-items : (d : List ℕ) (s n i k : ℕ) → ((j : ℕ) → j < i + k → item_at spec d s n j ≡ bare (pair d s n j)) → items_from spec d s n i k ≡ map bare (pairs_from (pair d s n) i k)
  unfolding items_from pairs_from
  same-items d s n i zero g = refl
  same-items d s n i (suc k) g = rw (g i (omega arith), same-items d s n (suc i) k (λ j l. g j (omega arith)))

  -- in minishard m
  abbrev Same : List ℕ → List ℕ → ℕ → Type 0
  Same index d m = (i : ℕ) → i < entry_count (entry_start_of index m) (entry_end_of index m)
      → item_at spec d (entry_start_of index m) (entry_count (entry_start_of index m) (entry_end_of index m)) i ≡ bare (pair d (entry_start_of index m) (entry_count (entry_start_of index m) (entry_end_of index m)) i)

  same-content : (index d : List ℕ) (m k : ℕ) → ((j : ℕ) → j < m + k → Same index d j) → content_from spec index d m k ≡ map (map bare) (pairs_of pair index d m k)
  unfolding content_from pairs_of items_at by_id
  same-content index d m zero g = refl
  same-content index d m (suc k) g =
      let s = entry_start_of index m in
      let n = entry_count s (entry_end_of index m) in
      rw (same-items d s n 0 n (λ j l. g m (omega arith) j (omega arith)), same_sort (pairs_from (pair d s n) 0 n), same-content index d (suc m) k (λ j l. g j (omega arith)))

  same-form : (file : List ℕ) → ((m : ℕ) → m < minishard_count_of spec → Same (index_part spec file) (data_part spec file) m)
      → file_form spec file ≡ settled_before (pairs_of pair (index_part spec file) (data_part spec file) 0 (minishard_count_of spec))
  unfolding form_of content_of
  same-form file g =
      ap settled (same-content (index_part spec file) (data_part spec file) 0 (minishard_count_of spec) (λ j l. g j (omega arith)))
      ∙ same-settled (pairs_of pair (index_part spec file) (data_part spec file) 0 (minishard_count_of spec))

-- ---- what passed before order 2

-- nothing goes with a chunk of a volume
same_item : (spec : Sharding) → NoLeads spec → (d : List ℕ) (s e i : ℕ) → EarlierFrom d s e → i < entry_count s e → item_at spec d s (entry_count s e) i ≡ bare (pair_before d s (entry_count s e) i)
unfolding item_at item_of pair_before
same_item spec none d s e i g l = rw (g.ids i l, g.starts i l, none (take (sizes d s (entry_count s e) i) (drop (exact_start (start_steps d s (entry_count s e)) (sizes d s (entry_count s e)) i) d)))

pub earlier-form : (spec : Sharding) (shard : ℕ) (file : List ℕ) → PassedBefore spec shard file → file_form spec file ≡ file_form_before spec file
unfolding file_form_before
earlier-form spec shard file z =
    same-form spec pair_before file
    (λ m l i h. same_item spec (volume-leads spec (rw z.volumes refl)) (data_part spec file) (entry_start_of (index_part spec file) m) (entry_end_of (index_part spec file) m) i (earlier-each spec shard file z m l) h)

-- ---- any volume

pub volume-form : (spec : Sharding) (file : List ℕ) → is_mesh spec ≡ false → file_form spec file ≡ file_form_before_mesh spec file
unfolding file_form_before_mesh pair_before_mesh
volume-form spec file v = same-form spec pair_before_mesh file (λ m l i h. item-pair spec (volume-leads spec v) (data_part spec file) _ _ i)
