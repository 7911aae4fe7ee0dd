-- Lengths of the settled form and of its parts.
use Prim.Native.Nat.{ℕ, zero, suc, ◌+◌, ◌*◌}
use mathlib.Core.Path.{◌≡◌, refl, ap}
use mathlib.Core.Bool.{Bool, true, false}
use mathlib.Core.List.{List, [], ◌∷◌}
use native.Mathlib.Omega.{arith}
use lib.ListN.{length, length-append}
use Rattle.refusal.specs.Choice.{pick}
use Rattle.endian.specs.Little.{row}
use Rattle.endian.proofs.Little.{length-row}
use Rattle.sharding.specs.declared.Sharding.{Sharding}
use Rattle.sharding.specs.Specification.{minishard_count_of}
use Rattle.shard.specs.Items.{Item}
use Rattle.settled_form.specs.Sorted.{not_above, insert_by, sort_by}
use Rattle.settled_form.specs.Form.{chunks_of, chunks_length, id_row, start_row, size_row, index_of, part_of, part_length_of, parts_from, parts_length, shard_index_from, settled, settled_length}
use Rattle.settled_form.specs.Content.{items_from, items_at, id_of, by_id, content_from, content_of, form_of, form_length}
use Rattle.settled_form.proofs.Sorting.{length_sort}

-- ---- a minishard

pub length-chunks : (xs : List Item) → length (chunks_of xs) ≡ chunks_length xs
unfolding chunks_of chunks_length
length-chunks [] = refl
length-chunks (x ∷ xs) = let h = length-chunks xs in simp length-append (omega arith)

pub length_ids : (before : ℕ) (xs : List Item) → length (id_row before xs) ≡ length xs
unfolding id_row
length_ids before [] = refl
length_ids before (x ∷ xs) = ap suc (length_ids x.id xs)

pub length-starts : (p : ℕ) (xs : List Item) → length (start_row p xs) ≡ length xs
unfolding start_row
length-starts p [] = refl
length-starts p (x ∷ xs) = ap suc (length-starts 0 xs)

pub length-sizes : (xs : List Item) → length (size_row xs) ≡ length xs
unfolding size_row
length-sizes [] = refl
length-sizes (x ∷ xs) = ap suc (length-sizes xs)

pub length_part : (p : ℕ) (xs : List Item) → length (part_of p xs) ≡ part_length_of xs
unfolding part_of index_of part_length_of
length_part p xs = simp (length-append, length-chunks, length-row, length_ids, length-starts, length-sizes) (omega arith)

-- ---- the whole

pub length-parts : (p : ℕ) (c : List (List Item)) → length (parts_from p c) ≡ parts_length c
unfolding parts_from parts_length
length-parts p [] = refl
length-parts p (xs ∷ c) =
    rw (length-append (part_of p xs) (parts_from (p + part_length_of xs) c), length_part p xs, length-parts (p + part_length_of xs) c)

pub length-entries : (p : ℕ) (c : List (List Item)) → length (shard_index_from p c) ≡ 2 * length c
unfolding shard_index_from
length-entries p [] = refl
length-entries p (xs ∷ c) = let h = length-entries (p + part_length_of xs) c in omega arith

pub length-shard-index : (p : ℕ) (c : List (List Item)) → length (row (shard_index_from p c)) ≡ 16 * length c
length-shard-index p c = omega (arith, length-row (shard_index_from p c), length-entries p c)

pub length-settled : (c : List (List Item)) → length (settled c) ≡ settled_length c
unfolding settled settled_length
length-settled c = omega (arith, length-append (row (shard_index_from 0 c)) (parts_from 0 c), length-shard-index 0 c, length-parts 0 c)

-- ---- in whatever order the items stand

chunks_pick : (b : Bool) (xs ys : List Item) (n : ℕ) → chunks_length xs ≡ n → chunks_length ys ≡ n → chunks_length (pick b xs ys) ≡ n
chunks_pick true xs ys n p q = p
chunks_pick false xs ys n p q = q

chunks_insert : (a : Item) (xs : List Item) → chunks_length (insert_by id_of a xs) ≡ chunks_length (a ∷ xs)
unfolding insert_by chunks_length
chunks_insert a [] = refl
chunks_insert a (x ∷ xs) =
    chunks_pick (not_above id_of a x) (a ∷ x ∷ xs) (x ∷ insert_by id_of a xs) _ refl (let h = chunks_insert a xs in omega arith)

pub chunks_by_id : (xs : List Item) → chunks_length (by_id xs) ≡ chunks_length xs
unfolding by_id sort_by chunks_length
chunks_by_id [] = refl
chunks_by_id (x ∷ xs) =
    let h = chunks_by_id xs in
    let e = chunks_insert x (sort_by id_of xs) in
    omega arith

pub length_by_id : (xs : List Item) → length (by_id xs) ≡ length xs
unfolding by_id
length_by_id xs = length_sort id_of xs

pub part_by_id : (xs : List Item) → part_length_of (by_id xs) ≡ part_length_of xs
unfolding part_length_of
part_by_id xs = rw (chunks_by_id xs, length_by_id xs)

-- ---- the content of a shard

length_items_from : (spec : Sharding) (d : List ℕ) (s n i k : ℕ) → length (items_from spec d s n i k) ≡ k
unfolding items_from
length_items_from spec d s n i zero = refl
length_items_from spec d s n i (suc k) = ap suc (length_items_from spec d s n (suc i) k)

pub length_items : (spec : Sharding) (d : List ℕ) (s n : ℕ) → length (items_at spec d s n) ≡ n
unfolding items_at
length_items spec d s n = length_items_from spec d s n 0 n

pub length-content-from : (spec : Sharding) (index d : List ℕ) (m k : ℕ) → length (content_from spec index d m k) ≡ k
unfolding content_from
length-content-from spec index d m zero = refl
length-content-from spec index d m (suc k) = ap suc (length-content-from spec index d (suc m) k)

pub length-content : (spec : Sharding) (index d : List ℕ) → length (content_of spec index d) ≡ minishard_count_of spec
unfolding content_of
length-content spec index d = length-content-from spec index d 0 (minishard_count_of spec)

-- the form is as long as its length says
pub length-form : (spec : Sharding) (index d : List ℕ) → length (form_of spec index d) ≡ form_length spec index d
unfolding form_of form_length
length-form spec index d = length-settled (content_of spec index d)
