-- Laws of the settled form at its end: of one list of minishards behind another, of items behind items, and of empty minishards.
use Prim.Native.Nat.{ℕ, zero, suc, ◌+◌, ◌*◌}
use mathlib.Core.Path.{◌≡◌, refl, sym}
use mathlib.Core.List.{List, [], ◌∷◌, ◌++◌, append_assoc, append-nil}
use native.Mathlib.Omega.{arith}
use native.Mathlib.Nat.{add-zero, zero-add, add_assoc}
use lib.ListN.{replicate, replicate-append-replicate}
use Rattle.endian.specs.Little.{le, row}
use Rattle.shard.specs.Items.{Item}
use Rattle.settled_form.specs.Form.{chunks_of, chunks_length, id_row, start_row, size_row, index_of, part_of, part_length_of, parts_from, parts_length, entry_begin, entry_finish, shard_index_from, settled}
use Rattle.intake.specs.waiting.Held.{pair}

-- the entry in the shard index of a minishard at the place p
abbrev pub entry_of : ℕ → List Item → List ℕ
entry_of p xs = pair (entry_begin p xs) (entry_finish p xs)

-- ---- rows and items

pub row-append : (a b : List ℕ) → row (a ++ b) ≡ row a ++ row b
unfolding row
row-append [] b = refl
row-append (n ∷ ns) b = rw (row-append ns b) (sym (append_assoc (le 8 n) (row ns) (row b)))

pub chunks-append : (a b : List Item) → chunks_of (a ++ b) ≡ chunks_of a ++ chunks_of b
unfolding chunks_of
chunks-append [] b = refl
chunks-append (x ∷ xs) b = rw (chunks-append xs b) (simp append_assoc)

pub chunks-length-append : (a b : List Item) → chunks_length (a ++ b) ≡ chunks_length a + chunks_length b
unfolding chunks_length
chunks-length-append [] b = omega arith
chunks-length-append (x ∷ xs) b = rw (chunks-length-append xs b) (omega arith)

-- ---- minishards

pub parts-length-append : (a b : List (List Item)) → parts_length (a ++ b) ≡ parts_length a + parts_length b
unfolding parts_length
parts-length-append [] b = omega arith
parts-length-append (xs ∷ c) b = rw (parts-length-append c b) (omega arith)

pub parts-append : (p : ℕ) (a b : List (List Item)) → parts_from p (a ++ b) ≡ parts_from p a ++ parts_from (p + parts_length a) b
unfolding parts_from parts_length
parts-append p [] b = rw (add-zero p)
parts-append p (xs ∷ c) b =
    rw (parts-append (p + part_length_of xs) c b, add_assoc p (part_length_of xs) (parts_length c)) (sym (append_assoc (part_of p xs) _ _))

pub entries-append : (p : ℕ) (a b : List (List Item)) → shard_index_from p (a ++ b) ≡ shard_index_from p a ++ shard_index_from (p + parts_length a) b
unfolding shard_index_from parts_length
entries-append p [] b = rw (add-zero p)
entries-append p (xs ∷ c) b = rw (entries-append (p + part_length_of xs) c b, add_assoc p (part_length_of xs) (parts_length c))

-- ---- empty minishards

abbrev pub empties : ℕ → List (List Item)
empties k = replicate k []

pub empties_length : (k : ℕ) → parts_length (empties k) ≡ 0
unfolding parts_length part_length_of chunks_length
empties_length zero = refl
empties_length (suc k) = rw (empties_length k) (omega arith)

pub empties_parts : (p k : ℕ) → parts_from p (empties k) ≡ []
unfolding parts_from part_of chunks_of index_of id_row start_row size_row row
empties_parts p zero = refl
empties_parts p (suc k) = empties_parts (p + part_length_of []) k

pub empties_entries : (p k : ℕ) → row (shard_index_from p (empties k)) ≡ replicate (16 * k) 0
unfolding shard_index_from entry_begin entry_finish row le
empties_entries p zero = refl
empties_entries p (suc k) =
    let e : 16 * suc k ≡ 16 + 16 * k = omega arith in
    rw (e, empties_entries (p + part_length_of []) k, ← replicate-append-replicate {A = ℕ} 16 (16 * k) 0)

-- ---- a minishard among others, with only empty ones behind it

module _ (a : List (List Item)) (xs : List Item) (j : ℕ) where
  pub among-length : parts_length (a ++ (xs ∷ empties j)) ≡ parts_length a + part_length_of xs
  unfolding parts_length
  among-length = rw (parts-length-append a (xs ∷ empties j), empties_length j) (omega arith)

  pub among-parts : parts_from 0 (a ++ (xs ∷ empties j)) ≡ parts_from 0 a ++ part_of (parts_length a) xs
  unfolding parts_from
  among-parts = rw (parts-append 0 a (xs ∷ empties j), empties_parts (0 + parts_length a + part_length_of xs) j, append-nil (part_of (0 + parts_length a) xs), zero-add)

  pub among-entries : row (shard_index_from 0 (a ++ (xs ∷ empties j))) ≡ row (shard_index_from 0 a) ++ (entry_of (parts_length a) xs ++ replicate (16 * j) 0)
  unfolding shard_index_from row
  among-entries =
      rw (entries-append 0 a (xs ∷ empties j), row-append (shard_index_from 0 a) _, empties_entries (0 + parts_length a + part_length_of xs) j)
      (simp (append_assoc, append-nil, zero-add))

  pub among-settled : settled (a ++ (xs ∷ empties j))
      ≡ (row (shard_index_from 0 a) ++ (entry_of (parts_length a) xs ++ replicate (16 * j) 0)) ++ (parts_from 0 a ++ part_of (parts_length a) xs)
  unfolding settled
  among-settled = rw (among-entries, among-parts)

pub empties_settled : (n : ℕ) → settled (empties n) ≡ replicate (16 * n) 0
unfolding settled
empties_settled n = rw (empties_entries 0 n, empties_parts 0 n) (append-nil _)

-- some empty ones, then an empty one, then the others
pub empties_split : (i j n : ℕ) → i + suc j ≡ n → empties n ≡ empties i ++ ([] ∷ empties j)
empties_split i j n e = rw (← e) (sym (replicate-append-replicate {A = List Item} i (suc j) []))
