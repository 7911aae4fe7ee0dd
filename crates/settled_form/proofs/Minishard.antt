-- One minishard of a settled form: what its minishard index says is what its items are.
use Prim.Native.Nat.{ℕ, suc, ◌+◌, ◌*◌, ◌-◌, ◌^◌, ◌<◌}
use mathlib.Core.Path.{◌≡◌, ◌∙◌}
use mathlib.Core.List.{List, ◌++◌}
use native.Mathlib.Omega.{arith}
use lib.ListN.{length, get_or, take, drop}
use Rattle.endian.specs.Little.{row}
use Rattle.endian.specs.Place.{Holds}
use Rattle.endian.proofs.Little.{length-row}
use Rattle.endian.proofs.Holds.{holds-left, holds_right, holds_move, holds_row}
use Rattle.sharding.specs.declared.Sharding.{Sharding}
use Rattle.shard.specs.index.Index.{id_steps, start_steps, sizes, id_at, start_at, chunk_at}
use Rattle.shard.specs.Items.{Item}
use Rattle.settled_form.specs.Form.{chunks_of, chunks_length, id_row, start_row, size_row, index_of, part_of}
use Rattle.settled_form.proofs.Sorting.{member-at}
use Rattle.settled_form.proofs.Measures.{length-chunks, length_ids, length-starts, length-sizes}
use Rattle.settled_form.proofs.Rows.{no_item, InForm, sum_to-row, fit-ids, fit-starts, fit-sizes, sum-ids, offset, offset-size, sum-starts, size_of, holds-body, holds-lead}

-- what is read of item i, from the minishard index at s, in a minishard of the items xs that begins at p
pub record ReadsItem (d : List ℕ) (p s : ℕ) (xs : List Item) (i : ℕ) : Type 0 where
  pub the_id : id_at (id_steps d s) i ≡ (get_or xs i no_item).id
  pub the_start : start_at (start_steps d s (length xs)) (sizes d s (length xs)) i ≡ p + offset xs i
  pub the_size : sizes d s (length xs) i ≡ length (get_or xs i no_item).body
  pub the_lead : take (length (get_or xs i no_item).lead) (drop (start_at (start_steps d s (length xs)) (sizes d s (length xs)) i - length (get_or xs i no_item).lead) d) ≡ (get_or xs i no_item).lead
  pub the_body : chunk_at d s (length xs) i ≡ (get_or xs i no_item).body

module _ (d : List ℕ) (p : ℕ) (xs : List Item) (h : Holds d p (part_of p xs)) {spec : Sharding} (r : InForm spec xs) (b : p + chunks_length xs < 2 ^ 64) where
  unfoldable s : ℕ
  s = p + chunks_length xs

  holds-chunks : Holds d p (chunks_of xs)
  unfolding part_of
  holds-chunks = holds-left (index_of p xs) h

  holds-index : Holds d s (row (id_row 0 xs) ++ (row (start_row p xs) ++ row (size_row xs)))
  unfolding part_of index_of s
  holds-index = rw length-chunks at (holds_right (chunks_of xs) h)

  holds-ids : Holds d s (row (id_row 0 xs))
  holds-ids = holds-left (row (start_row p xs) ++ row (size_row xs)) holds-index

  holds-rest : Holds d (s + 8 * length xs) (row (start_row p xs) ++ row (size_row xs))
  holds-rest = simp (length-row, length_ids) at (holds_right (row (id_row 0 xs)) holds-index)

  holds-starts : Holds d (s + 8 * length xs) (row (start_row p xs))
  holds-starts = holds-left (row (size_row xs)) holds-rest

  holds-sizes : Holds d (s + 16 * length xs) (row (size_row xs))
  holds-sizes = holds_move (holds_right (row (start_row p xs)) holds-rest) (omega (arith, length-row (start_row p xs), length-starts p xs))

  module _ (i : ℕ) (l : i < length xs) where
    reads-id : id_at (id_steps d s) i ≡ (get_or xs i no_item).id
    unfolding id_at
    reads-id =
        let u = sum_to-row (id_row 0 xs) (suc i) (fit-ids 0 xs r.bounded) holds-ids (omega (arith, length_ids 0 xs)) in
        let t = sum-ids 0 xs i (λ x m. omega arith) r.rising l in
        let f = r.bounded (get_or xs i no_item) (member-at no_item xs i l) in
        omega arith

    reads-start : start_at (start_steps d s (length xs)) (sizes d s (length xs)) i ≡ p + offset xs i
    unfolding start_at
    reads-start =
        let u = sum_to-row (start_row p xs) (suc i) (fit-starts p xs b) holds-starts (omega (arith, length-starts p xs)) in
        let t = sum_to-row (size_row xs) i (fit-sizes xs (omega arith)) holds-sizes (omega (arith, length-sizes xs)) in
        let w = sum-starts p xs i l in
        let f = offset-size xs i l in
        omega arith

    reads-size : sizes d s (length xs) i ≡ length (get_or xs i no_item).body
    reads-size = holds_row (size_row xs) i (fit-sizes xs (omega arith)) holds-sizes (omega (arith, length-sizes xs)) ∙ size_of xs i l

    reads-body : chunk_at d s (length xs) i ≡ (get_or xs i no_item).body
    reads-body = rw (reads-size, reads-start) (holds-body xs i holds-chunks l).here

    reads-lead : take (length (get_or xs i no_item).lead) (drop (start_at (start_steps d s (length xs)) (sizes d s (length xs)) i - length (get_or xs i no_item).lead) d) ≡ (get_or xs i no_item).lead
    reads-lead = rw reads-start (holds-lead xs i holds-chunks l).here

    pub reads : ReadsItem d p (p + chunks_length xs) xs i
    unfolding s
    reads = record { the_id = reads-id; the_start = reads-start; the_size = reads-size; the_lead = reads-lead; the_body = reads-body }
