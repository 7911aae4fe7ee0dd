-- A minishard written with its entries sorted: rows, items and start steps, ids.
use Rattle.std.proofs.Common.{◌≡◌, ℕ, suc, ◌+◌, ◌-◌, ◌*◌, ◌<◌, ◌≤◌, List, [], ◌∷◌, ◌++◌, map, length, get_or, take, drop, sym, refl, ap, ◌∙◌, append_assoc, arith, length-append, length-take-le, take-take, drop_at, w8, Fits}
use mathlib.Core.List.Memᴰ
use lib.ListN.{length-map}
use lib.Seq.{take-append-le}
use Rattle.endian.specs.Little.{le_at, row, row_at}
use Rattle.endian.specs.Place.{paste}
use Rattle.endian.proofs.Little.{length-row}
use Rattle.endian.proofs.Paste.{paste-then, paste-on, paste-apart, length-paste}
use Rattle.sharding.specs.declared.Sharding.{Sharding}
use Rattle.shard.specs.index.Index.{most_shard_bytes}
use Rattle.shard.proofs.Items.{item-size}
use Rattle.settled_form.specs.Form.{chunks_of, chunks_length, id_row, start_row, size_row, index_of, part_of}
use Rattle.settled_form.specs.Sorted.{Member, Distinct}
use Rattle.settled_form.specs.Content.{items_at, by_id}
use Rattle.settled_form.proofs.Sorting.{rising_sort, rising-later}
use Rattle.settled_form.proofs.Measures.{length-chunks, length_ids, length-starts, chunks_by_id}
use Rattle.index_sort.specs.declared.three_rows.Entry.{Entry}
use Rattle.index_sort.specs.three_rows.Rows.{id_of, entries_at, rows_of, Only, no_entry, nth}
use Rattle.index_sort.specs.phases.Rows.{sort_by_id}
use Rattle.index_sort.proofs.three_rows.Bytes.{length-entries, entry-is, only_then, rows_written}
use Rattle.settle.specs.minishard_length.Writing.{ReadableIndex, LeadsIn, Apart, minishard_length, capped}
use Rattle.settle.specs.item_runs.Named.{item_from, named, InData}
use Rattle.settle.specs.sorted.Reordered.{stored_entries, SortedRows, RisingRow, steps_from}
use Rattle.settle.proofs.sorted.Naming.{named-sorted, length-sorted, distinct-stored, inside-sorted}
use Rattle.settle.proofs.item_runs.Copying.{read-after, read-before}
use Rattle.settle.proofs.sorted.Stepping.{steps-ids, steps-same}

-- ---- the rows, sorted

module _ (d : List ℕ) (s n : ℕ) (o₁ : List ℕ) (q : ℕ) (e₁ : entries_at o₁ q n ≡ stored_entries d s n) where
  pub rows-distinct : Apart d s n → Distinct id_of (entries_at o₁ q n)
  rows-distinct a = rw e₁ (distinct-stored d s n a)

  pub rows-sorted : {o o₂ : List ℕ} → Only q (24 * n) o o₁ → entries_at o₂ q n ≡ sort_by_id (entries_at o₁ q n) → Only q (24 * n) o₁ o₂ → SortedRows d s n o q o₂
  rows-sorted w₁ e₂ w₂ = record { entries = e₂ ∙ ap (λ (z : List Entry). sort_by_id z) e₁; only = only_then w₁ w₂ }

-- ---- the row of sizes

named-length : (spec : Sharding) (d : List ℕ) (es : List Entry) → length (named spec d es) ≡ length es
unfolding named
named-length spec d es = length-map es (item_from spec d)

sizes-of : (spec : Sharding) (d : List ℕ) (es : List Entry) → ((e : Entry) → Member e es → e.start + e.size ≤ length d) → map (λ (e : Entry). e.size) es ≡ size_row (named spec d es)
unfolding size_row named
sizes-of spec d [] h = refl
sizes-of spec d (e ∷ es) h = rw (item-size spec d e.id e.start e.size (h e (Memᴰ.head refl)), sizes-of spec d es (λ x m. h x (Memᴰ.tail m)))

-- ---- the whole minishard

-- a write that covers the front of another, and goes up to the rest of it
paste-cover : (at q : ℕ) (U F Z o : List ℕ) → at ≤ q → at + length U ≡ q + length F → q + length (F ++ Z) ≤ length o → paste at U (paste q (F ++ Z) o) ≡ paste at (U ++ Z) o
unfolding paste
paste-cover at q U F Z o h e l =
    let a = length-append F Z in
    let b = length-append U Z in
    let t : length (take q o) ≡ q = length-take-le q o (omega arith) in
    let x : take at (take q o ++ ((F ++ Z) ++ drop (q + length (F ++ Z)) o)) ≡ take at o = take-append-le at (take q o) _ (omega arith) ∙ take-take at q o h in
    let m : take q o ++ ((F ++ Z) ++ drop (q + length (F ++ Z)) o) ≡ (take q o ++ F) ++ (Z ++ drop (q + length (F ++ Z)) o) = simp append_assoc in
    let g : length (take q o ++ F) ≡ at + length U = length-append (take q o) F ∙ omega arith in
    let y : drop (at + length U) (take q o ++ ((F ++ Z) ++ drop (q + length (F ++ Z)) o)) ≡ Z ++ drop (q + length (F ++ Z)) o =
    ap (drop (at + length U)) m ∙ drop_at (take q o ++ F) (Z ++ drop (q + length (F ++ Z)) o) (at + length U) g in
    let k : q + length (F ++ Z) ≡ at + length (U ++ Z) = omega arith in
    rw (x, y, k) (simp append_assoc)

module _ (spec : Sharding) {d : List ℕ} {s n : ℕ} {o : List ℕ} {q : ℕ} {o₂ : List ℕ} (t : SortedRows d s n o q o₂) where
  pub sorted-inside : ReadableIndex d s n → LeadsIn spec d s n → InData spec d (entries_at o₂ q n)
  sorted-inside r g = rw t.entries (inside-sorted d s n r g)

  chunks_are : chunks_length (named spec d (entries_at o₂ q n)) ≡ chunks_length (items_at spec d s n)
  chunks_are = rw (t.entries, named-sorted spec d s n) (chunks_by_id (items_at spec d s n))

  -- they stand behind the chunks, by the minishard's length as it was counted
  module _ (at len : ℕ) (eq : q ≡ at + (len - 24 * n)) (el : len ≡ capped (minishard_length spec d s n)) (most : minishard_length spec d s n ≤ most_shard_bytes) where
    behind : q ≡ at + chunks_length (items_at spec d s n)
    behind = omega arith

    pub sorted_before : at + chunks_length (named spec d (entries_at o₂ q n)) ≤ q
    sorted_before = omega (arith, chunks_are, behind)

    module _ (p : ℕ) (a : q + 24 * n ≤ length o) {o₃ : List ℕ}
        (w₃ : o₃ ≡ paste at (chunks_of (named spec d (entries_at o₂ q n))) (paste (q + 8 * n) (row (start_row p (named spec d (entries_at o₂ q n)))) o₂)) where
      abbrev A : List ℕ
      A = chunks_of (named spec d (entries_at o₂ q n))

      abbrev C : List ℕ
      C = row (start_row p (named spec d (entries_at o₂ q n)))

      chunks-length : length A ≡ chunks_length (items_at spec d s n)
      chunks-length = length-chunks (named spec d (entries_at o₂ q n)) ∙ chunks_are

      starts-length : length C ≡ 8 * n
      starts-length =
          length-row (start_row p (named spec d (entries_at o₂ q n)))
          ∙ ap (λ (z : ℕ). 8 * z) (length-starts p (named spec d (entries_at o₂ q n)) ∙ named-length spec d (entries_at o₂ q n) ∙ length-entries o₂ q n)

      started_length : length (paste (q + 8 * n) C o₂) ≡ length o
      started_length = length-paste (q + 8 * n) C o₂ (omega (arith, starts-length, t.only.long)) ∙ t.only.long

      -- the ids still stand there
      copied-ids : (j : ℕ) → j < n → row_at o₃ q j ≡ row_at o₂ q j
      copied-ids j l =
          let c = chunks-length in
          let f = behind in
          ap (λ (z : List ℕ). le_at 8 z (q + 8 * j)) w₃
          ∙ read-after at A (paste (q + 8 * n) C o₂) (q + 8 * j) (omega (arith, started_length)) (omega arith)
          ∙ read-before (q + 8 * n) C o₂ (q + 8 * j) (omega (arith, t.only.long)) (omega arith)

      pub copied-room : q + 8 * n ≤ length o₃
      copied-room =
          let c = chunks-length in
          let f = behind in
          omega (arith, ap length w₃ ∙ length-paste at A (paste (q + 8 * n) C o₂) (omega (arith, started_length)), started_length)

      pub copied-rising : Apart d s n → RisingRow (row_at o₃ q) n
      copied-rising f = record {
        up = λ i l.
            let k = length-sorted d s n in
            let up = rising-later id_of no_entry (sort_by_id (stored_entries d s n)) i (suc i) (omega arith) (omega arith) (rising_sort id_of (stored_entries d s n) (distinct-stored d s n f)) in
            let x = ap id_of (sym (entry-is o₂ q n i (omega arith)) ∙ ap (λ (z : List Entry). nth z i) t.entries) in
            let y = ap id_of (sym (entry-is o₂ q n (suc i) l) ∙ ap (λ (z : List Entry). nth z (suc i)) t.entries) in
            omega (arith, x, y, copied-ids i (omega arith), copied-ids (suc i) l);
      }

      module _ {o₄ : List ℕ} (w₄ : o₄ ≡ paste q (row (steps_from (row_at o₃ q) 0 0 n)) o₃) where
        steps_are : row (steps_from (row_at o₃ q) 0 0 n) ≡ row (id_row 0 (named spec d (entries_at o₂ q n)))
        steps_are = ap row (steps-same (row_at o₃ q) (row_at o₂ q) 0 0 n (λ j l. copied-ids j (omega arith)) ∙ steps-ids spec d o₂ q n)

        steps-length : length (row (steps_from (row_at o₃ q) 0 0 n)) ≡ 8 * n
        steps-length =
            ap length steps_are ∙ length-row (id_row 0 (named spec d (entries_at o₂ q n)))
            ∙ ap (λ (z : ℕ). 8 * z) (length_ids 0 (named spec d (entries_at o₂ q n)) ∙ named-length spec d (entries_at o₂ q n) ∙ length-entries o₂ q n)

        pub sorted-written : ReadableIndex d s n → LeadsIn spec d s n → ((j : ℕ) → Fits w8 (get_or o₂ j 0)) → o₄ ≡ paste at (part_of p (by_id (items_at spec d s n))) o
        unfolding part_of index_of rows_of
        sorted-written r g b =
            let es = sort_by_id (stored_entries d s n) in
            let k = length-sorted d s n in
            let B = row (steps_from (row_at o₃ q) 0 0 n) in
            let X = row (map (λ (e : Entry). e.id) es) in
            let Y = row (map (λ (e : Entry). e.start) es) in
            let Z = row (map (λ (e : Entry). e.size) es) in
            let f = behind in
            let la = chunks-length in
            let lb = steps-length in
            let lc = starts-length in
            let lx : length X ≡ 8 * n = simp (length-row, length-map) (omega arith) in
            let ly : length Y ≡ 8 * n = simp (length-row, length-map) (omega arith) in
            let lz : length Z ≡ 8 * n = simp (length-row, length-map) (omega arith) in
            let lo = t.only.long in
            let lk = started_length in
            let lab = length-append A B in
            let labc = length-append (A ++ B) C in
            let lxy = length-append X Y in
            let lxyz = length-append (X ++ Y) Z in
            let g₁ = paste-then at q A B (paste (q + 8 * n) C o₂) w₃ w₄ (omega arith) (omega arith) in
            let g₂ = paste-apart at (A ++ B) (q + 8 * n) C o₂ (omega arith) (omega arith) in
            let g₃ = paste-on at (A ++ B) C o₂ (q + 8 * n) (omega arith) (omega arith) in
            let rows : o₂ ≡ paste q ((X ++ Y) ++ Z) o =
            rows_written o₂ q n (λ j. (b j).fits) (omega arith) o t.only ∙ rw t.entries (simp append_assoc) in
            let over = paste-cover at q ((A ++ B) ++ C) (X ++ Y) Z o (omega arith) (omega arith) (omega arith) in
            let x : A ≡ chunks_of (named spec d es) = rw t.entries in
            let i : B ≡ row (id_row 0 (named spec d es)) = rw (steps_are, t.entries) in
            let c : C ≡ row (start_row p (named spec d es)) = rw t.entries in
            let z : Z ≡ row (size_row (named spec d es)) = ap row (sizes-of spec d es (inside-sorted d s n r g).inside) in
            g₁ ∙ g₂ ∙ g₃ ∙ ap (paste at ((A ++ B) ++ C)) rows ∙ over ∙ rw (x, i, c, z, named-sorted spec d s n) (simp append_assoc)
