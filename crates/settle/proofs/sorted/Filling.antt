-- The entries of a minishard index with absolute numbers, put in three rows of the output.
use Rattle.std.proofs.Common.{◌≡◌, ℕ, zero, suc, ◌+◌, ◌*◌, ◌%◌, ◌^◌, ◌<◌, ◌≤◌, List, length, set, sym, refl, ap, ◌∙◌, not-suc-le-zero, add-zero, add-suc, suc-add, zero-add, arith, get_or-set_other, get_or-set_same, ext_get_or, rules}
use Rattle.endian.specs.Little.{le_at}
use Rattle.shard.specs.index.Index.{id_steps, start_steps, sizes}
use Rattle.shard.proofs.index.Tally.{Tally, tally-start, tally-id, tally-place, tally-turn}
use Rattle.index_sort.specs.three_rows.Rows.{entries_at, FitEntry, Only, no_entry, nth}
use Rattle.index_sort.proofs.three_rows.Cases.{Either, is, not, either}
use Rattle.index_sort.proofs.three_rows.Bytes.{length-entries, entry-eq, only_none, only_then}
use Rattle.settle.specs.sorted.Reordered.{stored_at, stored_from, stored_entries}

-- ---- the entries in rows

length_from : (d : List ℕ) (s n i k : ℕ) → length (stored_from d s n i k) ≡ k
unfolding stored_from
length_from d s n i zero = refl
length_from d s n i (suc k) = ap suc (length_from d s n (suc i) k)

pub length-stored : (d : List ℕ) (s n : ℕ) → length (stored_entries d s n) ≡ n
unfolding stored_entries
length-stored d s n = length_from d s n 0 n

nth-from : (d : List ℕ) (s n i k j : ℕ) → j < k → nth (stored_from d s n i k) j ≡ stored_at d s n (i + j)
unfolding stored_from
nth-from d s n i zero j l = absurd (not-suc-le-zero l)
nth-from d s n i (suc k) zero l = rw (add-zero i)
nth-from d s n i (suc k) (suc j) l = rw (nth-from d s n (suc i) k j (omega arith), add-suc i j, suc-add i j)

pub nth-stored : (d : List ℕ) (s n j : ℕ) → j < n → nth (stored_entries d s n) j ≡ stored_at d s n j
unfolding stored_entries
nth-stored d s n j l = nth-from d s n 0 n j l ∙ ap (stored_at d s n) (zero-add j)

pub record Filling (d : List ℕ) (s n : ℕ) (out₀ : List ℕ) (q : ℕ) (out : List ℕ) (i id end : ℕ) : Type 0 where
  pub tally : Tally (id_steps d s) (start_steps d s n) (sizes d s n) n i id end
  pub only : Only q (24 * n) out₀ out
  pub done : (j : ℕ) → j < i → nth (entries_at out q n) j ≡ stored_at d s n j

pub fill_start : (d : List ℕ) (s n : ℕ) (out : List ℕ) (q : ℕ) → Filling d s n out q out 0 0 0
fill_start d s n out q =
    record { tally = tally-start (id_steps d s) (start_steps d s n) (sizes d s n) n; only = only_none q (24 * n) out; done = λ j l. absurd (not-suc-le-zero l) }

pub fill_fits : (a b : ℕ) {u v z : ℕ} → u ≡ a % 2 ^ 64 → v ≡ b % 2 ^ 64 → z < 2 ^ 64 → FitEntry (record { id = u; start = v; size = z })
fill_fits a b p q r = record { id = omega arith; start = omega arith; size = r }

module _ {d : List ℕ} {s n : ℕ} {out₀ : List ℕ} {q : ℕ} {out : List ℕ} {i id end : ℕ} (h : Filling d s n out₀ q out i id end) where
  pub fill_room : q + 24 * n ≤ length out₀ → q + 24 * n ≤ length out
  fill_room a = omega (arith, h.only.long)

  pub fill_next : i < n → {x y z u v w : ℕ} {out' : List ℕ} → x ≡ le_at 8 d (s + 8 * i) → u ≡ (id + x) % 2 ^ 64 → y ≡ le_at 8 d (s + 8 * n + 8 * i) → v ≡ (end + y) % 2 ^ 64
      → z ≡ le_at 8 d (s + 16 * n + 8 * i) → w ≡ (v + z) % 2 ^ 64
      → entries_at out' q n ≡ set (entries_at out q n) i (record { id = u; start = v; size = z }) → Only q (24 * n) out out' → Filling d s n out₀ q out' (i + 1) u w
  unfolding stored_at
  fill_next l {x} {y} {z} {u} {v} {w} {out'} ex eu ey ev ez ew put only =
      record { tally = tally-turn h.tally l ex eu ey ev ez ew; only = only_then h.only only; done = λ j k. rw put (go j k (either j i)) }
    where
      here : record { id = u; start = v; size = z } ≡ stored_at d s n i
      here = entry-eq (tally-id h.tally ex eu) (tally-place h.tally ey ev) ez

      go : (j : ℕ) → j < i + 1 → Either j i → nth (set (entries_at out q n) i (record { id = u; start = v; size = z })) j ≡ stored_at d s n j
      go j k (is e) = rw e (get_or-set_same (entries_at out q n) i (record { id = u; start = v; size = z }) no_entry (omega (arith, length-entries out q n)) ∙ here)
      go j k (not ne) = get_or-set_other (entries_at out q n) i j (record { id = u; start = v; size = z }) no_entry ne ∙ h.done j (omega (arith, ne))

  pub filled : n ≤ i → entries_at out q n ≡ stored_entries d s n
  filled l =
      ext_get_or no_entry (entries_at out q n) (stored_entries d s n) (length-entries out q n ∙ sym (length-stored d s n))
      (λ j k. let g : j < n = omega (arith, length-entries out q n) in h.done j (omega arith) ∙ sym (nth-stored d s n j g))

  pub filled_only : Only q (24 * n) out₀ out
  filled_only = h.only

pub ruleset filling = (fill_start, fill_fits, fill_room, fill_next, filled, filled_only, rules)
