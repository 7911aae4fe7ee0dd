-- The entry of a minishard in the shard index, as it was read, and what is written of it.
use Rattle.std.proofs.Common.{◌≡◌, ℕ, ◌*◌, ◌≤◌, List, length, sym, ◌∙◌, arith}
use Rattle.endian.specs.Place.{paste}
use Rattle.endian.proofs.Paste.{paste-nil}
use Rattle.shard.specs.index.Index.{entry_start_of, entry_end_of, entry_count}
use Rattle.shard.specs.index.Reading.{Readable, ReadableIn}
use Rattle.lookup.specs.entries.Entries.{triples_from, listing_in}

-- how many chunks minishard m lists
abbrev count_of : List ℕ → ℕ → ℕ
count_of x m = entry_count (entry_start_of x m) (entry_end_of x m)

module _ (x d : List ℕ) (m : ℕ) {s e : ℕ} (u : s ≡ entry_start_of x m) (v : e ≡ entry_end_of x m) where
  pub read-order : ReadableIn x d m → s ≤ e
  read-order r = rw (u, v) r.ordered

  pub read-entries : ReadableIn x d m → (s ≡ e → ⊥) → Readable (length x) d s (entry_count s e)
  read-entries r n = rw (u, v) (r.some (λ q. n (u ∙ q ∙ sym v)))

  pub read-room : (out : List ℕ) → 3 * count_of x m ≤ length out → 3 * entry_count s e ≤ length out
  read-room out h = rw (u, v) h

  pub read-listing : (out : List ℕ) {out' : List ℕ} → out' ≡ paste 0 (triples_from (length x) d s (entry_count s e) 0 (entry_count s e)) out → out' ≡ paste 0 (listing_in x d m) out
  unfolding listing_in
  read-listing out w = rw (u, v) at w

  -- of an empty minishard nothing is written
  pub read-empty : (out : List ℕ) → s ≡ e → out ≡ paste 0 (listing_in x d m) out
  unfolding listing_in triples_from
  read-empty out q =
      let z : count_of x m ≡ 0 = omega arith in
      rw z (sym (paste-nil 0 out))
