-- A whole shard: a minishard with its entry, and a turn over the minishards that writes them.
use Rattle.std.proofs.Common.{◌≡◌, ℕ, ◌+◌, ◌-◌, ◌*◌, ◌/◌, ◌^◌, ◌<◌, ◌≤◌, List, [], ◌∷◌, ◌++◌, length, sym, refl, ap, ◌∙◌, append_assoc, append-nil, not-suc-le-zero, arith, w64, Fits, rules}
use native.Mathlib.Nat.{sub-zero}
use Rattle.refusal.specs.Buffer.{over}
use Rattle.endian.specs.Little.{le, row}
use Rattle.endian.specs.Place.{paste}
use Rattle.endian.proofs.Little.{length-le, length-row}
use Rattle.endian.proofs.Paste.{paste-nil, paste-front, paste-on, paste-then, paste-apart}
use Rattle.sharding.specs.declared.Sharding.{Sharding}
use Rattle.sharding.specs.Specification.{minishard_count_of}
use Rattle.shard.specs.index.Index.{entry_start_of, entry_end_of, entry_count, most_shard_bytes}
use Rattle.shard.specs.Items.{Item}
use Rattle.settled_form.specs.Form.{chunks_of, chunks_length, id_row, start_row, size_row, index_of, part_of, part_length_of, parts_from, parts_length, entry_begin, entry_finish, shard_index_from, settled}
use Rattle.settled_form.specs.Sorted.{sort_by}
use Rattle.settled_form.specs.Content.{items_at, items_of, by_id, content_from, form_of, form_length}
use Rattle.settle.specs.length.Settleable.{SettleableIn, one_length, whole_length}
use Rattle.settle.specs.writing.Entry.{settled_entry}
use Rattle.settled_form.proofs.Measures.{length_part, length_items, chunks_by_id, length_by_id, part_by_id, length-shard-index, length-content-from}
use Rattle.settle.proofs.length.Lengths.{stored-length, sorted-length, none_items, ordered-read, readable-read, leads-read, none-length-read, content-none, from, from_cons, length-next, length_none, each_at, entry_at, permitted-shard, whole-content, whole_length_lem, parts-counted}
use Rattle.settle.specs.minishard_length.Writing.{Apart, minishard_length}
use Rattle.settle.proofs.item_runs.Copying.{paste-both}

-- ---- one minishard and its entry

none-sorted : (spec : Sharding) (d : List ℕ) (s e : ℕ) → s ≡ e → by_id (items_at spec d s (entry_count s e)) ≡ []
unfolding by_id sort_by
none-sorted spec d s e q = rw (none_items spec d s e q)

none_written : (spec : Sharding) (d : List ℕ) (s e p at at' : ℕ) (o : List ℕ) → s ≡ e
    → paste at (row (0 ∷ 0 ∷ [])) o ≡ paste at (settled_entry p (by_id (items_at spec d s (entry_count s e)))) (paste at' (part_of p (by_id (items_at spec d s (entry_count s e)))) o)
unfolding settled_entry entry_begin entry_finish part_of chunks_of index_of id_row start_row size_row row
none_written spec d s e p at at' o q = rw (none-sorted spec d s e q, paste-nil at' o)

entry_of : (p : ℕ) (xs : List Item) → 0 < length xs → settled_entry p xs ≡ row ((p + chunks_length xs) ∷ (p + part_length_of xs) ∷ [])
unfolding settled_entry entry_begin entry_finish
entry_of p [] l = absurd (not-suc-le-zero l)
entry_of p (x ∷ xs) l = refl

some-entry : (spec : Sharding) (d : List ℕ) (s n p : ℕ) → 0 < n → settled_entry p (by_id (items_at spec d s n)) ≡ row ((p + chunks_length (items_at spec d s n)) ∷ (p + minishard_length spec d s n) ∷ [])
some-entry spec d s n p l =
    entry_of p (by_id (items_at spec d s n)) (omega (arith, length_by_id (items_at spec d s n), length_items spec d s n))
    ∙ rw (chunks_by_id (items_at spec d s n), part_by_id (items_at spec d s n), stored-length spec d s n)

-- two writes make an entry of the shard index
pub entry-written : (b e at : ℕ) (o : List ℕ) {o₁ o₂ : List ℕ} → at + 16 ≤ length o → o₁ ≡ paste at (le 8 b) o → o₂ ≡ paste (at + 8) (le 8 e) o₁
    → o₂ ≡ paste at (row (b ∷ e ∷ [])) o
unfolding row
entry-written b e at o l u v =
    paste-then at (at + 8) (le 8 b) (le 8 e) o u v (omega (arith, length-le 8 b)) (omega (arith, length-le 8 b)) ∙ simp append-nil

-- of a minishard whose entry was read: s and e are what was read
module _ (spec : Sharding) (index d : List ℕ) (m : ℕ) {s e : ℕ} (es : s ≡ entry_start_of index m) (ee : e ≡ entry_end_of index m) where
  pub apart-read : SettleableIn spec index d m → Apart d s ((e - s) / 24)
  apart-read t = record { ids = rw (es, ee) t.distinct }

  pub none_read : (base p : ℕ) (o : List ℕ) {o₁ : List ℕ} → s ≡ e → o₁ ≡ paste (16 * m) (row (0 ∷ 0 ∷ [])) o
      → o₁ ≡ paste (16 * m) (settled_entry p (by_id (items_of spec index d m))) (paste (base + p) (part_of p (by_id (items_of spec index d m))) o)
  none_read base p o q w = w ∙ none_written spec d (entry_start_of index m) (entry_end_of index m) p (16 * m) (base + p) o (rw (es, ee) at q)

  pub length-read : {len : ℕ} → len ≡ minishard_length spec d s ((e - s) / 24) → len ≡ one_length spec index d m
  length-read h = h ∙ rw (es, ee)

  pub room-read : (base p : ℕ) (out : List ℕ) → base + p + one_length spec index d m ≤ length out → base + p + minishard_length spec d s ((e - s) / 24) ≤ length out
  room-read base p out h = rw (es, ee) h

  pub most-read : one_length spec index d m ≤ most_shard_bytes → minishard_length spec d s ((e - s) / 24) ≤ most_shard_bytes
  most-read h = rw (es, ee) h

  pub end_read : (base p : ℕ) (out : List ℕ) (len : ℕ) → len ≡ minishard_length spec d s ((e - s) / 24) → base + p + one_length spec index d m ≤ length out
      → length out < 2 ^ 64 → Fits w64 (p + len)
  end_read base p out len h r f = record { fits = omega (arith, length-read h) }

  pub one-read : (base p : ℕ) (o : List ℕ) {len : ℕ} {o₁ o₂ : List ℕ} → SettleableIn spec index d m → (s ≡ e → ⊥) → len ≡ minishard_length spec d s ((e - s) / 24)
      → o₁ ≡ paste (base + p) (part_of p (by_id (items_at spec d s ((e - s) / 24)))) o
      → o₂ ≡ paste (16 * m) (row ((p + len - 24 * ((e - s) / 24)) ∷ (p + len) ∷ [])) o₁
      → o₂ ≡ paste (16 * m) (settled_entry p (by_id (items_of spec index d m))) (paste (base + p) (part_of p (by_id (items_of spec index d m))) o)
  one-read base p o {len} t h el w₁ w₂ =
      let n = (e - s) / 24 in
      let a : p + len - 24 * n ≡ p + chunks_length (items_at spec d s n) = omega arith in
      let b : p + len ≡ p + minishard_length spec d s n = omega arith in
      w₂ ∙ rw (a, b, w₁, ← some-entry spec d s n p (readable-read spec index d m es ee t h).some, es, ee)

pub ruleset reading = (entry-written, ordered-read, readable-read, leads-read, apart-read, none-length-read, none_read, length-read, room-read, most-read, end_read, one-read, rules)

-- ---- the shard

pub entries-cons : (p : ℕ) (xs : List Item) (c : List (List Item)) → row (shard_index_from p (xs ∷ c)) ≡ settled_entry p xs ++ row (shard_index_from (p + part_length_of xs) c)
unfolding shard_index_from row settled_entry
entries-cons p xs c = simp (append_assoc, append-nil)

pub parts-cons : (p : ℕ) (xs : List Item) (c : List (List Item)) → parts_from p (xs ∷ c) ≡ part_of p xs ++ parts_from (p + part_length_of xs) c
unfolding parts_from
parts-cons p xs c = refl

pub entries-nil : (p : ℕ) (c : List (List Item)) → c ≡ [] → row (shard_index_from p c) ≡ []
unfolding shard_index_from row
entries-nil p c e = rw e

pub parts-nil : (p : ℕ) (c : List (List Item)) → c ≡ [] → parts_from p c ≡ []
unfolding parts_from
parts-nil p c e = rw e

pub length-entry : (p : ℕ) (xs : List Item) → length (settled_entry p xs) ≡ 16
unfolding settled_entry
length-entry p xs = length-row (entry_begin p xs ∷ entry_finish p xs ∷ [])

-- nothing is left to write
pub paste-done : (at : ℕ) (xs d : List ℕ) {e : List ℕ} → xs ≡ [] → paste at xs d ≡ e → d ≡ e
paste-done at xs d n h = sym (paste-nil at d) ∙ ap (λ (z : List ℕ). paste at z d) (sym n) ∙ h

-- the loop's head: out₀ is the output where it begins; out is the output now
pub record Settling (spec : Sharding) (index d : List ℕ) (n : ℕ) (out₀ out : List ℕ) (m p : ℕ) : Type 0 where
  pub below : m ≤ n
  pub same : length out ≡ length out₀
  pub room : p + parts_length (from spec index d n m) ≡ parts_length (content_from spec index d 0 n)
  pub left : paste (16 * m) (row (shard_index_from p (from spec index d n m))) (paste (16 * n + p) (parts_from p (from spec index d n m)) out)
      ≡ paste 0 (settled (content_from spec index d 0 n)) out₀

pub settling_first : (spec : Sharding) (index d : List ℕ) (n : ℕ) (out : List ℕ) → whole_length spec index d n ≤ length out → Settling spec index d n out out 0 0
unfolding settled
settling_first spec index d n out h =
    let c = content_from spec index d 0 n in
    let E = row (shard_index_from 0 c) in
    let l : length E ≡ 16 * n = length-shard-index 0 c ∙ ap (λ (z : ℕ). 16 * z) (length-content-from spec index d 0 n) in
    record {
      below = omega arith;
      same = refl;
      room = rw sub-zero (omega arith);
      left =
          rw sub-zero
          (paste-apart 0 E (16 * n + 0) (parts_from 0 c) out (omega arith) (omega arith)
          ∙ paste-on 0 E (parts_from 0 c) out (16 * n + 0) (omega arith) (omega arith));
    }

module _ {spec : Sharding} {index d : List ℕ} {n : ℕ} {out₀ out : List ℕ} {m p : ℕ} (h : Settling spec index d n out₀ out m p) (b : whole_length spec index d n ≤ length out₀) where
  pub one-room : m < n → 16 * n + p + one_length spec index d m ≤ length out
  one-room l = omega (arith, length-next spec index d n m l, h.room, h.same)

  pub one-most : m < n → whole_length spec index d n ≤ most_shard_bytes → one_length spec index d m ≤ most_shard_bytes
  one-most l g = omega (arith, length-next spec index d n m l, h.room)

  pub place-fits : (len : ℕ) → m < n → length out₀ < 2 ^ 64 → len ≡ one_length spec index d m → Fits w64 (p + len)
  place-fits len l f e = record { fits = omega (arith, one-room l, h.same) }

  pub settling_next : (len : ℕ) (out' : List ℕ) → m < n → length out' ≡ length out → len ≡ one_length spec index d m
      → out' ≡ paste (16 * m) (settled_entry p (by_id (items_of spec index d m))) (paste (16 * n + p) (part_of p (by_id (items_of spec index d m))) out)
      → Settling spec index d n out₀ out' (m + 1) (p + len)
  settling_next len out' l k e w =
      let s = h.same in
      let xs = by_id (items_of spec index d m) in
      let c = from spec index d n (m + 1) in
      let pl : part_length_of xs ≡ len = sorted-length spec index d m ∙ sym e in
      let lp = length_part p xs in
      let E : row (shard_index_from p (from spec index d n m)) ≡ settled_entry p xs ++ row (shard_index_from (p + len) c) =
      rw (from_cons spec index d n m l) (entries-cons p xs c ∙ rw pl) in
      let B : parts_from p (from spec index d n m) ≡ part_of p xs ++ parts_from (p + len) c = rw (from_cons spec index d n m l) (parts-cons p xs c ∙ rw pl) in
      let t : paste (16 * (m + 1)) (row (shard_index_from (p + len) c)) (paste (16 * n + (p + len)) (parts_from (p + len) c) out')
      ≡ paste (16 * m) (row (shard_index_from p (from spec index d n m))) (paste (16 * n + p) (parts_from p (from spec index d n m)) out) =
      rw (w, E, B)
      (paste-both (16 * m) (16 * (m + 1)) (settled_entry p xs) (row (shard_index_from (p + len) c)) (16 * n + p) (16 * n + (p + len)) (part_of p xs) (parts_from (p + len) c) out
      (omega (arith, length-entry p xs)) (omega arith) (omega arith) (omega (arith, one-room l))) in
      record {
        below = omega arith;
        same = k ∙ h.same;
        room = omega (arith, h.room, length-next spec index d n m l);
        left = t ∙ h.left;
      }

  module _ (l : n ≤ m) where
    pub end_fits : length out₀ < 2 ^ 64 → Fits w64 (16 * n + p)
    end_fits f = record { fits = omega (arith, h.room, length_none spec index d n m l) }

    pub end_is : 16 * n + p ≡ whole_length spec index d n
    end_is = omega (arith, h.room, length_none spec index d n m l)

    pub all_there : out ≡ paste 0 (settled (content_from spec index d 0 n)) out₀
    all_there =
        let z = content-none spec index d m (n - m) (omega arith) in
        paste-done (16 * n + p) (parts_from p (from spec index d n m)) out (parts-nil p (from spec index d n m) z)
        (paste-done (16 * m) (row (shard_index_from p (from spec index d n m))) _ (entries-nil p (from spec index d n m) z) h.left)

pub ruleset settling = (settling_first, settling_next, each_at, entry_at, one-room, one-most, place-fits, end_fits, end_is, all_there, rules)

-- ---- of n minishards, where n is the number that the specification gives

module _ (spec : Sharding) (index d : List ℕ) {n : ℕ} (e : n ≡ minishard_count_of spec) where
  whole-form : settled (content_from spec index d 0 n) ≡ form_of spec index d
  unfolding form_of
  whole-form = ap settled (whole-content spec index d e)

  pub room-counted : (out : List ℕ) → form_length spec index d ≤ length out → whole_length spec index d n ≤ length out
  room-counted out h = rw (whole_length_lem spec index d e) h

  pub most-counted : form_length spec index d ≤ most_shard_bytes → whole_length spec index d n ≤ most_shard_bytes
  most-counted h = rw (whole_length_lem spec index d e) h

  pub length-counted : {r : ℕ} → r ≡ whole_length spec index d n → r ≡ form_length spec index d
  length-counted h = h ∙ whole_length_lem spec index d e

  pub form-counted : (o : List ℕ) {out : List ℕ} → out ≡ paste 0 (settled (content_from spec index d 0 n)) o → out ≡ over (form_of spec index d) o
  form-counted o h = rw whole-form at h ∙ paste-front (form_of spec index d) o (length (form_of spec index d)) refl

pub ruleset counting = (permitted-shard, parts-counted, room-counted, most-counted, length-counted, form-counted, rules)
