-- A minishard that may be written as it stands: its chunks, copied one after the other.
use Rattle.std.proofs.Common.{◌≡◌, ℕ, suc, ◌+◌, ◌-◌, ◌*◌, ◌%◌, ◌^◌, ◌<◌, ◌≤◌, List, [], ◌++◌, length, take, drop, sym, refl, ap, ◌∙◌, add-one, arith, w64, Fits, rules}
use native.Mathlib.Nat.{sub-zero}
use Rattle.endian.specs.Little.{le_at}
use Rattle.endian.specs.Place.{paste}
use Rattle.endian.specs.Range.{sum_to}
use Rattle.endian.proofs.Part.{part_length}
use Rattle.endian.proofs.Paste.{paste-nil, paste-on}
use Rattle.endian.proofs.Ranges.{sum-none, sum_step, sum_grows, sum_done}
use Rattle.shard.specs.index.Index.{sizes, chunk_at}
use Rattle.settle.specs.minishard_length.Writing.{ReadableIndex, chunks_from}
use Rattle.settle.proofs.minishard_length.Walk.{Walk, walk_first, walk-chunk, walk_inside, walk-fits, walk-next}

next-chunk : (d : List ℕ) (s n i : ℕ) → i < n → chunks_from d s n i (n - i) ≡ chunk_at d s n i ++ chunks_from d s n (i + 1) (n - (i + 1))
unfolding chunks_from
next-chunk d s n i l =
    let e : n - i ≡ suc (n - (i + 1)) = omega arith in
    rw (e, add-one i)

no_chunk : (d : List ℕ) (s n i k : ℕ) → k ≡ 0 → chunks_from d s n i k ≡ []
unfolding chunks_from
no_chunk d s n i k e = rw e

-- the loop's head: out₀ is the output where it begins, at the place `at`; out is the output now
pub record Copying (d : List ℕ) (s n : ℕ) (out₀ : List ℕ) (at : ℕ) (out : List ℕ) (i from to : ℕ) : Type 0 where
  pub walk : Walk d s n i from
  pub same : length out ≡ length out₀
  pub here : to ≡ at + sum_to (sizes d s n) i
  pub left : paste to (chunks_from d s n i (n - i)) out ≡ paste at (chunks_from d s n 0 n) out₀
  pub short : length out₀ < 2 ^ 64

pub copying_first : (d : List ℕ) (s n : ℕ) (out : List ℕ) (at : ℕ) → length out < 2 ^ 64 → Copying d s n out at out 0 0 at
copying_first d s n out at f = record { walk = walk_first d s n; same = refl; here = omega (arith, sum-none (sizes d s n)); left = rw sub-zero; short = f }

module _ {d : List ℕ} {s n : ℕ} {out₀ : List ℕ} {at : ℕ} {out : List ℕ} {i from to : ℕ} (r : ReadableIndex d s n) (h : Copying d s n out₀ at out i from to) (l : i < n)
    (u v t : ℕ) (eu : u ≡ le_at 8 d (s + 8 * n + 8 * i)) (et : t ≡ (from + u) % 2 ^ 64) (ev : v ≡ le_at 8 d (s + 16 * n + 8 * i)) where
  pub inside : t + v ≤ length d
  inside = walk_inside r h.walk l u v t eu et ev

  outside : to + v ≤ at + sum_to (sizes d s n) n
  outside = omega (arith, h.here, sum_step (sizes d s n) i, sum_grows (sizes d s n) (i + 1) n (omega arith))

  pub to-fits : at + sum_to (sizes d s n) n ≤ length out₀ → Fits w64 (to + v)
  to-fits a = record { fits = omega (arith, outside, h.short) }

  pub room_out : at + sum_to (sizes d s n) n ≤ length out₀ → to + v ≤ length out
  room_out a = omega (arith, outside, h.same)

  pub from-fits : length d < 2 ^ 64 → Fits w64 (t + v)
  from-fits = walk-fits r h.walk l u v t eu et ev

  pub copying_next : (out' : List ℕ) → at + sum_to (sizes d s n) n ≤ length out₀ → length d < 2 ^ 64 → length out' ≡ length out
      → out' ≡ paste to (take v (drop t d)) out → Copying d s n out₀ at out' (i + 1) (t + v) (to + v)
  copying_next out' g b k e =
      let f : chunk_at d s n i ≡ take v (drop t d) = walk-chunk r h.walk l u v t eu et ev in
      let p : length (take v (drop t d)) ≡ v = part_length d t v inside in
      let y : paste (to + v) (chunks_from d s n (i + 1) (n - (i + 1))) out' ≡ paste to (chunks_from d s n i (n - i)) out =
      rw (e, next-chunk d s n i l, f)
      (paste-on to (take v (drop t d)) (chunks_from d s n (i + 1) (n - (i + 1))) out (to + v) (omega (arith, room_out g)) (omega arith)) in
      record {
        walk = walk-next r h.walk l u v t eu et ev b;
        same = k ∙ h.same;
        here = omega (arith, h.here, sum_step (sizes d s n) i);
        left = y ∙ h.left;
        short = h.short;
      }

-- its end
module _ {d : List ℕ} {s n : ℕ} {out₀ : List ℕ} {at : ℕ} {out : List ℕ} {i from to : ℕ} (h : Copying d s n out₀ at out i from to) (l : n ≤ i) where
  pub copied-length : to ≡ at + sum_to (sizes d s n) n
  copied-length = h.here ∙ ap (◌+◌ at) (sum_done (sizes d s n) n i refl h.walk.below l)

  pub copied : out ≡ paste at (chunks_from d s n 0 n) out₀
  copied = sym (paste-nil to out) ∙ ap (λ (z : List ℕ). paste to z out) (sym (no_chunk d s n i (n - i) (omega arith))) ∙ h.left

pub ruleset copying = (copying_first, copying_next, inside, room_out, to-fits, from-fits, copied-length, copied, rules)
