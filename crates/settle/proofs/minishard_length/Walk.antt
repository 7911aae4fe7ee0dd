-- A walk over the entries of a minishard index: where their chunks start.
use Rattle.std.proofs.Common.{◌≡◌, ℕ, ◌+◌, ◌*◌, ◌%◌, ◌^◌, ◌<◌, ◌≤◌, List, length, take, drop, refl, ap, ◌∙◌, arith, w64, Fits}
use Rattle.endian.specs.Little.{le_at}
use Rattle.endian.specs.Range.{sum_to}
use Rattle.endian.proofs.Ranges.{sum_step}
use Rattle.sharding.specs.declared.Sharding.{Sharding}
use Rattle.shard.specs.index.Index.{start_steps, sizes, start_at, chunk_at}
use Rattle.shard.specs.Items.{Led}
use Rattle.settle.specs.minishard_length.Writing.{ReadableIndex, LeadsIn}

-- entry i is next, and `from` is where the chunk before it ends
pub record Walk (d : List ℕ) (s n i from : ℕ) : Type 0 where
  pub below : i ≤ n
  pub walked : from ≡ (sum_to (start_steps d s n) i + sum_to (sizes d s n) i) % 2 ^ 64

pub walk_first : (d : List ℕ) (s n : ℕ) → Walk d s n 0 0
unfolding sum_to
walk_first d s n = record { below = omega arith; walked = refl }

-- a sum modulo 2^64 goes on, by what does not wrap
walk-on : (a b from u v t : ℕ) → from ≡ (a + b) % 2 ^ 64 → t ≡ (from + u) % 2 ^ 64 → t + v < 2 ^ 64 → t + v ≡ (a + u + (b + v)) % 2 ^ 64
walk-on a b from u v t p q l = omega arith

-- u and v are its start step and its size as they were read, t is the sum
module _ {d : List ℕ} {s n i from : ℕ} (r : ReadableIndex d s n) (h : Walk d s n i from) (l : i < n)
    (u v t : ℕ) (eu : u ≡ le_at 8 d (s + 8 * n + 8 * i)) (et : t ≡ (from + u) % 2 ^ 64) (ev : v ≡ le_at 8 d (s + 16 * n + 8 * i)) where
  walk_start : start_at (start_steps d s n) (sizes d s n) i ≡ t
  unfolding start_at sum_to
  walk_start = let w = h.walked in omega arith

  pub walk-chunk : chunk_at d s n i ≡ take v (drop t d)
  walk-chunk = rw (walk_start, ← ev)

  pub walk_inside : t + v ≤ length d
  walk_inside = omega (arith, r.inside i l, walk_start)

  pub walk-led : {spec : Sharding} → LeadsIn spec d s n → Led spec d t v
  walk-led g = rw (walk_start, ← ev) at (g.led i l)

  pub walk-fits : length d < 2 ^ 64 → Fits w64 (t + v)
  walk-fits b = record { fits = omega (arith, walk_inside) }

  pub walk-next : length d < 2 ^ 64 → Walk d s n (i + 1) (t + v)
  walk-next b = record {
    below = omega arith;
    walked =
        walk-on (sum_to (start_steps d s n) i) (sum_to (sizes d s n) i) from u v t h.walked et (omega (arith, walk_inside))
        ∙ ap (λ (k : ℕ). k % 2 ^ 64) (omega (arith, eu, ev, sum_step (start_steps d s n) i, sum_step (sizes d s n) i));
  }
