-- The list of chunks that are left, and what a walk over it knows of each.
use Rattle.std.proofs.Common.{◌≡◌, ℕ, zero, suc, ◌+◌, ◌-◌, ◌*◌, ◌%◌, ◌^◌, ◌<◌, ◌≤◌, ◌||◌, List, [], ◌∷◌, ◌++◌, length, take, drop, refl, sym, ap, ◌∙◌, arith, w64, Fits, length-append}
use Rattle.endian.specs.Little.{le_at}
use Rattle.endian.specs.Range.{sum_to}
use Rattle.endian.proofs.Ranges.{sum-none, sum_step}
use Rattle.bitmap.specs.Positions.{within}
use Rattle.sharding.specs.declared.Sharding.{Sharding}
use Rattle.shard.specs.index.Index.{start_steps, sizes}
use Rattle.shard.specs.Items.{lead_length_of, Led}
use Rattle.unlisted.specs.declared.chunks.Chunk.{Chunk}
use Rattle.unlisted.specs.declared.chunks.Chunks.{Chunks}
use Rattle.unlisted.specs.chunks.Left.{chunks_from, chunks_of, chunks_left}
use Rattle.unlisted.specs.ranges.Covered.{in_items}
use Rattle.unlisted.specs.stretches.Reading.{Ranged}
use Rattle.unlisted.proofs.stretches.Walk.{Walk, walk_inside, walk-led, walk-test}

pub chunks_none : (d : List ℕ) (a b e : ℕ) {k : ℕ} → k ≡ 0 → chunks_from d a b e k ≡ []
unfolding chunks_from
chunks_none d a b e z = rw z

pub chunks_more : (d : List ℕ) (a b e k : ℕ) {u v : ℕ} → (k ≡ 0 → ⊥) → u ≡ le_at 8 d a → v ≡ le_at 8 d b
    → chunks_from d a b e k ≡ record { start = (e + u) % 2 ^ 64; size = v } ∷ chunks_from d (a + 8) (b + 8) (((e + u) % 2 ^ 64 + v) % 2 ^ 64) (k - 1)
unfolding chunks_from
chunks_more d a b e zero n p q = absurd (n refl)
chunks_more d a b e (suc k) n p q = let z : suc k - 1 ≡ k = omega arith in rw (z, p, q)

same : (d : List ℕ) {a a' b b' e e' k k' : ℕ} → a ≡ a' → b ≡ b' → e ≡ e' → k ≡ k' → chunks_from d a b e k ≡ chunks_from d a' b' e' k'
same d p q r s = cc

-- where the chunk before entry i ends
abbrev pub end_before : List ℕ → ℕ → ℕ → ℕ → ℕ
end_before d s n i = (sum_to (start_steps d s n) i + sum_to (sizes d s n) i) % 2 ^ 64

-- of the first k of n entries those from i on are left
pub record Left (d : List ℕ) (s n k i : ℕ) (c : Chunks) : Type 0 where
  pub most : k ≤ n
  pub below : i ≤ k
  pub left : chunks_left c ≡ chunks_from d (s + 8 * n + 8 * i) (s + 16 * n + 8 * i) (end_before d s n i) (k - i)

pub left_first : (d : List ℕ) (s n k : ℕ) {c : Chunks} → k ≤ n → chunks_left c ≡ chunks_of d s n k → Left d s n k 0 c
left_first d s n k h e =
    record {
      most = h;
      below = omega arith;
      left = e ∙ same d (omega arith) (omega arith) (omega (arith, sum-none (start_steps d s n), sum-none (sizes d s n))) (omega arith);
    }

pub left_last : {d : List ℕ} {s n k i : ℕ} {c : Chunks} → Left d s n k i c → chunks_left c ≡ [] → i ≡ k
left_last {d} {s} {n} {k} {i} h e = go (k - i) refl
  where
    go : (j : ℕ) → k - i ≡ j → i ≡ k
    go zero q = omega (arith, h.below)
    go (suc j) q =
        let a = h.left ∙ chunks_more d (s + 8 * n + 8 * i) (s + 16 * n + 8 * i) (end_before d s n i) (k - i) (λ z. absurd (omega arith)) refl refl in
        let z : ◌≡◌ {A = ℕ} 0 1 = cc in
        absurd (omega arith)

-- x is the next of them, and r are those behind it
module _ {d : List ℕ} {s n k i : ℕ} {c : Chunks} {x : Chunk} {r : List Chunk} (h : Left d s n k i c) (e : chunks_left c ≡ x ∷ r) where
  pub left_some : i < k
  left_some = go (k - i) refl
    where
      go : (j : ℕ) → k - i ≡ j → i < k
      go zero q =
          let a = h.left ∙ chunks_none d (s + 8 * n + 8 * i) (s + 16 * n + 8 * i) (end_before d s n i) q in
          let z : ◌≡◌ {A = ℕ} 0 1 = cc in
          absurd (omega arith)
      go (suc j) q = omega arith

  split : x ∷ r ≡ record { start = (end_before d s n i + le_at 8 d (s + 8 * n + 8 * i)) % 2 ^ 64; size = le_at 8 d (s + 16 * n + 8 * i) }
      ∷ chunks_from d (s + 8 * n + 8 * i + 8) (s + 16 * n + 8 * i + 8) (((end_before d s n i + le_at 8 d (s + 8 * n + 8 * i)) % 2 ^ 64 + le_at 8 d (s + 16 * n + 8 * i)) % 2 ^ 64) (k - i - 1)
  split = sym e ∙ h.left ∙ chunks_more d (s + 8 * n + 8 * i) (s + 16 * n + 8 * i) (end_before d s n i) (k - i) (λ z. let l = left_some in absurd (omega arith)) refl refl

  left_chunk : x ≡ record { start = (end_before d s n i + le_at 8 d (s + 8 * n + 8 * i)) % 2 ^ 64; size = le_at 8 d (s + 16 * n + 8 * i) }
  left_chunk = let q = split in cc

  pub left_start : x.start ≡ (end_before d s n i + le_at 8 d (s + 8 * n + 8 * i)) % 2 ^ 64
  left_start = ap (λ (y : Chunk). y.start) left_chunk

  pub left_size : x.size ≡ le_at 8 d (s + 16 * n + 8 * i)
  left_size = ap (λ (y : Chunk). y.size) left_chunk

  pub left_next : {t : Chunks} → r ≡ chunks_left t → Left d s n k (i + 1) t
  left_next q =
      let l = left_some in
      let p = split in
      let rest : r ≡ chunks_from d (s + 8 * n + 8 * i + 8) (s + 16 * n + 8 * i + 8) (((end_before d s n i + le_at 8 d (s + 8 * n + 8 * i)) % 2 ^ 64 + le_at 8 d (s + 16 * n + 8 * i)) % 2 ^ 64) (k - i - 1) = cc in
      let wrapped = wrap (sum_to (start_steps d s n) i) (sum_to (sizes d s n) i) (le_at 8 d (s + 8 * n + 8 * i)) (le_at 8 d (s + 16 * n + 8 * i)) in
      record {
        most = h.most;
        below = omega arith;
        left = sym q ∙ rest ∙ same d (omega arith) (omega arith)
            (wrapped ∙ ap (λ (y : ℕ). y % 2 ^ 64) (omega (arith, sum_step (start_steps d s n) i, sum_step (sizes d s n) i))) (omega arith);
      }
    where
      wrap : (a b u v : ℕ) → (((a + b) % 2 ^ 64 + u) % 2 ^ 64 + v) % 2 ^ 64 ≡ (a + u + (b + v)) % 2 ^ 64
      wrap a b u v = omega arith

  left_walk : Walk d s n k i (end_before d s n i)
  left_walk = record { most = h.most; below = h.below; walked = refl }

  -- it lies in the data, and its item holds what the test of one more item adds
  module _ {spec : Sharding} (g : Ranged spec d s n) where
    pub met_inside : x.start + x.size ≤ length d
    met_inside = walk_inside g left_walk left_some _ _ _ refl left_start left_size

    pub met_fits : Fits w64 (x.start + x.size)
    met_fits = record { fits = omega (arith, met_inside, g.short) }

    pub met_led : Led spec d x.start x.size
    met_led = walk-led g left_walk left_some _ _ _ refl left_start left_size

    pub met_test : {a : ℕ} → a ≡ x.start - lead_length_of spec (take x.size (drop x.start d)) → (p : ℕ) → in_items spec d s n i p || within a (x.start + x.size) p ≡ in_items spec d s n (i + 1) p
    met_test = walk-test g left_walk left_some _ _ _ refl left_start left_size

-- one chunk more was taken
pub taken-more : (xs : List Chunk) (x : Chunk) → length (xs ++ x ∷ []) ≡ length xs + 1
taken-more xs x = simp length-append
