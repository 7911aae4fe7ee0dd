-- What holds at the head of the loop over the manifests of a minishard.
use Rattle.std.proofs.Common.{◌≡◌, ℕ, suc, ◌+◌, ◌-◌, ◌*◌, ◌%◌, ◌^◌, ◌<◌, ◌≤◌, List, length, take, drop, sym, refl, ap, ◌∙◌, add-one, arith, w64, Fits, ne_eqb}
use Rattle.endian.specs.Range.{sum_to, any_below}
use Rattle.endian.proofs.Ranges.{sum-none, sum_step}
use Rattle.shard.specs.declared.index.Fault.{Fault}
use Rattle.shard.specs.declared.manifests.Failed.{Failed}
use Rattle.shard.specs.index.Index.{start_steps, sizes, start_at, chunk_at, most_shard_bytes}
use Rattle.shard.specs.index.Tests.{fault, first_of}
use Rattle.shard.specs.index.Reading.{Readable}
use Rattle.shard.specs.manifests.Each.{failed, least_of, failed_number_at, lesser, placed}
use Rattle.shard.specs.manifests.Mesh.{manifest_tests, manifest_number, wrong_length, bad_real, unordered_nodes, fragments_outside}
use Rattle.shard.proofs.manifests.Least.{entry_more, placed-least, entry-most}

pub record Walked (d : List ℕ) (p n i : ℕ) (found : Failed) (at : ℕ) : Type 0 where
  pub within : i ≤ n
  pub total : at ≡ (sum_to (start_steps d p n) i + sum_to (sizes d p n) i) % 2 ^ 64
  pub so_far : found ≡ least_of i (manifest_tests d p n)

none_yet : (d : List ℕ) (p n : ℕ) → least_of 0 (manifest_tests d p n) ≡ failed 0 0
unfolding least_of manifest_tests any_below
none_yet d p n = refl

pub walked_start : (d : List ℕ) (p n : ℕ) → Walked d p n 0 (failed 0 0) 0
walked_start d p n =
    record { within = omega arith; total = omega (arith, sum-none (start_steps d p n), sum-none (sizes d p n)); so_far = sym (none_yet d p n) }

-- the tests of entry i, by its start and its bytes
at_entry : (d : List ℕ) (p n i : ℕ) → failed_number_at (manifest_tests d p n) i ≡ manifest_number (start_at (start_steps d p n) (sizes d p n) i) (chunk_at d p n i)
unfolding failed_number_at manifest_tests manifest_number wrong_length bad_real unordered_nodes fragments_outside
at_entry d p n i = refl

tests_more : (d : List ℕ) (p n i : ℕ) → least_of (suc i) (manifest_tests d p n) ≡ lesser (least_of i (manifest_tests d p n)) (failed_number_at (manifest_tests d p n) i) i
unfolding manifest_tests
tests_more d p n i = entry_more 0 i (manifest_tests d p n) (omega arith, (omega arith, (omega arith, (omega arith, tt))))

-- the sum goes on: a chunk's end within the file wraps no more
wrap_on : (s x : ℕ) {at u : ℕ} → at ≡ s % 2 ^ 64 → u ≡ (at + x) % 2 ^ 64 → u ≡ (s + x) % 2 ^ 64
wrap_on s x e p = omega arith

end_on : (s y : ℕ) {u : ℕ} → u ≡ s % 2 ^ 64 → u + y ≤ 1073741824 → u + y ≡ (s + y) % 2 ^ 64
end_on s y e l = omega arith

sum-on : (a b x y : ℕ) {at u s t : ℕ} → at ≡ (a + b) % 2 ^ 64 → u ≡ (at + x) % 2 ^ 64 → u + y ≤ 1073741824 → s ≡ a + x → t ≡ b + y → u + y ≡ (s + t) % 2 ^ 64
sum-on a b x y e f l g h = end_on (a + b + x) y (wrap_on (a + b) x e f) l ∙ ap (λ (k : ℕ). k % 2 ^ 64) (omega (arith, g, h))

module _ (base : ℕ) {d : List ℕ} {p n i at : ℕ} {found : Failed} (w : Readable base d p n) (r : Walked d p n i found at) (l : i < n) {x y u : ℕ}
    (e : x ≡ start_steps d p n i) (a : u ≡ (at + x) % 2 ^ 64) (f : y ≡ sizes d p n i) where
  start_is : u ≡ start_at (start_steps d p n) (sizes d p n) i
  unfolding start_at sum_to
  start_is = let t = r.total in omega arith

  pub ends-inside : u + y ≤ length d
  ends-inside = omega (arith, w.inside i l, start_is)

  pub end_fits : Fits w64 (u + y)
  end_fits = record { fits = omega (arith, ends-inside, w.short) }

  pub walked_turn : {v : ℕ} {next : Failed} → v ≡ manifest_number u (take y (drop u d)) → next ≡ lesser found v i → Walked d p n (i + 1) next (u + y)
  walked_turn {v} {next} g h =
      record {
        within = omega arith;
        total = sum-on (sum_to (start_steps d p n) i) (sum_to (sizes d p n) i) x y r.total a (omega (arith, ends-inside, w.short))
            (sum_step (start_steps d p n) i ∙ ap (λ (k : ℕ). sum_to (start_steps d p n) i + k) (sym e))
            (sum_step (sizes d p n) i ∙ ap (λ (k : ℕ). sum_to (sizes d p n) i + k) (sym f));
        so_far = h ∙ turned;
      }
    where
      same : take y (drop u d) ≡ chunk_at d p n i
      same = rw (f, ← start_is)

      turned : lesser found v i ≡ least_of (i + 1) (manifest_tests d p n)
      turned = rw (add-one, tests_more d p n i, at_entry d p n i, r.so_far, g, same, start_is)

pub walked_end : {d : List ℕ} {p n i at : ℕ} {found : Failed} → Walked d p n i found at → n ≤ i → found ≡ least_of n (manifest_tests d p n)
walked_end {d} {p} {n} {i} r l = let e : i ≡ n = omega arith in r.so_far ∙ ap (λ (k : ℕ). least_of k (manifest_tests d p n)) e

pub data_short : (base : ℕ) {d : List ℕ} {p n : ℕ} → Readable base d p n → length d ≤ most_shard_bytes
data_short base w = w.short

-- a chunk's bytes as the part of the data from its start up to its end
pub part-number : (d : List ℕ) (u y : ℕ) {v : ℕ} → v ≡ manifest_number u (take (u + y - u) (drop u d)) → v ≡ manifest_number u (take y (drop u d))
part-number d u y e = let k : u + y - u ≡ y = omega arith in e ∙ ap (λ (n : ℕ). manifest_number u (take n (drop u d))) k

-- ---- the position

pub as_fault : (base : ℕ) (d : List ℕ) (p n : ℕ) {found : Failed} {f : Fault} → found ≡ least_of n (manifest_tests d p n) → f ≡ placed (base + p) n 1 found → f ≡ first_of (base + p) n (manifest_tests d p n)
unfolding manifest_tests
as_fault base d p n e g =
    g ∙ ap (placed (base + p) n 1) e ∙ sym (placed-least (base + p) n 1 0 (manifest_tests d p n) (refl, (refl, (refl, (refl, tt)))) (omega arith, (omega arith, (omega arith, (omega arith, tt)))))

pub placed-none : (base p n : ℕ) (found : Failed) → found.number ≡ 0 → fault 0 0 ≡ placed (base + p) n 1 found
unfolding placed
placed-none base p n found z = sym (rw z)

pub placed-some : (base p n : ℕ) (found : Failed) {v : ℕ} → (found.number ≡ 0 → ⊥) → v ≡ base + (p + 8 * n) + 8 * found.entry → fault found.number v ≡ placed (base + p) n 1 found
unfolding placed
placed-some base p n found {v} h e =
    sym (rw (ne_eqb found.number 0 h) (ap (fault found.number) (same (omega arith))))
  where
    same : base + p + 8 * (1 * n + found.entry) ≡ base + (p + 8 * n) + 8 * found.entry → base + p + 8 * (1 * n + found.entry) ≡ v
    same q = q ∙ sym e

module _ (base : ℕ) {d : List ℕ} {p n : ℕ} {found : Failed} (w : Readable base d p n) (e : found ≡ least_of n (manifest_tests d p n)) where
  pub step_fits : Fits w64 (8 * found.entry)
  step_fits = let m : found.entry ≤ n = rw e (entry-most n (manifest_tests d p n)) in record { fits = omega (arith, w.short, w.whole) }

  pub place-fits : Fits w64 (base + (p + 8 * n) + 8 * found.entry)
  place-fits = let m : found.entry ≤ n = rw e (entry-most n (manifest_tests d p n)) in record { fits = omega (arith, w.near, w.short, w.whole) }

  pub fault-none : found.number ≡ 0 → fault 0 0 ≡ first_of (base + p) n (manifest_tests d p n)
  fault-none z = as_fault base d p n e (placed-none base p n found z)

  pub fault-some : (found.number ≡ 0 → ⊥) → fault found.number (base + (p + 8 * n) + 8 * found.entry) ≡ first_of (base + p) n (manifest_tests d p n)
  fault-some h = as_fault base d p n e (placed-some base p n found h refl)
