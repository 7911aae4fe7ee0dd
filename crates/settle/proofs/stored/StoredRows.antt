-- A minishard that may be written as it stands: the rows of the settled minishard index as parts of the data, and the writes that make it.
use Rattle.std.proofs.Common.{◌≡◌, ℕ, zero, suc, ◌+◌, ◌-◌, ◌*◌, ◌^◌, ◌<◌, ◌≤◌, List, [], ◌∷◌, ◌++◌, length, get_or, take, drop, replicate, sym, refl, ap, ◌∙◌, append_assoc, not-suc-le-zero, add-zero, arith, length-append, drop-drop, take-add, w8, Fits}
use lib.ListN.{replicate-append-replicate, length-replicate}
use Rattle.endian.specs.Little.{le, le_at, row}
use Rattle.endian.specs.Place.{paste}
use Rattle.endian.specs.Range.{sum_to}
use Rattle.endian.proofs.Little.{le-le_at, le_at-bound, length-le}
use Rattle.endian.proofs.Part.{part_length}
use Rattle.endian.proofs.Paste.{paste-then}
use Rattle.sharding.specs.declared.Sharding.{Sharding}
use Rattle.shard.specs.index.Index.{id_steps, start_steps, sizes, id_at, end_at, chunk_at}
use Rattle.shard.specs.Items.{Item, NoLeads}
use Rattle.shard.proofs.Chunks.{pair, item-pair}
use Rattle.settled_form.specs.Form.{chunks_of, id_row, start_row, size_row, index_of, part_of}
use Rattle.settled_form.specs.Content.{items_from, items_at}
use Rattle.settled_form.proofs.Measures.{length-chunks}
use Rattle.settle.specs.minishard_length.Writing.{ReadableIndex, Stored, chunks_from}
use Rattle.settle.proofs.minishard_length.Lengths.{lengths_alone}

-- ---- the items of a minishard index, one after the other

pub items_none : (spec : Sharding) (d : List ℕ) (s n i k : ℕ) → k ≡ 0 → items_from spec d s n i k ≡ []
unfolding items_from
items_none spec d s n i k e = rw e

pub items_all : (spec : Sharding) (d : List ℕ) (s n : ℕ) → items_at spec d s n ≡ items_from spec d s n 0 n
unfolding items_at
items_all spec d s n = refl

-- without leads
pub items_cons : (spec : Sharding) (d : List ℕ) (s n i k : ℕ) → NoLeads spec → items_from spec d s n i (suc k) ≡ pair (id_at (id_steps d s) i) (chunk_at d s n i) ∷ items_from spec d s n (suc i) k
unfolding items_from
items_cons spec d s n i k none = rw (item-pair spec none d s n i)

-- ---- rows that are read are bytes of the data

-- k of the u64s that stand in d from p on
unfoldable raw : List ℕ → ℕ → ℕ → List ℕ
raw d p zero = []
raw d p (suc k) = le_at 8 d p ∷ raw d (p + 8) k

row_raw : (d : List ℕ) (p k : ℕ) → ((i : ℕ) → get_or d i 0 < 256) → p + 8 * k ≤ length d → row (raw d p k) ≡ take (8 * k) (drop p d)
unfolding row raw
row_raw d p zero b h = refl
row_raw d p (suc k) b h =
    let e : 8 * suc k ≡ 8 + 8 * k = omega arith in
    rw (le-le_at 8 d p b (omega arith), row_raw d (p + 8) k b (omega arith), e, take-add 8 (8 * k) (drop p d), drop-drop 8 p d)

-- the id before entry i
unfoldable id_before : (ℕ → ℕ) → ℕ → ℕ
id_before steps zero = 0
id_before steps (suc i) = id_at steps i

-- where it is below the next one, the step between them did not wrap
id-step : (steps : ℕ → ℕ) (n i : ℕ) → ((j : ℕ) → steps j < 2 ^ 64) → ((j : ℕ) → suc j < n → id_at steps j < id_at steps (suc j)) → i < n → id_at steps i - id_before steps i ≡ steps i
unfolding id_at id_before sum_to
id-step steps n zero b up l = omega (arith, b 0)
id-step steps n (suc i) b up l = omega (arith, b (suc i), up i l)

next-before : (steps : ℕ → ℕ) (i : ℕ) → id_before steps (suc i) ≡ id_at steps i
unfolding id_before
next-before steps i = refl

ids_raw : (spec : Sharding) (d : List ℕ) (s n i k : ℕ) → ((j : ℕ) → get_or d j 0 < 256) → Stored spec d s n → i + k ≤ n → id_row (id_before (id_steps d s) i) (items_from spec d s n i k) ≡ raw d (s + 8 * i) k
unfolding id_row raw
ids_raw spec d s n i zero b t l = rw (items_none spec d s n i 0 refl)
ids_raw spec d s n i (suc k) b t l =
    let a = next-before (id_steps d s) i in
    let c = id-step (id_steps d s) n i (λ j. le_at-bound 8 d (s + 8 * j) b) t.up (omega arith) in
    let e : s + 8 * i + 8 ≡ s + 8 * suc i = omega arith in
    let r = ids_raw spec d s n (suc i) k b t (omega arith) in
    rw (items_cons spec d s n i k t.alone) (cc)

first-before : (steps : ℕ → ℕ) → id_before steps 0 ≡ 0
unfolding id_before
first-before steps = refl

sizes_raw : (spec : Sharding) (d : List ℕ) (s n i k : ℕ) → NoLeads spec → ((j : ℕ) → j < n → end_at (start_steps d s n) (sizes d s n) j ≤ length d) → i + k ≤ n
    → size_row (items_from spec d s n i k) ≡ raw d (s + 16 * n + 8 * i) k
unfolding size_row raw
sizes_raw spec d s n i zero none h l = rw (items_none spec d s n i 0 refl)
sizes_raw spec d s n i (suc k) none h l =
    let t : length (chunk_at d s n i) ≡ le_at 8 d (s + 16 * n + 8 * i) = part_length d _ _ (h i (omega arith)) in
    let e : s + 16 * n + 8 * i + 8 ≡ s + 16 * n + 8 * suc i = omega arith in
    let r = sizes_raw spec d s n (suc i) k none h (omega arith) in
    rw (items_cons spec d s n i k none) (cc)

-- ---- the start steps: the first is the place of the minishard, and as there are no leads the others are 0

starts-zero : (spec : Sharding) (d : List ℕ) (s n i k : ℕ) → NoLeads spec → row (start_row 0 (items_from spec d s n i k)) ≡ replicate (8 * k) 0
unfolding row start_row le
starts-zero spec d s n i zero none = rw (items_none spec d s n i 0 refl)
starts-zero spec d s n i (suc k) none =
    let e : 8 * suc k ≡ 8 + 8 * k = omega arith in
    rw (items_cons spec d s n i k none, starts-zero spec d s n (suc i) k none, e, ← replicate-append-replicate {A = ℕ} 8 (8 * k) 0)

starts-bytes : (spec : Sharding) (d : List ℕ) (s n p : ℕ) → NoLeads spec → 0 < n → row (start_row p (items_from spec d s n 0 n)) ≡ le 8 p ++ replicate (8 * n - 8) 0
unfolding row start_row
starts-bytes spec d s zero p none l = absurd (not-suc-le-zero l)
starts-bytes spec d s (suc k) p none l =
    let e : 8 * suc k - 8 ≡ 8 * k = omega arith in
    rw (items_cons spec d s (suc k) 0 k none, starts-zero spec d s (suc k) 1 k none, add-zero p, e)

-- ---- a settled minishard

-- its chunks alone
alone-from : (spec : Sharding) (d : List ℕ) (s n i k : ℕ) → NoLeads spec → chunks_of (items_from spec d s n i k) ≡ chunks_from d s n i k
unfolding chunks_of chunks_from
alone-from spec d s n i zero none = rw (items_none spec d s n i 0 refl)
alone-from spec d s n i (suc k) none = rw (items_cons spec d s n i k none, alone-from spec d s n (suc i) k none)

alone : (spec : Sharding) (d : List ℕ) (s n : ℕ) → NoLeads spec → chunks_of (items_at spec d s n) ≡ chunks_from d s n 0 n
alone spec d s n none = ap (λ (z : List Item). chunks_of z) (items_all spec d s n) ∙ alone-from spec d s n 0 n none

-- as it is written
part-is : (spec : Sharding) (d : List ℕ) (s n p : ℕ) → ReadableIndex d s n → Stored spec d s n → ((i : ℕ) → get_or d i 0 < 256)
    → part_of p (items_at spec d s n) ≡ chunks_of (items_at spec d s n) ++ (take (8 * n) (drop s d) ++ ((le 8 p ++ replicate (8 * n - 8) 0) ++ take (8 * n) (drop (s + 16 * n) d)))
unfolding part_of index_of items_at
part-is spec d s n p r t b =
    let w = r.index in
    let a : id_row 0 (items_from spec d s n 0 n) ≡ raw d s n =
    ap (λ (z : ℕ). id_row z (items_from spec d s n 0 n)) (sym (first-before (id_steps d s))) ∙ ids_raw spec d s n 0 n b t (omega arith) ∙ ap (λ (z : ℕ). raw d z n) (omega arith) in
    let z : size_row (items_from spec d s n 0 n) ≡ raw d (s + 16 * n) n =
    sizes_raw spec d s n 0 n t.alone r.inside (omega arith) ∙ ap (λ (z : ℕ). raw d z n) (omega arith) in
    rw (a, z, row_raw d s n b (omega arith), row_raw d (s + 16 * n) n b (omega arith), starts-bytes spec d s n p t.alone r.some)

-- four writes make it
pub part-written : (spec : Sharding) (d : List ℕ) (s n p at ids : ℕ) (o : List ℕ) {o₁ o₂ o₃ o₄ : List ℕ} → ReadableIndex d s n → Stored spec d s n → ((i : ℕ) → Fits w8 (get_or d i 0))
    → at + (sum_to (sizes d s n) n + 24 * n) ≤ length o → ids ≡ at + sum_to (sizes d s n) n
    → o₁ ≡ paste at (chunks_from d s n 0 n) o
    → o₂ ≡ paste ids (take (8 * n) (drop s d)) o₁
    → o₃ ≡ paste (ids + 8 * n) (le 8 p ++ replicate (8 * n - 8) 0) o₂
    → o₄ ≡ paste (ids + 8 * n + 8 * n) (take (8 * n) (drop (s + 16 * n) d)) o₃
    → o₄ ≡ paste at (part_of p (items_at spec d s n)) o
part-written spec d s n p at ids o r t b l e h₁ h₂ h₃ h₄ =
    let z = lengths_alone spec r t.alone in
    let w = r.index in
    let A = chunks_of (items_at spec d s n) in
    let B = take (8 * n) (drop s d) in
    let C = le 8 p ++ replicate (8 * n - 8) 0 in
    let D = take (8 * n) (drop (s + 16 * n) d) in
    let la = length-chunks (items_at spec d s n) in
    let lb : length B ≡ 8 * n = part_length d s (8 * n) (omega arith) in
    let lc : length C ≡ 8 * n = simp (length-append, length-le, length-replicate) (omega (arith, r.some)) in
    let lab = length-append A B in
    let labc = length-append (A ++ B) C in
    let g₂ = paste-then at ids A B o (rw (alone spec d s n t.alone) h₁) h₂ (omega arith) (omega arith) in
    let g₃ = paste-then at (ids + 8 * n) (A ++ B) C o g₂ h₃ (omega arith) (omega arith) in
    let g₄ = paste-then at (ids + 8 * n + 8 * n) ((A ++ B) ++ C) D o g₃ h₄ (omega arith) (omega arith) in
    g₄ ∙ rw (part-is spec d s n p r t (λ i. (b i).fits)) (simp append_assoc)
