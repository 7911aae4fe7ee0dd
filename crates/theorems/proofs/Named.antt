-- Places put together, and names read back: demand 2's first sentence of them.
use Prim.Native.Nat.{ℕ, zero, suc, ◌+◌, ◌*◌, ◌/◌, ◌%◌, ◌^◌, ◌≤◌, ◌<◌}
use mathlib.Core.Path.{◌≡◌, refl, sym, ap, ◌∙◌}
use mathlib.Core.Bool.{true}
use mathlib.Core.Logic.{◌⊎◌, inl, inr, ⊎_elim}
use mathlib.Core.List.{List, [], ◌∷◌, append_assoc}
use native.Mathlib.Omega.{arith}
use native.Mathlib.Nat.{mul-add-div_right, div-eq_of_lt, add-mul-div_left, add-mul-mod_self_left, mod-eq_of_lt, mod-lt, pow-suc, div-lt_iff_lt-mul, le-div_iff_mul-le, eq-or-lt_of_le, le_of_suc-le-suc}
use native.Mathlib.Decide.{dec_lt}
use borrow.Author.Tests.{leb-false}
use lib.Dec.{lit<}
use lib.IntN.{ℤ, pos, negsuc}
use lib.ListN.{length, get_or, take, get_or-append}
use lib.Seq.{take-append_seam, get_or-append_seam}
use Rattle.refusal.specs.Checks.{first_number, unless}
use Rattle.std.specs.Prelude.{Ok}
use Rattle.refusal.specs.Answers.{refuse}
use Rattle.mesh_manifest.proofs.sound.Judged.{unrefused, none-head}
use Rattle.morton.specs.declared.grid.Volume.{Volume}
use Rattle.morton.specs.declared.grid.Cell.{Cell}
use Rattle.morton.specs.declared.bounds.Bounds.{Bounds}
use Rattle.morton.specs.bounds.Bounds.{bounds_of}
use Rattle.sharding.specs.declared.Sharding.{Sharding}
use Rattle.sharding.specs.Specification.{allowed, minishard_bits_of, shard_bits_of, shard_count_of}
use Rattle.sharding.specs.placement.Place.{hashed_id, minishard_of, shard_of, place_checks, place_answer}
use Rattle.names.specs.digits.Digits.{digit_byte, digits, digit_count, decimal}
use Rattle.names.specs.digits.Signs.{negative, sign_parts, signed_text}
use Rattle.names.specs.chunks.Spans.{span_of, span_text, two_text, spans_text}
use Rattle.names.specs.chunks.Chunks.{bounds_name, chunk_name, chunk_name_checks, chunk_name_answer, chunk_name_left}
use Rattle.names.specs.Shards.{shard_digits, file_name, file_name_checks, file_name_answer, file_name_left}
use Rattle.names.specs.declared.FileKind.{FileKind}
use Rattle.names.proofs.digits.Numerals.{digit_low, digit_high, length_digits, read-digits, count-some, count-holds, count-least, decimal-length, read-decimal}
use Rattle.names.proofs.Sharded.{digits_hold}
use Rattle.theorems.specs.Published.{hash_of, IsDecimal, IsHexadecimal, NamesFile, SaysNumber, SaysInteger, plain, minus, NamesChunk}

-- ---- places

module _ (spec : Sharding) (shifted low : ℕ) (h : low < 2 ^ spec.preshift) where
  shifts : (shifted * 2 ^ spec.preshift + low) / 2 ^ spec.preshift ≡ shifted
  shifts = mul-add-div_right (omega arith) shifted low ∙ ap (λ (n : ℕ). shifted + n) (div-eq_of_lt h) ∙ omega arith

  hashes : hashed_id spec (shifted * 2 ^ spec.preshift + low) ≡ hash_of spec shifted
  unfolding hashed_id
  hashes = ap (hash_of spec) shifts

-- low bits, the bits above them, and the rest
low_bits : (m k : ℕ) {h n : ℕ} → n < m → h ≡ n + m * k → h % m ≡ n
low_bits m k {n = n} l e = rw e (add-mul-mod_self_left n m k ∙ mod-eq_of_lt l)

high_bits : (m k : ℕ) {h n : ℕ} → n < m → h ≡ n + m * k → h / m ≡ k
high_bits m k {n = n} l e = rw e (add-mul-div_left n k (omega arith) ∙ ap (λ (j : ℕ). j + k) (div-eq_of_lt l) ∙ omega arith)

pub place_is : (spec : Sharding) (shifted low minishard shard rest : ℕ) → allowed spec ≡ true → low < 2 ^ spec.preshift → minishard < 2 ^ minishard_bits_of spec → shard < 2 ^ shard_bits_of spec
    → hash_of spec shifted ≡ minishard + 2 ^ minishard_bits_of spec * (shard + 2 ^ shard_bits_of spec * rest)
    → place_answer spec (shifted * 2 ^ spec.preshift + low) ≡ Ok (record { shard = shard; minishard = minishard })
unfolding place_answer place_checks first_number unless minishard_of shard_of
place_is spec shifted low minishard shard rest a hl hm hs e =
    let id = shifted * 2 ^ spec.preshift + low in
    let f : hashed_id spec id ≡ minishard + 2 ^ minishard_bits_of spec * (shard + 2 ^ shard_bits_of spec * rest) = hashes spec shifted low hl ∙ e in
    let p : minishard_of spec id ≡ minishard = low_bits (2 ^ minishard_bits_of spec) (shard + 2 ^ shard_bits_of spec * rest) hm f in
    let q : shard_of spec id ≡ shard = low_bits (2 ^ shard_bits_of spec) rest hs (high_bits (2 ^ minishard_bits_of spec) (shard + 2 ^ shard_bits_of spec * rest) hm f) in
    rw (a, p, q)

-- ---- digits

hex : (d : ℕ) → d < 16 → IsHexadecimal (digit_byte d)
hex d h = by (dec_lt d 10)
  where
    by : Dec (d < 10) → IsHexadecimal (digit_byte d)
    by (yes p) = inl (omega (arith, digit_low d p), omega (arith, digit_low d p))
    by (no f) = let p : 10 ≤ d = omega (arith, f) in inr (omega (arith, digit_high d p), omega (arith, digit_high d p))

module _ (b : ℕ) (pb : 0 < b) (P : ℕ → Type 0) (each : (d : ℕ) → d < b → P (digit_byte d)) where
  all_digits_lem : (k n i : ℕ) → i < k → P (get_or (digits b k n) i 0)
  unfolding digits
  all_digits_lem zero n i h = absurd (omega arith)
  all_digits_lem (suc k) n i h =
      let l = length_digits b k (n / b) in
      ⊎_elim
      (λ (e : i ≡ k). let g : i ≡ length (digits b k (n / b)) = omega arith in rw (g, get_or-append_seam (digits b k (n / b)) (digit_byte (n % b)) [] 0) (each (n % b) (mod-lt n pb)))
      (λ g. rw (get_or-append (digits b k (n / b)) (digit_byte (n % b) ∷ []) 0 i (omega arith)) (all_digits_lem k (n / b) i g))
      (eq-or-lt_of_le (le_of_suc-le-suc h))

-- ---- the name of a shard's file

few-digits : (spec : Sharding) (k : ℕ) → k ≡ shard_digits spec → (shard_bits_of spec ≤ 4 * k) × ((4 * k < shard_bits_of spec + 4) ⊎ (k ≡ 1)) × (0 < k)
unfolding shard_digits
few-digits spec k e = (omega arith, by (dec_lt 0 (shard_bits_of spec)), omega arith)
  where
    by : Dec (0 < shard_bits_of spec) → (4 * k < shard_bits_of spec + 4) ⊎ (k ≡ 1)
    by (yes p) = inl (omega arith)
    by (no f) = let z : shard_bits_of spec ≡ 0 = omega (arith, f) in inr (omega arith)

names-file : (kind : FileKind) (spec : Sharding) (shard : ℕ) → shard < shard_count_of spec → NamesFile kind spec shard (file_name kind spec shard)
unfolding file_name
names-file kind spec shard h =
    let k = shard_digits spec in
    let l = length_digits 16 k shard in
    let f = few-digits spec (length (digits 16 k shard)) l in
    record {
      digits = digits 16 k shard;
      parts = refl;
      lower = λ i g. all_digits_lem 16 (lit< tt) IsHexadecimal hex k shard i (omega arith);
      reads = read-digits 16 (lit< tt) k shard (digits_hold spec shard h);
      enough = f.0;
      few = f.1;
      some = f.2;
    }

pub file-name-is : (kind : FileKind) (spec : Sharding) (shard : ℕ) (out : List ℕ) (n : ℕ) → file_name_answer kind spec shard out ≡ Ok n → NamesFile kind spec shard (take n (file_name_left kind spec shard out))
unfolding file_name_answer file_name_left file_name_checks unless
file-name-is kind spec shard out n e =
    let name = file_name kind spec shard in
    let z = unrefused refuse (file_name_checks kind spec shard out) (Ok (length name)) (λ k p. cc) e in
    let q : n ≡ length name = cc z.1 in
    let h = leb-false (shard_count_of spec) shard (none-head 4 _ _ (none-head 0 _ _ z.0).1).0 in
    rw (z.0, q, take-append_seam name _) (names-file kind spec shard h)

-- ---- decimal numbers

decimal_digit : (d : ℕ) → d < 10 → IsDecimal (digit_byte d)
decimal_digit d h = (omega (arith, digit_low d h), omega (arith, digit_low d h))

-- the highest digit of a number is no zero
lead : (k n : ℕ) → 10 ^ k ≤ n → n < 10 ^ suc k → get_or (digits 10 (suc k) n) 0 0 ≡ 48 → ⊥
unfolding digits
lead zero n l h e = omega (arith, digit_low (n % 10) (omega arith))
lead (suc k) n l h e =
    let g : 0 < length (digits 10 (suc k) (n / 10)) = omega (arith, length_digits 10 (suc k) (n / 10)) in
    lead k (n / 10) ((le-div_iff_mul-le (lit< tt)).1 (rw (pow-suc 10 k) at l)) ((div-lt_iff_lt-mul (lit< tt)).1 (rw (pow-suc 10 (suc k)) at h))
    (sym (get_or-append (digits 10 (suc k) (n / 10)) (digit_byte (n % 10) ∷ []) 0 0 g) ∙ e)

no_zero : (n k : ℕ) → digit_count 10 n ≡ k → get_or (digits 10 k n) 0 0 ≡ 48 → k ≡ 1
no_zero n zero c e = absurd (omega (arith, count-some 10 n))
no_zero n (suc zero) c e = refl
no_zero n (suc (suc k)) c e = by (dec_lt n (10 ^ suc k))
  where
    by : Dec (n < 10 ^ suc k) → suc (suc k) ≡ 1
    by (yes p) = absurd (omega (arith, count-least 10 (lit< tt) (suc k) n (omega arith) p))
    by (no f) =
        let l : 10 ^ suc k ≤ n = omega (arith, f) in
        let h : n < 10 ^ suc (suc k) = rw c at (count-holds 10 (lit< tt) n) in
        absurd (lead (suc k) n l h e)

says_number : (n : ℕ) → SaysNumber (decimal n) n
says_number n =
    record {
      some = omega (arith, decimal-length n, count-some 10 n);
      digits = λ i h. unfold decimal in all_digits_lem 10 (lit< tt) IsDecimal decimal_digit (digit_count 10 n) n i (omega (arith, decimal-length n));
      reads = read-decimal n;
      plain = λ e. decimal-length n ∙ no_zero n (digit_count 10 n) refl (unfold decimal in e);
    }

says_integer : (z : ℤ) → SaysInteger (signed_text (sign_parts z)) z
unfolding signed_text sign_parts negative
says_integer (pos n) = plain (says_number n)
says_integer (negsuc n) = minus (says_number (suc n))

-- ---- the name of a chunk

abbrev text : ℤ → List ℕ
text z = signed_text (sign_parts z)

names-chunk : (b : Bounds) → NamesChunk b (bounds_name b)
names-chunk b =
    record {
      x_begin = text b.begin.x;
      x_end = text b.end.x;
      y_begin = text b.begin.y;
      y_end = text b.end.y;
      z_begin = text b.begin.z;
      z_end = text b.end.z;
      parts = unfold bounds_name spans_text two_text span_text span_of in simp append_assoc;
      says_x_begin = says_integer _;
      says_x_end = says_integer _;
      says_y_begin = says_integer _;
      says_y_end = says_integer _;
      says_z_begin = says_integer _;
      says_z_end = says_integer _;
    }

pub chunk-name-is : (v : Volume) (c : Cell) (out : List ℕ) (n : ℕ) → chunk_name_answer v c out ≡ Ok n → NamesChunk (bounds_of v c) (take n (chunk_name_left v c out))
unfolding chunk_name_answer chunk_name_left chunk_name unless
chunk-name-is v c out n e =
    let name = chunk_name v c in
    let z = unrefused refuse (chunk_name_checks v c out) (Ok (length name)) (λ k p. cc) e in
    let q : n ≡ length name = cc z.1 in
    rw (z.0, q, take-append_seam name _) (names-chunk (bounds_of v c))
