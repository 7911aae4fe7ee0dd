-- Laws of little-endian numbers: what is written is read back, and a number read is the same in any part that holds it.
use Prim.Native.Nat.{ℕ, zero, suc, ◌+◌, ◌*◌, ◌/◌, ◌%◌, ◌^◌, ◌≤◌, ◌<◌}
use mathlib.Core.Path.{◌≡◌, refl, sym, ap, ◌∙◌}
use mathlib.Core.List.{List, [], ◌∷◌, ◌++◌}
use native.Mathlib.Omega.{arith}
use native.Mathlib.Nat.{add-zero, zero-add, add-suc, suc-add, mul_assoc, mul_comm, pow-succ', div-one, div-div-eq-div-mul}
use lib.ListN.{length, get_or, take, drop, replicate, length-append}
use lib.Seq.{get_or-drop, get_or-take, drop-append_seam, drop-cons}
use Rattle.std.specs.Int.{bytes_low_first, from_le_bytes, w16, w32, w64}
use Rattle.endian.specs.Little.{le, le_at, row}

-- ---- a number read from a part

pub le_at-drop : (k : ℕ) (s : List ℕ) (n i : ℕ) → le_at k (drop n s) i ≡ le_at k s (n + i)
unfolding le_at
le_at-drop zero s n i = refl
le_at-drop (suc k) s n i = rw (get_or-drop n s i 0, le_at-drop k s n (suc i), add-suc n i)

pub le_at-take : (k : ℕ) (s : List ℕ) (n i : ℕ) → i + k ≤ n → le_at k (take n s) i ≡ le_at k s i
unfolding le_at
le_at-take zero s n i h = refl
le_at-take (suc k) s n i h =
    let g : i < n = omega arith in
    let f : suc i + k ≤ n = omega arith in
    rw (get_or-take n s i 0 g, le_at-take k s n (suc i) f)

le_at-cons : (k x : ℕ) (s : List ℕ) (i : ℕ) → le_at k (x ∷ s) (suc i) ≡ le_at k s i
unfolding le_at
le_at-cons zero x s i = refl
le_at-cons (suc k) x s i = rw (le_at-cons k x s (suc i))

-- ---- lengths and bounds

pub length-le : (k n : ℕ) → length (le k n) ≡ k
unfolding le
length-le zero n = refl
length-le (suc k) n = ap suc (length-le k (n / 256))

pub length-row : (ns : List ℕ) → length (row ns) ≡ 8 * length ns
unfolding row
length-row [] = refl
length-row (n ∷ ns) = rw (length-append (le 8 n) (row ns), length-le 8 n, length-row ns) (omega arith)

pub le_at-bound : (k : ℕ) (s : List ℕ) (p : ℕ) → ((i : ℕ) → get_or s i 0 < 256) → le_at k s p < 256 ^ k
unfolding le_at
le_at-bound zero s p b = omega arith
le_at-bound (suc k) s p b = omega (arith, le_at-bound k s (suc p) b, b p)

-- ---- what is written is read back, and what is read gives back the bytes

pub le_at-le : (k n : ℕ) (b : List ℕ) → n < 256 ^ k → le_at k (le k n ++ b) 0 ≡ n
unfolding le le_at
le_at-le zero n b h = omega arith
le_at-le (suc k) n b h =
    let g : n / 256 < 256 ^ k = omega arith in
    rw (le_at-cons k (n % 256) (le k (n / 256) ++ b) 0, le_at-le k (n / 256) b g) (omega arith)

pub le_at-written : (k n : ℕ) (a b : List ℕ) → n < 256 ^ k → le_at k (a ++ (le k n ++ b)) (length a) ≡ n
le_at-written k n a b h =
    ap (le_at k (a ++ (le k n ++ b))) (sym (add-zero (length a)))
    ∙ sym (le_at-drop k (a ++ (le k n ++ b)) (length a) 0)
    ∙ rw (drop-append_seam a (le k n ++ b)) (le_at-le k n b h)

pub le-le_at : (k : ℕ) (s : List ℕ) (p : ℕ) → ((i : ℕ) → get_or s i 0 < 256) → p + k ≤ length s → le k (le_at k s p) ≡ take k (drop p s)
unfolding le le_at
le-le_at zero s p b h = refl
le-le_at (suc k) s p b h =
    let t = le-le_at k s (suc p) b (omega arith) in
    let e : (get_or s p 0 + 256 * le_at k s (suc p)) % 256 ≡ get_or s p 0 = omega (arith, b p) in
    let f : (get_or s p 0 + 256 * le_at k s (suc p)) / 256 ≡ le_at k s (suc p) = omega (arith, b p) in
    let g : p < length s = omega arith in
    rw (drop-cons s p 0 g, e, f, t)

-- ---- a number by its halves

pub le_at_halves : (j k : ℕ) (s : List ℕ) (at : ℕ) → le_at (j + k) s at ≡ le_at j s at + 256 ^ j * le_at k s (at + j)
unfolding le_at
le_at_halves zero k s at = rw (zero-add, add-zero) (omega arith)
le_at_halves (suc j) k s at =
    rw (suc-add, pow-succ', le_at_halves j k s (suc at), suc-add at j, add-suc at j, mul_assoc) (omega arith)

pub le_halves : (j k v : ℕ) → le (j + k) v ≡ le j v ++ le k (v / 256 ^ j)
unfolding le
le_halves zero k v = rw (zero-add, div-one)
le_halves (suc j) k v = rw (suc-add, pow-succ', le_halves j k (v / 256), div-div-eq-div-mul)

pub le_at_join : (j k : ℕ) (s : List ℕ) (at : ℕ) {a b : ℕ} → a ≡ le_at j s at → b ≡ le_at k s (at + j) → a + 256 ^ j * b ≡ le_at (j + k) s at
le_at_join j k s at p q = rw (p, q) (sym (le_at_halves j k s at))

-- a u64 by its two u32
pub le_at_two : (s : List ℕ) (at : ℕ) {a b : ℕ} → a ≡ le_at 4 s at → b ≡ le_at 4 s (at + 4) → a + 4294967296 * b ≡ le_at 8 s at
le_at_two s at p q = le_at_join 4 4 s at p q

-- the low half of a u64 alone
pub le_low : (v : ℕ) → le 4 (v % 4294967296) ≡ le 4 v
unfolding le
le_low v =
    let a : v % 4294967296 % 256 ≡ v % 256 = omega arith in
    let b : v % 4294967296 / 256 % 256 ≡ v / 256 % 256 = omega arith in
    let c : v % 4294967296 / 256 / 256 % 256 ≡ v / 256 / 256 % 256 = omega arith in
    let d : v % 4294967296 / 256 / 256 / 256 % 256 ≡ v / 256 / 256 / 256 % 256 = omega arith in
    rw (a, b, c, d) refl

-- ---- as the library has them

bytes_le-from : (i k n : ℕ) → bytes_low_first i k n ≡ le k (n / 256 ^ i)
unfolding le
bytes_le-from i zero n = refl
bytes_le-from zero (suc k) n = rw (div-one, bytes_le-from 1 k n)
bytes_le-from (suc i) (suc k) n = rw (bytes_le-from (suc (suc i)) k n, div-div-eq-div-mul, mul_comm (256 ^ suc i) 256, pow-succ' 256 (suc i)) refl

-- the bytes that `to_le_bytes` makes
pub le_bytes : (k n : ℕ) → le k n ≡ bytes_low_first 0 k n
le_bytes k n = sym (bytes_le-from 0 k n ∙ rw div-one)

get_d_zeros : (s : List ℕ) (n i : ℕ) → get_or (s ++ replicate n 0) i 0 ≡ get_or s i 0
get_d_zeros [] zero i = refl
get_d_zeros [] (suc n) zero = refl
get_d_zeros [] (suc n) (suc i) = get_d_zeros [] n i
get_d_zeros (x ∷ s) n zero = refl
get_d_zeros (x ∷ s) n (suc i) = get_d_zeros s n i

-- zeros behind the bytes change no number: a byte past the end counts as 0
pub le_at-zeros : (k : ℕ) (s : List ℕ) (n at : ℕ) → le_at k (s ++ replicate n 0) at ≡ le_at k s at
unfolding le_at
le_at-zeros zero s n at = refl
le_at-zeros (suc k) s n at = rw (get_d_zeros s n at, le_at-zeros k s n (suc at))

-- ---- what `from_le_bytes` makes of a part's bytes

part_at : (k : ℕ) (s : List ℕ) (at : ℕ) → le_at k s at ≡ le_at k (take k (drop at s)) 0
part_at k s at = rw (le_at-take k (drop at s) k 0 (omega arith), le_at-drop k s at 0, add-zero)

number_2 : (b : List ℕ) → le_at 2 b 0 ≡ from_le_bytes w16 b
unfolding le_at
number_2 b = omega arith

number_4 : (b : List ℕ) → le_at 4 b 0 ≡ from_le_bytes w32 b
unfolding le_at
number_4 b = omega arith

number_8 : (b : List ℕ) → le_at 8 b 0 ≡ from_le_bytes w64 b
unfolding le_at
number_8 b = omega arith

pub le_at_bytes_2 : (s : List ℕ) (at : ℕ) → le_at 2 s at ≡ from_le_bytes w16 (take 2 (drop at s))
le_at_bytes_2 s at = part_at 2 s at ∙ number_2 (take 2 (drop at s))

pub le_at_bytes_4 : (s : List ℕ) (at : ℕ) → le_at 4 s at ≡ from_le_bytes w32 (take 4 (drop at s))
le_at_bytes_4 s at = part_at 4 s at ∙ number_4 (take 4 (drop at s))

pub le_at_bytes_8 : (s : List ℕ) (at : ℕ) → le_at 8 s at ≡ from_le_bytes w64 (take 8 (drop at s))
le_at_bytes_8 s at = part_at 8 s at ∙ number_8 (take 8 (drop at s))
