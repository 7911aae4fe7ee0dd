-- Laws of `paste`: lengths, one write after another, writes apart, a write to a part of a slice, and a number written by its halves.
use Prim.Native.Nat.{ℕ, ◌+◌, ◌-◌, ◌/◌, ◌%◌, ◌^◌, ◌≤◌, ◌<◌}
use mathlib.Core.Path.{◌≡◌, refl, sym, ap, ◌∙◌}
use mathlib.Core.List.{List, [], ◌∷◌, ◌++◌, append_assoc}
use native.Mathlib.Omega.{arith}
use native.Mathlib.Numerals.{add-one}
use native.Mathlib.Nat.{zero-add, add-zero}
use lib.ListN.{length, take, drop, set, length-append, length-take, length-drop, take-append-drop}
use lib.Seq.{take-append-le, drop-append-le, length-take-le, take_at, drop-drop, set_split, drop-append-add, take-append-add, take-append_seam, drop-append_seam}
use Rattle.endian.specs.Little.{le}
use Rattle.endian.specs.Place.{Holds, paste}
use Rattle.endian.proofs.Little.{length-le, le_halves, le_low}
use borrow.Rule.Slice.PartMut.{put_mid}

pub paste-nil : (at : ℕ) (d : List ℕ) → paste at [] d ≡ d
unfolding paste
paste-nil at d = rw add-zero (take-append-drop at d)

pub length-paste : (at : ℕ) (xs d : List ℕ) → at + length xs ≤ length d → length (paste at xs d) ≡ length d
unfolding paste
length-paste at xs d h = simp (length-append, length-take, length-drop) (omega arith)

-- what stands up to the end of a write, and past it
pub take-paste : (at : ℕ) (xs d : List ℕ) → at + length xs ≤ length d → take (at + length xs) (paste at xs d) ≡ take at d ++ xs
unfolding paste
take-paste at xs d h =
    rw (← append_assoc (take at d) xs (drop (at + length xs) d))
    (take_at (take at d ++ xs) (drop (at + length xs) d) (at + length xs) (simp (length-append, length-take) (omega arith)))

pub drop-paste : (at : ℕ) (xs d : List ℕ) (n : ℕ) → at + length xs ≤ length d → at + length xs ≤ n → drop n (paste at xs d) ≡ drop n d
unfolding paste
drop-paste at xs d n h g =
    let e : n ≡ length (take at d ++ xs) + (n - (at + length xs)) = simp (length-append, length-take) (omega arith) in
    let f : (at + length xs) + (n - (at + length xs)) ≡ n = omega arith in
    ap (λ (k : ℕ). drop k (take at d ++ (xs ++ drop (at + length xs) d))) e
    ∙ rw (← append_assoc (take at d) xs (drop (at + length xs) d))
    (drop-append-add (take at d ++ xs) (drop (at + length xs) d) (n - (at + length xs))
    ∙ drop-drop (n - (at + length xs)) (at + length xs) d ∙ ap (λ (k : ℕ). drop k d) f)

-- what was written stands there
pub paste-holds : (at : ℕ) (xs d : List ℕ) → at ≤ length d → Holds (paste at xs d) at xs
unfolding paste
paste-holds at xs d h =
    let l : length (take at d) ≡ at = length-take-le at d h in
    let e : drop at (take at d ++ (xs ++ drop (at + length xs) d)) ≡ xs ++ drop (at + length xs) d =
    ap (λ (k : ℕ). drop k (take at d ++ (xs ++ drop (at + length xs) d))) (sym l)
    ∙ drop-append_seam (take at d) (xs ++ drop (at + length xs) d) in
    record { here = ap (take (length xs)) e ∙ take-append_seam xs (drop (at + length xs) d) }

-- a write at the front
pub paste-front : (xs d : List ℕ) (n : ℕ) → length xs ≡ n → paste 0 xs d ≡ xs ++ drop n d
unfolding paste
paste-front xs d n e = rw (zero-add, e)

-- ---- one write right after another is one write

pub paste-next : (at : ℕ) (xs ys d : List ℕ) → at + length xs ≤ length d
    → paste (at + length xs) ys (paste at xs d) ≡ paste at (xs ++ ys) d
unfolding paste
paste-next at xs ys d h =
    let t : take (at + length xs) (take at d ++ (xs ++ drop (at + length xs) d)) ≡ take at d ++ xs = take-paste at xs d h in
    let u : drop (at + length xs + length ys) (take at d ++ (xs ++ drop (at + length xs) d)) ≡ drop (at + length xs + length ys) d =
    drop-paste at xs d (at + length xs + length ys) h (omega arith) in
    let e : at + length xs + length ys ≡ at + length (xs ++ ys) = rw length-append (omega arith) in
    rw (t, u, e) (simp append_assoc)

-- the same, where the place is counted in another way
pub paste-on : (at : ℕ) (xs ys d : List ℕ) (at' : ℕ) → at + length xs ≤ length d → at + length xs ≡ at'
    → paste at' ys (paste at xs d) ≡ paste at (xs ++ ys) d
paste-on at xs ys d at' h e = rw (← e) (paste-next at xs ys d h)

-- the same, of lists that are known by what was written
pub paste-then : (at at' : ℕ) (xs ys d : List ℕ) {e f : List ℕ} → e ≡ paste at xs d → f ≡ paste at' ys e → at + length xs ≡ at' → at + length xs ≤ length d
    → f ≡ paste at (xs ++ ys) d
paste-then at at' xs ys d u v p h = v ∙ rw u (paste-on at xs ys d at' h p)

-- ---- writes apart

pub paste_skip : (u r ys : List ℕ) (b n : ℕ) → n ≡ length u + b → paste n ys (u ++ r) ≡ u ++ paste b ys r
unfolding paste
paste_skip u r ys b n e =
    let f : n + length ys ≡ length u + (b + length ys) = omega arith in
    rw (f, e, take-append-add u r b, drop-append-add u r (b + length ys)) (simp append_assoc)

pub paste-before : (u r xs : List ℕ) (at : ℕ) → at + length xs ≤ length u → paste at xs (u ++ r) ≡ paste at xs u ++ r
unfolding paste
paste-before u r xs at h =
    let a : at ≤ length u = omega arith in
    rw (take-append-le at u r, drop-append-le (at + length xs) u r) (simp append_assoc)

pub paste-apart : (at : ℕ) (xs : List ℕ) (b : ℕ) (ys d : List ℕ) → at + length xs ≤ b → b ≤ length d
    → paste at xs (paste b ys d) ≡ paste b ys (paste at xs d)
paste-apart at xs b ys d h g =
    let u = take b d in
    let r = drop b d in
    let l : length u ≡ b = length-take-le b d (omega arith) in
    let m : length (paste at xs u) ≡ b = length-paste at xs u (omega arith) ∙ l in
    let e : d ≡ u ++ r = sym (take-append-drop b d) in
    ap (λ (z : List ℕ). paste at xs (paste b ys z)) e
    ∙ ap (paste at xs) (paste_skip u r ys 0 b (omega arith))
    ∙ paste-before u (paste 0 ys r) xs at (omega arith)
    ∙ sym (paste_skip (paste at xs u) r ys 0 b (omega arith))
    ∙ ap (paste b ys) (sym (paste-before u r xs at (omega arith)))
    ∙ ap (λ (z : List ℕ). paste b ys (paste at xs z)) (sym e)

-- a write past the end makes nothing shorter
pub paste_reach : (b : ℕ) (xs d : List ℕ) → b ≤ length d → b ≤ length (paste b xs d)
unfolding paste
paste_reach b xs d h = simp (length-append, length-take, length-drop) (omega arith)

-- ---- stores

pub store : (at x : ℕ) (d : List ℕ) → at < length d → set d at x ≡ paste at (x ∷ []) d
unfolding paste
store at x d h = rw (set_split d at x, add-one at) refl

-- a store, and what is written right after it
pub paste-cons : (at x : ℕ) (xs d : List ℕ) → at < length d → paste (at + 1) xs (set d at x) ≡ paste at (x ∷ xs) d
paste-cons at x xs d h =
    let e : set d at x ≡ paste at (x ∷ []) d = store at x d h in
    ap (paste (at + 1) xs) e ∙ paste-on at (x ∷ []) xs d (at + 1) (omega arith) (omega arith)

-- ---- a write to a part, of len places from `at` on

pub part_pasted : (at len : ℕ) (xs d : List ℕ) {ys : List ℕ} → ys ≡ xs → length xs ≡ len → put_mid at (at + len - at) d ys ≡ paste at xs d
unfolding paste
part_pasted at len xs d e l =
    let f : at + len - at ≡ len = omega arith in
    let g : at + len ≡ at + length xs = omega arith in
    rw (f, e, drop-drop len at d, g) refl

-- ---- a number by its halves, low half first

pub paste_byte : (v at : ℕ) (d : List ℕ) {b : ℕ} {e : List ℕ} → b ≡ v % 256 → e ≡ paste at (b ∷ []) d → e ≡ paste at (le 1 v) d
unfolding le
paste_byte v at d h f = f ∙ ap (λ (x : ℕ). paste at (x ∷ []) d) h

pub paste_halves : (j k v at : ℕ) (d : List ℕ) {e f : List ℕ} → e ≡ paste at (le j v) d → f ≡ paste (at + j) (le k (v / 256 ^ j)) e → at + (j + k) ≤ length d
    → f ≡ paste at (le (j + k) v) d
paste_halves j k v at d u w h =
    paste-then at (at + j) (le j v) (le k (v / 256 ^ j)) d u w (ap (◌+◌ at) (length-le j v)) (omega (arith, length-le j v))
    ∙ ap (λ (x : List ℕ). paste at x d) (sym (le_halves j k v))

-- a u64 by its two u32
pub paste_two : (v at : ℕ) (d : List ℕ) {e f : List ℕ} → e ≡ paste at (le 4 (v % 4294967296)) d → f ≡ paste (at + 4) (le 4 (v / 4294967296)) e → at + 8 ≤ length d
    → f ≡ paste at (le 8 v) d
paste_two v at d u w h = paste_halves 4 4 v at d (u ∙ ap (λ (x : List ℕ). paste at x d) (le_low v)) w h
