-- Laws of marking bits of a map.
use Prim.Native.Nat.{ℕ, ◌+◌, ◌*◌, ◌-◌, ◌/◌, ◌%◌, ◌^◌, ◌≤◌, ◌<◌}
use mathlib.Core.Path.{◌≡◌, refl, sym, ap, ◌∙◌}
use mathlib.Core.Bool.{Bool, true, false, ◌||◌, or-false, or_assoc}
use mathlib.Core.List.{List}
use native.Mathlib.Omega.{arith}
use lib.Bits.{bit_or}
use lib.Dec.{ltb, eqb}
use lib.ListN.{length, get_or, take, drop, set, replicate, length-set, length-append, length-take, length-drop, length-replicate}
use lib.Seq.{get_or-set_same, get_or-set_other, get_or-take, get_or-drop}
use borrow.Rule.Slice.PartMut.{put_mid}
use Rattle.std.proofs.lemmas.List.{get_or-replicate}
use Rattle.std.proofs.lemmas.Slice.{take-put_mid_below, drop-put_mid, between-put_mid}
use borrow.Author.Tests.{ltb-true, ltb-false, eqb-true, eqb-false}
use mir.Val.{Fits}
use mir.Syntax.{w64}
use Rattle.endian.specs.Range.{sum_to}
use Rattle.bitmap.specs.Positions.{within, after, misses}
use Rattle.bitmap.specs.Bits.{bit_of, bit_at, Marked}
use Rattle.bitmap.proofs.Within.{or-second, within-yes, within-before, within-past, within_shift, within_join}
use Rattle.bitmap.proofs.Counts.{misses-le, misses_split}
use Rattle.bitmap.proofs.Words.{bit-or, bit_run, bit_shift, run_of}

-- ---- one marking after another

pub marked-none : (ws : List ℕ) {f : ℕ → Bool} → ((i : ℕ) → i < 64 * length ws → f i ≡ false) → Marked ws ws f
marked-none ws e = record { same = refl; bits = λ i l. sym (or-false (bit_at ws i)) ∙ ap (λ (b : Bool). bit_at ws i || b) (sym (e i l)) }

pub marked_as : {p q : List ℕ} {f g : ℕ → Bool} → Marked p q f → ((i : ℕ) → i < 64 * length p → f i ≡ g i) → Marked p q g
marked_as {p} {q} m e = record { same = m.same; bits = λ i l. m.bits i l ∙ ap (λ (b : Bool). bit_at p i || b) (e i l) }

pub marked-then : {p q r : List ℕ} {f g h : ℕ → Bool} → Marked p q f → Marked q r g → ((i : ℕ) → f i || g i ≡ h i) → Marked p r h
marked-then {p} {q} {r} {f} {g} {h} m n e =
    record {
      same = n.same ∙ m.same;
      bits =
          λ i l.
          let s = m.same in
          n.bits i (omega arith) ∙ ap (λ (b : Bool). b || g i) (m.bits i l) ∙ or_assoc (bit_at p i) (f i) (g i)
          ∙ ap (λ (b : Bool). bit_at p i || b) (e i);
    }

-- ---- one word, by what becomes of its bits

module _ (ws : List ℕ) (k x y w : ℕ) (h : k < length ws) (u : y ≤ 64)
    (word : (i : ℕ) → i < 64 → bit_of w i ≡ bit_of (get_or ws k 0) i || within x y i) where
  here : (i : ℕ) → i / 64 ≡ k → bit_at (set ws k w) i ≡ bit_at ws i || within (64 * k + x) (64 * k + y) i
  unfolding bit_at
  here i e =
      let p : i ≡ 64 * k + i % 64 = omega arith in
      let s : within (64 * k + x) (64 * k + y) i ≡ within x y (i % 64) =
      ap (λ (n : ℕ). within (64 * k + x) (64 * k + y) n) p ∙ within_shift (64 * k) x y (i % 64) in
      rw (e, s, get_or-set_same ws k w 0 h) (word (i % 64) (omega arith))

  there : (i : ℕ) → (i / 64 ≡ k → ⊥) → within (64 * k + x) (64 * k + y) i ≡ false → bit_at (set ws k w) i ≡ bit_at ws i || within (64 * k + x) (64 * k + y) i
  unfolding bit_at
  there i e f = rw (f, get_or-set_other ws k (i / 64) w 0 (λ q. e q)) (sym (or-false _))

  word-bit : (i : ℕ) → bit_at (set ws k w) i ≡ bit_at ws i || within (64 * k + x) (64 * k + y) i
  word-bit i = go (eqb (i / 64) k) refl
    where
      far : (t : Bool) → ltb (i / 64) k ≡ t → (i / 64 ≡ k → ⊥) → within (64 * k + x) (64 * k + y) i ≡ false
      far true q n = let m = ltb-true (i / 64) k q in within-before (64 * k + x) (64 * k + y) i (omega arith)
      far false q n = let m = ltb-false (i / 64) k q in within-past (64 * k + x) (64 * k + y) i (omega arith)

      go : (t : Bool) → eqb (i / 64) k ≡ t → bit_at (set ws k w) i ≡ bit_at ws i || within (64 * k + x) (64 * k + y) i
      go true q = here i (eqb-true (i / 64) k q)
      go false q = there i (eqb-false (i / 64) k q) (far (ltb (i / 64) k) refl (eqb-false (i / 64) k q))

  marked-word : Marked ws (set ws k w) (within (64 * k + x) (64 * k + y))
  marked-word = record { same = length-set ws k w; bits = λ i _. word-bit i }

pub run_marked : (ws : List ℕ) (k x y : ℕ) {u v : ℕ} → k < length ws → x ≤ y → y ≤ 64 → u ≡ 2 ^ x - 1 → v ≡ 2 ^ y - 1
    → Marked ws (set ws k (bit_or (get_or ws k 0) (v - u))) (within (64 * k + x) (64 * k + y))
run_marked ws k x y {u} {v} h l m p q =
    marked-word ws k x y _ h m (λ i n. bit-or (get_or ws k 0) (v - u) i ∙ ap (λ (b : Bool). bit_of (get_or ws k 0) i || b) (bit_run x y i (v - u) (run_of l p q)))

-- ---- whole words

range_at : {p q : List ℕ} {a b c d : ℕ} → Marked p q (within a b) → a ≡ c → b ≡ d → Marked p q (within c d)
range_at m e f = marked_as m (λ i l. rw (e, f))

range_join : {p q r : List ℕ} {a b c d : ℕ} → Marked p q (within a b) → Marked q r (within c d) → b ≡ c → a ≤ b → c ≤ d → Marked p r (within a d)
range_join {a = a} {b} {c} {d} m n e h k = marked-then m n (λ i. rw e (within_join a c d i (omega arith) k))

module _ (ws : List ℕ) (k l : ℕ) {ys : List ℕ} (h : k ≤ l) (m : l ≤ length ws) (e : ys ≡ replicate (l - k) 18446744073709551615) where
  word_below : (j : ℕ) → j < k → get_or (put_mid k (l - k) ws ys) j 0 ≡ get_or ws j 0
  word_below j g =
      sym (get_or-take k (put_mid k (l - k) ws ys) j 0 g) ∙ ap (λ (v : List ℕ). get_or v j 0) (take-put_mid_below k (l - k) ws ys k (omega arith) (omega arith))
      ∙ get_or-take k ws j 0 g

  word_inside : (j : ℕ) → k ≤ j → j < l → get_or (put_mid k (l - k) ws ys) j 0 ≡ 18446744073709551615
  word_inside j g f =
      let p : k + (j - k) ≡ j = omega arith in
      let n : length ys ≡ l - k = ap length e ∙ length-replicate (l - k) 18446744073709551615 in
      ap (λ (i : ℕ). get_or (put_mid k (l - k) ws ys) i 0) (sym p)
      ∙ sym (get_or-drop k (put_mid k (l - k) ws ys) (j - k) 0)
      ∙ sym (get_or-take (l - k) (drop k (put_mid k (l - k) ws ys)) (j - k) 0 (omega arith))
      ∙ ap (λ (v : List ℕ). get_or v (j - k) 0) (between-put_mid k (l - k) ws ys l (omega arith) n ∙ e)
      ∙ get_or-replicate (l - k) (j - k) 18446744073709551615 0 (omega arith)

  word_past : (j : ℕ) → l ≤ j → get_or (put_mid k (l - k) ws ys) j 0 ≡ get_or ws j 0
  word_past j g =
      let p : l + (j - l) ≡ j = omega arith in
      let n : length ys ≡ l - k = ap length e ∙ length-replicate (l - k) 18446744073709551615 in
      ap (λ (i : ℕ). get_or (put_mid k (l - k) ws ys) i 0) (sym p)
      ∙ sym (get_or-drop l (put_mid k (l - k) ws ys) (j - l) 0)
      ∙ ap (λ (v : List ℕ). get_or v (j - l) 0) (drop-put_mid k (l - k) ws ys l (omega arith) (omega arith) n)
      ∙ get_or-drop l ws (j - l) 0 ∙ ap (λ (i : ℕ). get_or ws i 0) p

  filled-bit : (i : ℕ) → bit_at (put_mid k (l - k) ws ys) i ≡ bit_at ws i || within (64 * k) (64 * l) i
  unfolding bit_at
  filled-bit i = go (ltb (i / 64) k) refl (ltb (i / 64) l) refl
    where
      go : (s : Bool) → ltb (i / 64) k ≡ s → (t : Bool) → ltb (i / 64) l ≡ t
          → bit_of (get_or (put_mid k (l - k) ws ys) (i / 64) 0) (i % 64) ≡ bit_of (get_or ws (i / 64) 0) (i % 64) || within (64 * k) (64 * l) i
      go true a t b =
          let c = ltb-true (i / 64) k a in
          rw (word_below (i / 64) c, within-before (64 * k) (64 * l) i (omega arith)) (sym (or-false _))
      go false a true b =
          let c = ltb-false (i / 64) k a in
          let d = ltb-true (i / 64) l b in
          let w : within (64 * k) (64 * l) i ≡ true = within-yes (64 * k) (64 * l) i (omega arith) (omega arith) in
          let u : bit_of 18446744073709551615 (i % 64) ≡ true = bit_run 0 64 (i % 64) 18446744073709551615 refl ∙ within-yes 0 64 (i % 64) (omega arith) (omega arith) in
          rw (word_inside (i / 64) c d, u) (sym (or-second (bit_of (get_or ws (i / 64) 0) (i % 64)) (within (64 * k) (64 * l) i) w))
      go false a false b =
          let d = ltb-false (i / 64) l b in
          rw (word_past (i / 64) d, within-past (64 * k) (64 * l) i (omega arith)) (sym (or-false _))

  pub fill_marked : Marked ws (put_mid k (l - k) ws ys) (within (64 * k) (64 * l))
  fill_marked = record {
    same =
        let n : length ys ≡ l - k = ap length e ∙ length-replicate (l - k) 18446744073709551615 in
        simp (length-append, length-take, length-drop) (omega arith);
    bits = λ i _. filled-bit i;
  }

-- ---- from a to b: in one word; or the end of a word, whole words, and the beginning of a word

pub range-one : {p q : List ℕ} (a b : ℕ) → Marked p q (within (64 * (a / 64) + a % 64) (64 * (a / 64) + b % 64)) → a / 64 ≡ b / 64
    → Marked p q (within a b)
range-one a b m e = range_at m (omega arith) (omega arith)

pub range-some : {p q r s : List ℕ} (a b : ℕ) → a ≤ b → Marked p q (within (64 * (a / 64) + a % 64) (64 * (a / 64) + 64))
    → Marked q r (within (64 * (a / 64 + 1)) (64 * (b / 64))) → Marked r s (within (64 * (b / 64) + 0) (64 * (b / 64) + b % 64))
    → (a / 64 ≡ b / 64 → ⊥) → Marked p s (within a b)
range-some a b h m n o e =
    range_at (range_join (range_join m n (omega arith) (omega arith) (omega arith)) o (omega arith) (omega arith) (omega arith)) (omega arith) (omega arith)

-- ---- reading

pub bit-read : (ws : List ℕ) (i : ℕ) → eqb (get_or ws (i / 64) 0 / 2 ^ (i % 64) % 2) 1 ≡ bit_at ws i
unfolding bit_at
bit-read ws i = sym (bit_shift (i % 64) (get_or ws (i / 64) 0))

-- of i words from k on, so many bits are not set
word_after : (ws : List ℕ) (k i j : ℕ) → j < 64 → after (64 * k) (bit_at ws) (64 * i + j) ≡ bit_of (get_or ws (k + i) 0) j
unfolding after bit_at
word_after ws k i j l =
    let q : (64 * k + (64 * i + j)) / 64 ≡ k + i = omega arith in
    let m : (64 * k + (64 * i + j)) % 64 ≡ j = omega arith in
    rw (q, m)

pub record Open (ws : List ℕ) (k i t : ℕ) : Type 0 where
  pub below : i ≤ 64
  pub total : t ≡ misses (after (64 * k) (bit_at ws)) (64 * i)

pub open_first : (ws : List ℕ) (k : ℕ) → Open ws k 0 0
unfolding sum_to
open_first ws k = record { below = omega arith; total = refl }

pub open_fits : {ws : List ℕ} {k i t z : ℕ} → Open ws k i t → z ≤ 64 → Fits w64 (t + z)
open_fits {ws} {k} {i} h l = let a = h.total in let b = h.below in record { fits = omega (arith, misses-le (after (64 * k) (bit_at ws)) (64 * i)) }

pub open_next : {ws : List ℕ} {k i t z : ℕ} → Open ws k i t → i < 64 → z ≡ misses (bit_of (get_or ws (k + i) 0)) 64 → Open ws k (i + 1) (t + z)
open_next {ws} {k} {i} h l e =
    let a = h.total in
    let s = misses_split (after (64 * k) (bit_at ws)) (bit_of (get_or ws (k + i) 0)) (64 * i) 64 (λ j n. word_after ws k i j n) in
    let c : misses (after (64 * k) (bit_at ws)) (64 * (i + 1)) ≡ misses (after (64 * k) (bit_at ws)) (64 * i + 64) = ap (misses (after (64 * k) (bit_at ws))) (omega arith) in
    record { below = omega arith; total = omega arith }

-- the same, where the words are read as a part
pub open_part : {ws : List ℕ} {k i t z : ℕ} → Open ws k i t → i < 64 → z ≡ misses (bit_of (get_or (take (k + 64 - k) (drop k ws)) i 0)) 64 → Open ws k (i + 1) (t + z)
open_part {ws} {k} {i} h l e =
    let n : i < k + 64 - k = omega arith in
    open_next h l (e ∙ ap (λ (w : ℕ). misses (bit_of w) 64) (get_or-take (k + 64 - k) (drop k ws) i 0 n ∙ get_or-drop k ws i 0))

pub open_last : {ws : List ℕ} {k i t : ℕ} → Open ws k i t → 64 ≤ i → t ≡ misses (after (64 * k) (bit_at ws)) 4096
open_last {ws} {k} h l = let b = h.below in h.total ∙ ap (misses (after (64 * k) (bit_at ws))) (omega arith)

pub open_most : {ws : List ℕ} {k i t : ℕ} → Open ws k i t → 64 ≤ i → t ≤ 4096
open_most {ws} {k} h l = omega (arith, open_last h l, misses-le (after (64 * k) (bit_at ws)) 4096)
