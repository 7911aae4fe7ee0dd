-- Laws of windows.
use Prim.Native.Nat.{ℕ, zero, suc, ◌+◌, ◌*◌, ◌-◌, ◌/◌, ◌%◌, ◌≤◌, ◌<◌}
use mathlib.Core.Path.{◌≡◌, refl, sym, ap, ◌∙◌}
use mathlib.Core.Bool.{Bool, true, false, ◌||◌, or-false, or_comm, or_assoc}
use mathlib.Core.List.{List}
use native.Mathlib.Omega.{arith}
use lib.ListN.{length, get_or, replicate, length-replicate}
use mir.Val.{Fits}
use mir.Syntax.{w64}
use Rattle.std.specs.Int.{div_ceil}
use Rattle.endian.specs.Range.{sum_to}
use Rattle.bitmap.specs.Positions.{within, after, misses}
use Rattle.bitmap.specs.Bits.{bit_at, Marked}
use Rattle.bitmap.specs.window.Window.{span, window_words, noted, Notes, Clear}
use Rattle.bitmap.proofs.Within.{same_test, or-second, or_swap, within-yes, within-before, within-past, within-from, within-to, within_join}
use Rattle.bitmap.proofs.Counts.{misses-le, misses-none, misses-same, misses-after, after-at}
use Rattle.bitmap.proofs.Words.{bit-zero}

-- ---- one noting after another

pub notes_none : (ws : List ℕ) {f : ℕ → Bool} → ((p : ℕ) → p < span → f p ≡ false) → Notes ws ws f
notes_none ws e = record { same = refl; each = λ p l. sym (or-false (noted ws p)) ∙ ap (λ (b : Bool). noted ws p || b) (sym (e p l)) }

pub notes_as : {a b : List ℕ} {f g : ℕ → Bool} → Notes a b f → ((p : ℕ) → p < span → f p ≡ g p) → Notes a b g
notes_as {a} {b} m e = record { same = m.same; each = λ p l. m.each p l ∙ ap (λ (b : Bool). noted a p || b) (e p l) }

pub notes_then : {a b c : List ℕ} {f g h : ℕ → Bool} → Notes a b f → Notes b c g → ((p : ℕ) → p < span → f p || g p ≡ h p) → Notes a c h
notes_then {a} {b} {c} {f} {g} {h} m n e =
    record {
      same = n.same ∙ m.same;
      each =
          λ p l.
          n.each p l ∙ ap (λ (b : Bool). b || g p) (m.each p l) ∙ or_assoc (noted a p) (f p) (g p) ∙ ap (λ (b : Bool). noted a p || b) (e p l);
    }

-- ---- marking its map

-- positions by their own bits
module _ {p q : List ℕ} (a b : ℕ) (w : length p ≡ window_words) (h : b ≤ span) (m : Marked p q (within a b)) where
  pub notes_low : Notes p q (within a b)
  unfolding noted
  notes_low = record { same = m.same; each = λ i l. one i l }
    where
      group : (i : ℕ) → i < span → bit_at q (span + i / 4096) ≡ bit_at p (span + i / 4096)
      group i l =
          m.bits (span + i / 4096) (omega arith) ∙ ap (λ (b : Bool). bit_at p (span + i / 4096) || b) (within-past a b (span + i / 4096) (omega arith))
          ∙ or-false (bit_at p (span + i / 4096))

      one : (i : ℕ) → i < span → bit_at q i || bit_at q (span + i / 4096) ≡ (bit_at p i || bit_at p (span + i / 4096)) || within a b i
      one i l = rw (m.bits i (omega arith), group i l) (or_swap (bit_at p i) (within a b i) (bit_at p (span + i / 4096)))

-- groups by theirs
module _ {p q : List ℕ} (f l : ℕ) (w : length p ≡ window_words) (h : l ≤ 1016) (m : Marked p q (within (span + f) (span + l))) where
  pub notes_high : Notes p q (within (4096 * f) (4096 * l))
  unfolding noted
  notes_high = record { same = m.same; each = λ i n. one i n }
    where
      own : (i : ℕ) → i < span → bit_at q i ≡ bit_at p i
      own i n =
          m.bits i (omega arith) ∙ ap (λ (b : Bool). bit_at p i || b) (within-before (span + f) (span + l) i (omega arith)) ∙ or-false (bit_at p i)

      same : (i : ℕ) → within (span + f) (span + l) (span + i / 4096) ≡ within (4096 * f) (4096 * l) i
      same i =
          same_test _ _
          (λ e. within-yes (4096 * f) (4096 * l) i (omega (arith, within-from (span + f) (span + l) (span + i / 4096) e)) (omega (arith, within-to (span + f) (span + l) (span + i / 4096) e)))
          (λ e. within-yes (span + f) (span + l) (span + i / 4096) (omega (arith, within-from (4096 * f) (4096 * l) i e)) (omega (arith, within-to (4096 * f) (4096 * l) i e)))

      one : (i : ℕ) → i < span → bit_at q i || bit_at q (span + i / 4096) ≡ (bit_at p i || bit_at p (span + i / 4096)) || within (4096 * f) (4096 * l) i
      one i n =
          rw (own i n, m.bits (span + i / 4096) (omega arith), same i) (sym (or_assoc (bit_at p i) (bit_at p (span + i / 4096)) (within (4096 * f) (4096 * l) i)))

-- ---- a range

pub note_many : {p q r s : List ℕ} (a b f l : ℕ) → length p ≡ window_words → b ≤ span → f ≡ div_ceil a 4096 → l ≡ b / 4096 → f < l
    → Marked p q (within (span + f) (span + l)) → Marked q r (within a (4096 * f)) → Marked r s (within (4096 * l) b) → Notes p s (within a b)
note_many a b f l w h ef el n x y z =
    let u = x.same in
    let v = y.same in
    notes_then (notes_then (notes_high f l w (omega arith) x) (notes_low a (4096 * f) (omega arith) (omega arith) y) (λ i k. joined i))
    (notes_low (4096 * l) b (omega arith) h z)
    (λ i k. within_join a (4096 * l) b i (omega arith) (omega arith))
  where
    joined : (i : ℕ) → within (4096 * f) (4096 * l) i || within a (4096 * f) i ≡ within a (4096 * l) i
    joined i = or_comm (within (4096 * f) (4096 * l) i) (within a (4096 * f) i) ∙ within_join a (4096 * f) (4096 * l) i (omega arith) (omega arith)

-- ---- counting

-- a group all of which are noted
pub group_none : (ws : List ℕ) (g : ℕ) {b : Bool} → b ≡ bit_at ws (span + g) → b ≡ true → 0 ≡ misses (after (4096 * g) (noted ws)) 4096
unfolding after noted
group_none ws g e t =
    sym (misses-none (after (4096 * g) (noted ws)) 4096
    (λ i l.
    let q : (4096 * g + i) / 4096 ≡ g = omega arith in
    or-second (bit_at ws (4096 * g + i)) (bit_at ws (span + (4096 * g + i) / 4096)) (rw (q, ← e) t)))

pub group_some : (ws : List ℕ) (g : ℕ) {b : Bool} {r : ℕ} → b ≡ bit_at ws (span + g) → b ≡ false → r ≡ misses (after (64 * (64 * g)) (bit_at ws)) 4096
    → r ≡ misses (after (4096 * g) (noted ws)) 4096
unfolding after noted
group_some ws g e t z =
    z ∙ misses-same (after (64 * (64 * g)) (bit_at ws)) (after (4096 * g) (noted ws)) 4096
    (λ i l.
    let q : (4096 * g + i) / 4096 ≡ g = omega arith in
    let p : 64 * (64 * g) + i ≡ 4096 * g + i = omega arith in
    rw (p, q, ← e, t) (sym (or-false (bit_at ws (4096 * g + i)))))

-- of the first g groups so many are not
pub record Tally (ws : List ℕ) (g t : ℕ) : Type 0 where
  pub total : t ≡ misses (noted ws) (4096 * g)

pub tally_first : (ws : List ℕ) → Tally ws 0 0
unfolding sum_to
tally_first ws = record { total = refl }

pub tally_fits : {ws : List ℕ} {g t z : ℕ} → g ≤ 1016 → Tally ws g t → z ≤ 4096 → Fits w64 (t + z)
tally_fits {ws} {g} u h l = let a = h.total in record { fits = omega (arith, misses-le (noted ws) (4096 * g)) }

pub tally_next : {ws : List ℕ} {g t z : ℕ} → Tally ws g t → z ≡ misses (after (4096 * g) (noted ws)) 4096 → Tally ws (g + 1) (t + z)
tally_next {ws} {g} h e =
    let a = h.total in
    let s = misses-after (noted ws) (4096 * g) 4096 in
    let c : misses (noted ws) (4096 * (g + 1)) ≡ misses (noted ws) (4096 * g + 4096) = ap (misses (noted ws)) (omega arith) in
    record { total = omega arith }

pub tally_last : {ws : List ℕ} {g t : ℕ} → g ≤ 1016 → Tally ws g t → 1016 ≤ g → t ≡ misses (noted ws) span
tally_last {ws} u h l = h.total ∙ ap (misses (noted ws)) (omega arith)

-- those below n, where those from n on are noted before the count
pub below-counted : {p q : List ℕ} (n : ℕ) {t : ℕ} → Notes p q (within n span) → n ≤ span → t ≡ misses (noted q) span → t ≡ misses (noted p) n
below-counted {p} {q} n m h e =
    let k : span ≡ n + (span - n) = omega arith in
    let front : misses (noted q) n ≡ misses (noted p) n =
    misses-same (noted q) (noted p) n
    (λ i l. m.each i (omega arith) ∙ ap (λ (b : Bool). noted p i || b) (within-before n span i l) ∙ or-false (noted p i)) in
    let back : misses (after n (noted q)) (span - n) ≡ 0 =
    misses-none (after n (noted q)) (span - n) (λ i l. sym (after-at n (noted q) i) ∙ past (n + i) (omega arith) (omega arith)) in
    let whole = misses-after (noted q) n (span - n) in
    e ∙ ap (misses (noted q)) k ∙ omega arith
  where
    past : (i : ℕ) → n ≤ i → i < span → noted q i ≡ true
    past i l u = m.each i u ∙ or-second (noted p i) (within n span i) (within-yes n span i l u)

-- ---- an empty map

zeros-at : (n i : ℕ) → ◌≡◌ {A = ℕ} (get_or (replicate n 0) i 0) 0
zeros-at zero i = refl
zeros-at (suc n) zero = refl
zeros-at (suc n) (suc i) = zeros-at n i

clear_bit : (n i : ℕ) → bit_at (replicate n 0) i ≡ false
unfolding bit_at
clear_bit n i = rw (zeros-at n (i / 64)) (bit-zero (i % 64))

pub clear_zeros : (n : ℕ) → Clear (replicate n 0)
unfolding noted
clear_zeros n = record { none = λ p. rw (clear_bit n p) (clear_bit n (span + p / 4096)) }

pub zeros-long : (n : ℕ) → length (replicate {A = ℕ} n 0) ≡ n
zeros-long n = length-replicate {A = ℕ} n 0
