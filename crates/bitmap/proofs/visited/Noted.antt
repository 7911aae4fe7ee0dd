-- Laws of the places that a map notes.
use Prim.Native.Nat.{ℕ, ◌+◌, ◌-◌, ◌*◌, ◌/◌, ◌%◌, ◌^◌, ◌≤◌, ◌<◌}
use mathlib.Core.Path.{◌≡◌, refl, sym, ap, ◌∙◌}
use mathlib.Core.Bool.{Bool, true, false, ◌||◌, true≢false}
use mathlib.Core.List.{List}
use mathlib.Core.Logic.{◌⊎◌, inl, inr}
use native.Mathlib.Omega.{arith}
use native.Mathlib.Nat.{pow-suc}
use native.Mathlib.Numerals.{add-one}
use lib.Bits.{bit_or}
use lib.Dec.{eqb, leb, ltb}
use lib.ListN.{length, get_or, set, replicate, get_or-eq_default}
use lib.Pow.{shl_exact, pow_pos}
use borrow.Author.Tests.{leb-true, leb-false, ltb-true, le-leb, lt-ltb}
use Rattle.refusal.proofs.Tests.{both, neither}
use Rattle.bitmap.specs.Positions.{within}
use Rattle.bitmap.specs.Bits.{bit_at, Marked}
use Rattle.bitmap.specs.window.Window.{noted}
use Rattle.bitmap.proofs.Words.{bit_shift, bit-zero}
use Rattle.bitmap.proofs.Marks.{run_marked}
use Rattle.bitmap.proofs.window.Windows.{clear_zeros}
use Rattle.bitmap.specs.visited.Seen.{Seen, Sees, Blank}

-- ---- reading

bit-at : (map : List ℕ) (o : ℕ) → bit_at map o ≡ eqb (get_or map (o / 64) 0 / 2 ^ (o % 64) % 2) 1
unfolding bit_at
bit-at map o = bit_shift (o % 64) (get_or map (o / 64) 0)

zero_bit : (x : ℕ) → eqb (0 / 2 ^ x % 2) 1 ≡ false
zero_bit x = sym (bit_shift x 0) ∙ bit-zero x

pub bit_past : (map : List ℕ) (o : ℕ) → length map ≤ o / 64 → false ≡ bit_at map o
bit_past map o h = sym (bit-at map o ∙ (let z = get_or-eq_default map 0 h in rw z (zero_bit (o % 64))))

-- a bit that is set lies in the map
pub seen_bit : {map : List ℕ} {o : ℕ} {b : Bool} → b ≡ bit_at map o → b ≡ true → Seen map o
seen_bit {map} {o} q e = go (leb (length map) (o / 64)) refl
  where
    go : (t : Bool) → leb (length map) (o / 64) ≡ t → Seen map o
    go true l = absurd (true≢false (sym e ∙ q ∙ sym (bit_past map o (leb-true (length map) (o / 64) l))))
    go false l = record { inside = omega (arith, leb-false (length map) (o / 64) l); bit = sym q ∙ e }

-- ---- noting

or-true : (b : Bool) → b || true ≡ true
or-true true = refl
or-true false = refl

one_run : (x : ℕ) → x < 64 → 2 ^ (x + 1) - 1 - (2 ^ x - 1) ≡ (1 * 2 ^ x) % 2 ^ 64
one_run x h =
    let p : 2 ^ (x + 1) ≡ 2 ^ x * 2 = ap (λ (n : ℕ). 2 ^ n) (add-one x) ∙ pow-suc 2 x in
    let q : (1 * 2 ^ x) % 2 ^ 64 ≡ 1 * 2 ^ x = shl_exact 1 x 64 (omega arith) (omega arith) in
    omega (arith, pow_pos x)

pub one-marked : (ws : List ℕ) (k x : ℕ) → k < length ws → x < 64 → Marked ws (set ws k (bit_or (get_or ws k 0) ((1 * 2 ^ x) % 2 ^ 64))) (within (64 * k + x) (64 * k + (x + 1)))
one-marked ws k x h l =
    let m = run_marked ws k x (x + 1) {u = 2 ^ x - 1} {v = 2 ^ (x + 1) - 1} h (omega arith) (omega arith) refl refl in
    rw (one_run x l) at m

within-one : (a p : ℕ) → within a (a + 1) p ≡ true → p ≡ a
unfolding within
within-one a p e = let b = both (leb a p) (ltb p (a + 1)) e in omega (arith, leb-true a p b.0, ltb-true p (a + 1) b.1)

one-within : (a : ℕ) → within a (a + 1) a ≡ true
unfolding within
one-within a = rw (le-leb a a (omega arith), lt-ltb a (a + 1) (omega arith))

pub sees_marked : {p q : List ℕ} {o k x : ℕ} → k ≡ o / 64 → x ≡ o % 64 → Marked p q (within (64 * k + x) (64 * k + (x + 1))) → Sees p q o
sees_marked {p} {q} {o} {k} {x} ke xe m = record { same = m.same; stays = stays; noted = noted; only = λ i s. go i s (bit_at p i) refl }
  where
    stays : (i : ℕ) → Seen p i → Seen q i
    stays i s =
        let z = m.same in
        record {
          inside = omega (arith, s.inside);
          bit = m.bits i s.inside ∙ ap (λ (b : Bool). b || within (64 * k + x) (64 * k + (x + 1)) i) s.bit;
        }

    noted : o < 64 * length p → Seen q o
    noted h =
        let z = m.same in
        let a : 64 * k + x ≡ o = omega arith in
        let b : 64 * k + (x + 1) ≡ o + 1 = omega arith in
        let w : within (64 * k + x) (64 * k + (x + 1)) o ≡ true = ap (λ (n : ℕ). within n (64 * k + (x + 1)) o) a ∙ ap (λ (n : ℕ). within o n o) b ∙ one-within o in
        record {
          inside = omega arith;
          bit = m.bits o h ∙ ap (λ (t : Bool). bit_at p o || t) w ∙ or-true (bit_at p o);
        }

    go : (i : ℕ) → Seen q i → (b : Bool) → bit_at p i ≡ b → Seen p i ⊎ (i ≡ o)
    go i s true e = let z = m.same in inl (record { inside = omega (arith, s.inside); bit = e })
    go i s false e =
        let z = m.same in
        let w : within (64 * k + x) (64 * k + x + 1) i ≡ true = ap (λ (n : ℕ). within (64 * k + x) n i) (omega arith) ∙ ap (λ (b : Bool). b || within (64 * k + x) (64 * k + (x + 1)) i) (sym e) ∙ sym (m.bits i (omega (arith, s.inside))) ∙ s.bit in
        inr (omega (arith, within-one (64 * k + x) i w))

-- a place past the map
pub sees_none : {p : List ℕ} {o : ℕ} → length p ≤ o / 64 → Sees p p o
sees_none h = record { same = refl; stays = λ i s. s; noted = λ l. absurd (omega arith); only = λ i s. inl s }

pub sees_same : {p q : List ℕ} {o n : ℕ} → Sees p q o → length p ≡ n → length q ≡ n
sees_same v e = v.same ∙ e

-- ---- an empty map

pub blank_zeros : (n : ℕ) → Blank (replicate n 0)
unfolding noted
blank_zeros n = record { none = λ o s. true≢false (sym s.bit ∙ (neither (bit_at (replicate n 0) o) _ ((clear_zeros n).none o)).0) }

pub blank_filled : {map : List ℕ} (n : ℕ) → map ≡ replicate n 0 → Blank map
blank_filled n e = rw e (blank_zeros n)
