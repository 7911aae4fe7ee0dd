-- The verdict is 0 exactly of the sound manifests, and what is known of them.
use Prim.Native.Nat.{ℕ, zero, suc, ◌+◌, ◌-◌, ◌*◌, ◌≤◌, ◌<◌}
use mathlib.Core.Path.{◌≡◌, refl, sym, subst}
use mathlib.Core.Bool.{Bool, true, false, not, ◌&&◌, ◌||◌}
use mathlib.Core.List.{List}
use native.Mathlib.Omega.{arith}
use lib.Dec.{T, eqb, leb, ltb, leb→le, eqb→eq}
use borrow.Author.Rules.{rules}
use borrow.Author.Tests.{lt-ltb, ltb-true, le-leb, eq-eqb}
use lib.ListN.{length}
use lib.Ieee.Bits.{is_true}
use lib.Ieee.Fits.{and_l, and_r}
use Rattle.refusal.specs.Choice.{pick}
use Rattle.refusal.specs.Checks.{first_number}
use Rattle.endian.specs.Range.{every}
use Rattle.endian.proofs.Ranges.{every-at, every-all, sum-none, sum_step, sum_grows}
use Rattle.mesh_manifest.specs.layout.Layout.{manifest_item, levels_of, is_real_of, count_of, nodes_before, level_item, field_count}
use Rattle.mesh_manifest.specs.layout.Bits.{finite_bits, above_zero}
use Rattle.mesh_manifest.specs.sound.Verdict.{right_length, real_fits, reals_fit, in_order_of, level_rises, rise_at, nodes_rise, manifest_checks, manifest_verdict}
use Rattle.mesh_manifest.specs.sound.Soundness.{Sound}

pub record Shaped (s : List ℕ) : Type 0 where
  pub bytes : length s ≤ 16777216
  pub levels : levels_of s ≤ 32
  pub ends : length s ≡ 4 * field_count s

pub shaped : (s : List ℕ) {r : Bool} → r ≡ right_length s → not r ≡ false → Shaped s
unfolding right_length
shaped s {r} e n =
    let a : Bool = leb (length s) 16777216 in
    let b : Bool = leb (levels_of s) 32 in
    let k : ℕ = 28 + 20 * levels_of s + 16 * nodes_before s (levels_of s) in
    let c : Bool = eqb (length s) k in
    let w : T (a && (b && c)) = subst T e (yes r n) in
    let z : length s ≡ k = eqb→eq (length s) k (and_r b c (and_r a (b && c) w)) in
    record {
      bytes = leb→le (length s) 16777216 (and_l a (b && c) w);
      levels = leb→le (levels_of s) 32 (and_l b c (and_r a (b && c) w));
      ends = omega arith;
    }
  where
    yes : (r : Bool) → not r ≡ false → T r
    yes true n = tt
    yes false n = let z : ◌≡◌ {A = ℕ} 0 1 = cc in let y : ⊥ = omega arith in absurd y

-- as the judge asks for it: p is what the test of the length gave, v the level count that it read
module _ (s : List ℕ) {p : Bool} (e : p ≡ right_length s) (n : not p ≡ false) where
  pub shaped_head : 28 ≤ length s
  shaped_head = let h = shaped s e n in omega (arith, h.ends)

  pub shaped_ends : length s ≡ 4 * field_count s
  shaped_ends = (shaped s e n).ends

  pub shaped_levels : {v : ℕ} → v ≡ levels_of s → v ≤ 32
  shaped_levels f = let h = shaped s e n in omega (arith, h.levels)

  pub shaped_room : {v : ℕ} → v ≡ levels_of s → 28 + 20 * v ≤ length s
  shaped_room f = let h = shaped s e n in omega (arith, h.ends)

-- ---- a walk from level to level: `first` is the item where level l begins, n its count

pub level-first : (s : List ℕ) {v : ℕ} → v ≡ levels_of s → 7 + 5 * v ≡ level_item s 0
level-first s e = omega (arith, sum-none (count_of s))

pub level-next : (s : List ℕ) (l : ℕ) {first n : ℕ} → first ≡ level_item s l → n ≡ count_of s l → first + 4 * n ≡ level_item s (l + 1)
level-next s l e f = omega (arith, sum_step (count_of s) l)

-- the items of a level lie within the manifest
pub level-fits : (s : List ℕ) (l : ℕ) {first n v : ℕ} → first ≡ level_item s l → n ≡ count_of s l → v ≡ levels_of s → l < v → length s ≡ 4 * field_count s
    → 4 * (first + 4 * n) ≤ length s
level-fits s l e f g h k = omega (arith, sum_step (count_of s) l, sum_grows (count_of s) (l + 1) (levels_of s) (omega arith))

-- where the level begins, from the node count before it
pub read_fits : (s : List ℕ) (l : ℕ) {v k n : ℕ} → v ≡ levels_of s → k ≡ nodes_before s l → n ≡ count_of s l → l < v → length s ≡ 4 * field_count s
    → 4 * (7 + 5 * v + 4 * k + 4 * n) ≤ length s
read_fits s l f g h j k = level-fits s l (omega arith) h f j k

pub level-within : (s : List ℕ) (l m : ℕ) {first n v : ℕ} → first ≡ level_item s l → n ≡ count_of s l → l < m → m ≤ v → v ≡ levels_of s → length s ≡ 4 * field_count s
    → 4 * (first + 4 * n) ≤ length s
level-within s l m e f g h k q = level-fits s l e f k (omega arith) q

-- ---- a manifest that is not refused

real-below : (v i : ℕ) → is_real_of v i ≡ true → i < 7 + 4 * v
unfolding is_real_of
real-below v i e = go (ltb i 6) refl (leb 7 i) (ltb i (7 + 4 * v)) refl e
  where
    go : (a : Bool) → ltb i 6 ≡ a → (b c : Bool) → ltb i (7 + 4 * v) ≡ c → (a || (b && c)) ≡ true → i < 7 + 4 * v
    go true f b c g h = let k : i < 6 = ltb-true i 6 f in omega arith
    go false f true true g h = ltb-true i (7 + 4 * v) g
    go false f true false g h = let z : ◌≡◌ {A = ℕ} 0 1 = cc in omega arith
    go false f false c g h = let z : ◌≡◌ {A = ℕ} 0 1 = cc in omega arith

picked : (a b c : Bool) → ◌≡◌ {A = ℕ} (pick (not a) 15 (pick (not b) 16 (pick (not c) 17 0))) 0 → (a ≡ true) × (b ≡ true) × (c ≡ true)
picked true true true e = (refl, refl, refl)
picked true true false e = let z : ⊥ = omega arith in absurd z
picked true false c e = let z : ⊥ = omega arith in absurd z
picked false b c e = let z : ⊥ = omega arith in absurd z

implied : (a b : Bool) → T (not a || b) → T a → T b
implied true b t u = t
implied false b t u = absurd u

-- not refused, then sound
pub sound-if : (s : List ℕ) → manifest_verdict s ≡ 0 → Sound s
unfolding manifest_verdict manifest_checks first_number right_length reals_fit nodes_rise real_fits level_rises rise_at
sound-if s e =
    let p = picked (right_length s) (reals_fit s) (nodes_rise s) e in
    let h = shaped s (sym p.0) refl in
    let a : Bool = every (real_fits s) (7 + 4 * levels_of s) in
    let x : Bool = above_zero (manifest_item s 0) in
    let y : Bool = above_zero (manifest_item s 1) in
    let z : Bool = above_zero (manifest_item s 2) in
    let w : T (a && (x && (y && z))) = subst T (sym p.1) tt in
    let v : T (x && (y && z)) = and_r a (x && (y && z)) w in
    record {
      bytes = h.bytes;
      levels = h.levels;
      ends = omega (arith, h.ends);
      reals = λ i t. is_true (finite_bits (manifest_item s i)) (implied (is_real_of (levels_of s) i) (finite_bits (manifest_item s i)) (every-at (real_fits s) (7 + 4 * levels_of s) (and_l a (x && (y && z)) w) i (real-below (levels_of s) i t)) (subst T (sym t) tt));
      above = three (λ i. above_zero (manifest_item s i)) (is_true x (and_l x (y && z) v)) (is_true y (and_l y z (and_r x (y && z) v))) (is_true z (and_r y z (and_r x (y && z) v)));
      rises = λ l i k j. is_true (in_order_of s (level_item s l) (count_of s l) i) (every-at (in_order_of s (level_item s l) (count_of s l)) (count_of s l - 1) (every-at (rise_at s) (levels_of s) (subst T (sym p.2) tt) l k) i (omega arith));
    }
  where
    three : (f : ℕ → Bool) → f 0 ≡ true → f 1 ≡ true → f 2 ≡ true → (i : ℕ) → i < 3 → f i ≡ true
    three f x y z zero h = x
    three f x y z (suc zero) h = y
    three f x y z (suc (suc zero)) h = z
    three f x y z (suc (suc (suc i))) h = let n : ⊥ = omega arith in absurd n

-- sound, then not refused
pub sound-only : (s : List ℕ) → Sound s → manifest_verdict s ≡ 0
unfolding manifest_verdict manifest_checks first_number right_length reals_fit nodes_rise real_fits level_rises rise_at
sound-only s h =
    let k : ℕ = 28 + 20 * levels_of s + 16 * nodes_before s (levels_of s) in
    let r : every (real_fits s) (7 + 4 * levels_of s) ≡ true = every-all (real_fits s) (7 + 4 * levels_of s) (λ i _. either (is_real_of (levels_of s) i) (finite_bits (manifest_item s i)) (h.reals i)) in
    let n : every (rise_at s) (levels_of s) ≡ true =
    every-all (rise_at s) (levels_of s) (λ l m. every-all (in_order_of s (level_item s l) (count_of s l)) (count_of s l - 1) (λ i j. h.rises l i m (omega arith))) in
    rw (
      le-leb (length s) 16777216 h.bytes,
      le-leb (levels_of s) 32 h.levels,
      eq-eqb (length s) k h.ends,
      r,
      h.above 0 (omega arith),
      h.above 1 (omega arith),
      h.above 2 (omega arith),
      n,
    )
  where
    either : (a b : Bool) → (a ≡ true → b ≡ true) → (not a || b) ≡ true
    either true b g = g refl
    either false b g = refl

-- as the questions ask for it: v is the level count that was read
module _ (s : List ℕ) (e : manifest_verdict s ≡ 0) where
  pub head-ends : (n : ℕ) → n ≤ 28 → n ≤ length s
  head-ends n h = let a = sound-if s e in omega (arith, a.ends)

  pub sound-ends : length s ≡ 4 * field_count s
  sound-ends = let a = sound-if s e in omega (arith, a.ends)

  pub sound-bytes : length s ≤ 16777216
  sound-bytes = (sound-if s e).bytes

  pub sound-levels : {v : ℕ} → v ≡ levels_of s → v ≤ 32
  sound-levels f = let a = sound-if s e in omega (arith, a.levels)

  pub sound-room : {v : ℕ} → v ≡ levels_of s → 28 + 20 * v ≤ length s
  sound-room f = let a = sound-if s e in omega (arith, a.ends)

  pub item-ends : (i : ℕ) → i < field_count s → 4 * i + 4 ≤ length s
  item-ends i h = let a = sound-if s e in omega (arith, a.ends)

  pub head-real : (i : ℕ) → i < 6 → T (finite_bits (manifest_item s i))
  unfolding is_real_of
  head-real i h = subst T (sym ((sound-if s e).reals i (rw (lt-ltb i 6 h)))) tt

  pub told-real : (i : ℕ) {v : ℕ} {p : Bool} → v ≡ levels_of s → p ≡ is_real_of v i → p ≡ true → T (finite_bits (manifest_item s i))
  told-real i {v} {p} f g t = subst T (sym ((sound-if s e).reals i (cc))) tt

pub ruleset sound = (
  shaped_head,
  shaped_ends,
  shaped_levels,
  shaped_room,
  level-first,
  level-next,
  level-fits,
  level-within,
  head-ends,
  sound-ends,
  sound-bytes,
  sound-levels,
  sound-room,
  item-ends,
  head-real,
  told-real,
  rules,
)
