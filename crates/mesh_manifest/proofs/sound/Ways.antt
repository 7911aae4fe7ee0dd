-- The judge's answers, each by the tests that lead to it; p, q, r are what those tests gave.
use Prim.Native.Nat.{ℕ, ◌+◌, ◌-◌, ◌*◌, ◌≤◌, ◌<◌}
use mathlib.Core.Path.{◌≡◌, refl, sym, ap, ◌∙◌}
use mathlib.Core.Bool.{Bool, true, false, not, ◌&&◌}
use mathlib.Core.List.{List}
use native.Mathlib.Omega.{arith}
use lib.Dec.{leb, ltb, eqb}
use lib.ListN.{length}
use borrow.Author.Rules.{rules}
use borrow.Author.Tests.{lt-ltb, le-ltb, lt-leb, le-leb, ne_eqb}
use Rattle.endian.specs.Range.{every}
use Rattle.endian.proofs.Ranges.{every-fails, every-done}
use Rattle.refusal.specs.Checks.{first_number, unless}
use Rattle.std.specs.Prelude.{Ok}
use Rattle.refusal.specs.Answers.{refuse}
use Rattle.refusal.specs.Answers.{judged}
use Rattle.refusal.proofs.Tests.{told-no, told-yes}
use Rattle.mesh_manifest.specs.layout.Layout.{manifest_item, levels_of, is_real_of, count_of, nodes_before, level_item}
use Rattle.mesh_manifest.specs.layout.Bits.{finite_bits, above_zero}
use Rattle.mesh_manifest.specs.sound.Verdict.{right_length, real_fits, reals_fit, in_order_of, level_rises, rise_at, nodes_rise, manifest_checks, manifest_verdict}

-- ---- 15

unequal : (a b : Bool) (m n : ℕ) → (m ≡ n → ⊥) → false ≡ (a && (b && eqb m n))
unequal true true m n h = sym (ne_eqb m n h)
unequal true false m n h = refl
unequal false b m n h = refl

pub never : (a : Bool) → false ≡ (a && false)
never true = refl
never false = refl

module _ (s : List ℕ) where
  pub length_above : 16777216 < length s → false ≡ right_length s
  unfolding right_length
  length_above h = rw (lt-leb (length s) 16777216 h)

  pub length-short : length s < 28 → false ≡ right_length s
  unfolding right_length
  length-short h = unequal (leb (length s) 16777216) (leb (levels_of s) 32) (length s) (28 + 20 * levels_of s + 16 * nodes_before s (levels_of s)) (λ e. omega arith)

  pub levels-above : {v : ℕ} → v ≡ levels_of s → 32 < v → false ≡ right_length s
  unfolding right_length
  levels-above {v} e h = rw (lt-leb (levels_of s) 32 (omega arith)) (never (leb (length s) 16777216))

  pub length-short_of : {v : ℕ} → v ≡ levels_of s → length s < 28 + 20 * v → false ≡ right_length s
  unfolding right_length
  length-short_of e h = unequal (leb (length s) 16777216) (leb (levels_of s) 32) (length s) (28 + 20 * levels_of s + 16 * nodes_before s (levels_of s)) (λ k. omega arith)

  pub length_right : {v n : ℕ} → v ≡ levels_of s → n ≡ nodes_before s v → v ≤ 32 → length s ≤ 16777216 → eqb (length s) (28 + 20 * v + 16 * n) ≡ right_length s
  unfolding right_length
  length_right {v} {n} e f h k =
      let g : levels_of s ≤ 32 = omega arith in
      let m : n ≡ nodes_before s (levels_of s) = f ∙ ap (nodes_before s) e in
      rw (le-leb (length s) 16777216 k, le-leb (levels_of s) 32 g) (ap (eqb (length s)) (omega arith))

-- ---- 16

module _ (v i : ℕ) where
  pub real-first : i < 6 → true ≡ is_real_of v i
  unfolding is_real_of
  real-first h = rw (lt-ltb i 6 h)

  pub real-count : 6 ≤ i → i < 7 → false ≡ is_real_of v i
  unfolding is_real_of
  real-count h k = rw (le-ltb i 6 h, lt-leb 7 i k)

  pub real-rest : 6 ≤ i → 7 ≤ i → ltb i (7 + 4 * v) ≡ is_real_of v i
  unfolding is_real_of
  real-rest h k = rw (le-ltb i 6 h, le-leb 7 i k)

module _ (s : List ℕ) (i : ℕ) where
  pub fits-real : {v w : ℕ} {p r : Bool} → v ≡ levels_of s → p ≡ is_real_of v i → p ≡ true → w ≡ manifest_item s i → r ≡ finite_bits w → r ≡ real_fits s i
  unfolding real_fits
  fits-real {v} {w} {p} {r} e f t g h = let q : is_real_of (levels_of s) i ≡ true = cc in rw q (h ∙ ap finite_bits g)

  pub fits_whole : {v : ℕ} {p : Bool} → v ≡ levels_of s → p ≡ is_real_of v i → p ≡ false → true ≡ real_fits s i
  unfolding real_fits
  fits_whole {v} {p} e f t = let q : is_real_of (levels_of s) i ≡ false = cc in rw q

module _ (s : List ℕ) {a : Bool} {lv : ℕ} (e₀ : a ≡ every (real_fits s) (7 + 4 * lv)) (ev : lv ≡ levels_of s) where
  e : a ≡ every (real_fits s) (7 + 4 * levels_of s)
  e = e₀ ∙ ap (λ (n : ℕ). every (real_fits s) (7 + 4 * n)) ev

  pub reals-no : not a ≡ true → false ≡ reals_fit s
  unfolding reals_fit
  reals-no n = rw (told-no e n)

  module _ (k : not a ≡ false) {v : ℕ} {x : Bool} (f : v ≡ manifest_item s 0) (g : x ≡ above_zero v) where
    pub reals-no-x : not x ≡ true → false ≡ reals_fit s
    unfolding reals_fit
    reals-no-x n = let q : above_zero (manifest_item s 0) ≡ false = sym (ap above_zero f) ∙ told-no g n in rw (told-yes e k, q)

    module _ (l : not x ≡ false) {w : ℕ} {y : Bool} (h : w ≡ manifest_item s 1) (i : y ≡ above_zero w) where
      pub reals-no-y : not y ≡ true → false ≡ reals_fit s
      unfolding reals_fit
      reals-no-y n =
          let p : above_zero (manifest_item s 0) ≡ true = sym (ap above_zero f) ∙ told-yes g l in
          let q : above_zero (manifest_item s 1) ≡ false = sym (ap above_zero h) ∙ told-no i n in
          rw (told-yes e k, p, q)

      pub reals-z : not y ≡ false → {u : ℕ} {z : Bool} → u ≡ manifest_item s 2 → z ≡ above_zero u → z ≡ reals_fit s
      unfolding reals_fit
      reals-z n j m =
          let p : above_zero (manifest_item s 0) ≡ true = sym (ap above_zero f) ∙ told-yes g l in
          let q : above_zero (manifest_item s 1) ≡ true = sym (ap above_zero h) ∙ told-yes i n in
          rw (told-yes e k, p, q) (m ∙ ap above_zero j)

-- ---- 17

module _ (s : List ℕ) (first n i : ℕ) where
  pub level-fails : {r : Bool} → r ≡ in_order_of s first n i → not r ≡ true → i + 1 < n → false ≡ level_rises s first n
  unfolding level_rises
  level-fails e t h = every-fails (in_order_of s first n) (n - 1) i e t (omega arith)

-- level l begins at item `first` and has n nodes; v is the level count that was read
module _ (s : List ℕ) (l : ℕ) where
  pub rise-at : {first n : ℕ} {r : Bool} → r ≡ level_rises s first n → first ≡ level_item s l → n ≡ count_of s l → r ≡ rise_at s l
  unfolding rise_at
  rise-at {first} {n} {r} e f g = cc

  pub nodes_fail : {first n v : ℕ} {r : Bool} → r ≡ level_rises s first n → first ≡ level_item s l → n ≡ count_of s l → not r ≡ true → v ≡ levels_of s → l < v → false ≡ nodes_rise s
  unfolding nodes_rise
  nodes_fail e f g t k h = every-fails (rise_at s) (levels_of s) l (rise-at e f g) t (omega arith)

  pub nodes-done : {v : ℕ} → every (rise_at s) l ≡ true → v ≡ levels_of s → l ≤ v → v ≤ l → true ≡ nodes_rise s
  unfolding nodes_rise
  nodes-done p e h k = every-done (rise_at s) (levels_of s) l p (omega arith) (omega arith)

-- ---- the verdict

module _ (s : List ℕ) {p : Bool} (e : p ≡ right_length s) where
  pub verdict_15 : not p ≡ true → refuse 15 ≡ judged (manifest_verdict s)
  unfolding manifest_verdict manifest_checks first_number unless
  verdict_15 n = rw (told-no e n)

  module _ (k : not p ≡ false) {q : Bool} (f : q ≡ reals_fit s) where
    pub verdict_16 : not q ≡ true → refuse 16 ≡ judged (manifest_verdict s)
    unfolding manifest_verdict manifest_checks first_number unless
    verdict_16 n = rw (told-yes e k, told-no f n)

    module _ (l : not q ≡ false) {r : Bool} (g : r ≡ nodes_rise s) where
      pub verdict_17 : not r ≡ true → refuse 17 ≡ judged (manifest_verdict s)
      unfolding manifest_verdict manifest_checks first_number unless
      verdict_17 n = rw (told-yes e k, told-yes f l, told-no g n)

      pub verdict_0 : not r ≡ false → Ok tt ≡ judged (manifest_verdict s)
      unfolding manifest_verdict manifest_checks first_number unless
      verdict_0 n = rw (told-yes e k, told-yes f l, told-yes g n)

pub ruleset ways = (
  length_above,
  length-short,
  levels-above,
  length-short_of,
  length_right,
  real-first,
  real-count,
  real-rest,
  fits-real,
  fits_whole,
  reals-no,
  reals-no-x,
  reals-no-y,
  reals-z,
  level-fails,
  nodes_fail,
  nodes-done,
  verdict_15,
  verdict_16,
  verdict_17,
  verdict_0,
  rules,
)
