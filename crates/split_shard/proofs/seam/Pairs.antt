-- A pair whose lengths are good is a file cut at its index end; and a call on it, test by test.
use Prim.Native.Nat.{ℕ, zero, suc, ◌+◌, ◌-◌, ◌≤◌}
use mathlib.Core.Path.{◌≡◌, refl, sym, ap, ◌∙◌}
use mathlib.Core.Bool.{Bool, true, false, not}
use mathlib.Core.List.{List, [], ◌∷◌, ◌++◌}
use native.Mathlib.Omega.{arith}
use lib.Dec.{eqb, ltb}
use lib.ListN.{length, take, drop, length-append, length-drop}
use lib.Seq.{take-append-le, drop-append-le, take-append_seam, drop-append_seam, drop-append-add}
use mir.Val.{Fits}
use mir.Syntax.{w64}
use borrow.Author.Rules.{rules}
use borrow.Author.Tests.{eqb-true, ltb-true, ltb-false, not-false}
use Rattle.refusal.specs.Choice.{pick}
use Rattle.refusal.specs.Checks.{Check, check, unless, answered, first_number}
use Rattle.refusal.proofs.Picks.{AllIn, all_in_lem, by_picks}
use Rattle.refusal.proofs.Refusing.{first-both, answered-both}
use Rattle.refusal.proofs.Tests.{told-no, told-yes, neither}
use Rattle.sharding.specs.declared.Sharding.{Sharding}
use Rattle.sharding.specs.Specification.{allowed}
use Rattle.shard.specs.index.Index.{most_shard_bytes}
use Rattle.shard.specs.File.{index_length_of, index_part, data_part, bad_file_length, file_checks}
use Rattle.shard.proofs.Numbers.{or-none, pick-zero, unless-some, unless-none}
use Rattle.shard.proofs.Split.{rest_of, rest-whole, length-long, length_good}
use Rattle.split_shard.specs.seam.Pair.{bad_seam, then_seam, pair_checks, pair_answer, pair_length_checks, length_number}

-- ---- the lengths, as the code tests them

module _ (spec : Sharding) (index d : List ℕ) {n : ℕ} (w : n ≡ index_length_of spec) where
  pub number_seam : not (eqb (length index) n) ≡ true → 23 ≡ length_number spec index d
  unfolding length_number pair_length_checks first_number bad_seam
  number_seam t = rw (← w, t)

  module _ (t : not (eqb (length index) n) ≡ false) where
    same : length index ≡ n
    same = eqb-true (length index) n (not-false _ t)

    pub number-long : ltb (most_shard_bytes - n) (length d) ≡ true → 6 ≡ length_number spec index d
    unfolding length_number pair_length_checks first_number bad_seam
    number-long u =
        let h = ltb-true (most_shard_bytes - n) (length d) u in
        rw (← w, t, length-long spec (length (index ++ d)) (omega (arith, same, length-append index d)))

    pub number-none : n ≤ 1048576 → ltb (most_shard_bytes - n) (length d) ≡ false → 0 ≡ length_number spec index d
    unfolding length_number pair_length_checks first_number bad_seam
    number-none l u =
        let h = ltb-false (most_shard_bytes - n) (length d) u in
        rw (
          ← w,
          t,
          length_good spec {n = length (index ++ d)} w (omega (arith, same, length-append index d)) (omega (arith, same, length-append index d)),
        )

pub ruleset measuring = (number_seam, number-long, number-none, rules)

-- ---- what they are where neither is refused

pub record Seamed (spec : Sharding) (index d : List ℕ) : Type 0 where
  pub measured : length index ≡ index_length_of spec
  pub short : length (index ++ d) ≤ most_shard_bytes

pub number_seamed : (spec : Sharding) (index d : List ℕ) → length_number spec index d ≡ 0 → Seamed spec index d
unfolding length_number pair_length_checks first_number bad_seam bad_file_length
number_seamed spec index d e =
    let p = pick-zero (not (eqb (length index) (index_length_of spec))) 22 _ e in
    let q = pick-zero (bad_file_length spec (length (index ++ d))) 5 _ p.1 in
    let o = neither (ltb (length (index ++ d)) (index_length_of spec)) _ q.0 in
    record { measured = eqb-true _ _ (not-false _ p.0); short = ltb-false _ _ o.1 }

-- the joined file is then cut at its index end
module _ (spec : Sharding) (index d : List ℕ) (e : length index ≡ index_length_of spec) where
  pub seamed_front : take (index_length_of spec) (index ++ d) ≡ index
  seamed_front = rw (← e) (take-append_seam index d)

  pub seamed_back : drop (index_length_of spec) (index ++ d) ≡ d
  seamed_back = rw (← e) (drop-append_seam index d)

  pub seamed_rest : rest_of (index_length_of spec) (index ++ d) ≡ d
  seamed_rest = rest-whole (index_length_of spec) (index ++ d) ∙ seamed_back

module _ {spec : Sharding} {index d : List ℕ} (s : Seamed spec index d) where
  pub seamed_index : index_part spec (index ++ d) ≡ index
  seamed_index = seamed_front spec index d s.measured

  pub seamed_data : data_part spec (index ++ d) ≡ d
  seamed_data = seamed_back spec index d s.measured

-- ranges of the joined file before the seam, and from it on
pub joined_front : (index d : List ℕ) (a k : ℕ) → a + k ≤ length index → take k (drop a (index ++ d)) ≡ take k (drop a index)
joined_front index d a k h =
    rw (drop-append-le a index d (omega arith)) (take-append-le k (drop a index) d (omega (arith, length-drop a index)))

pub joined_rest : (index d : List ℕ) (a k : ℕ) → length index ≤ a → take k (drop a (index ++ d)) ≡ take k (drop (a - length index) d)
joined_rest index d a k h =
    let e : a ≡ length index + (a - length index) = omega arith in
    ap (λ (n : ℕ). take k (drop n (index ++ d))) e ∙ ap (take k) (drop-append-add index d (a - length index))

-- ---- as the code has them: n is what it found

module _ (spec : Sharding) (index d : List ℕ) {n : ℕ} (p : n ≡ length_number spec index d) (z : n ≡ 0) where
  seamed : Seamed spec index d
  seamed = number_seamed spec index d (sym p ∙ z)

  pub seam_measured : length index ≡ index_length_of spec
  seam_measured = seamed.measured

  pub seam_short : length d ≤ most_shard_bytes
  seam_short = omega (arith, seamed.short, length-append index d)

  pub seam_fits : Fits w64 (length index + length d)
  seam_fits = record { fits = omega (arith, seamed.short, length-append index d) }

-- ---- a call on a pair, test by test; `before` are its checks before 23

-- what did not refuse the call does not refuse it later
once : {A : Type 0} (r : ℕ → A) (n k : ℕ) (x : A) → unless r n (unless r k (unless r n x)) ≡ unless r n (unless r k x)
unfolding unless
once r zero k x = refl
once r (suc n) k x = refl

module _ (before : List Check) (named : AllIn before) (spec : Sharding) (index : List ℕ) where
  -- where none of them holds, nor 23
  pub before_seamed : first_number (then_seam before spec index) ≡ 0 → length index ≡ index_length_of spec
  unfolding first_number bad_seam
  before_seamed z =
      let q = or-none (first_number before) _ (sym (first-both before (check 23 (bad_seam spec index) ∷ []) named) ∙ z) in
      let s = pick-zero (not (eqb (length index) (index_length_of spec))) 22 _ q.1 in
      eqb-true _ _ (not-false _ s.0)

  -- where the joined file's answer is one by them and 6
  pub before-length : {A : Type 0} (r : ℕ → A) (d : List ℕ) (inside : A) {joined : A} → joined ≡ answered r (before ++ (check 6 (bad_file_length spec (length (index ++ d))) ∷ [])) inside
      → answered r (then_seam before spec index) joined ≡ answered r before (unless r (length_number spec index d) inside)
  unfolding length_number pair_length_checks
  before-length r d inside {joined} j =
      let seam = check 23 (bad_seam spec index) ∷ [] in
      let long = check 6 (bad_file_length spec (length (index ++ d))) ∷ [] in
      answered-both r before seam joined named
      ∙ rw (j, answered-both r before long inside named, answered-both r seam long inside ((omega arith, omega arith), tt))
      (once r (first_number before) (first_number seam) (answered r long inside))

-- where the joined file's answer is one by 1, 5 and 6
module _ {A : Type 0} (r : ℕ → A) (spec : Sharding) (five : Bool) (index d : List ℕ) (inside : A) {joined : A} (j : joined ≡ answered r (file_checks spec five (index ++ d)) inside) where
  pub pair_picks : pair_answer r spec five index joined ≡ pick (not (allowed spec)) (r 1) (pick five (r 5) (unless r (length_number spec index d) inside))
  unfolding pair_checks file_checks
  pair_picks =
      let before = check 1 (not (allowed spec)) ∷ check 5 five ∷ [] in
      before-length before (all_in_lem before refl) spec index r d inside j ∙ by_picks r before _ refl

  module _ {b : Bool} (p : b ≡ allowed spec) where
    pub pair_1 : not b ≡ true → r 1 ≡ pair_answer r spec five index joined
    pair_1 q = rw (pair_picks, told-no p q)

    module _ (q : not b ≡ false) where
      pub pair_5 : five ≡ true → r 5 ≡ pair_answer r spec five index joined
      pair_5 f = rw (pair_picks, told-yes p q, f)

      module _ (f : five ≡ false) {n : ℕ} (e : n ≡ length_number spec index d) where
        pub pair-length : (n ≡ 0 → ⊥) → r n ≡ pair_answer r spec five index joined
        pair-length z = rw (pair_picks, told-yes p q, f, ← e) (unless-some r n inside z)

        pub pair_inside : n ≡ 0 → {a : A} → a ≡ inside → a ≡ pair_answer r spec five index joined
        pair_inside z g = rw (pair_picks, told-yes p q, f, ← e) (g ∙ unless-none r n inside z)

-- where none of 1, 5 and 23 holds
pub checks_seamed : (spec : Sharding) (five : Bool) (index : List ℕ) → first_number (pair_checks spec five index) ≡ 0 → length index ≡ index_length_of spec
unfolding pair_checks
checks_seamed spec five index z =
    let before = check 1 (not (allowed spec)) ∷ check 5 five ∷ [] in
    before_seamed before (all_in_lem before refl) spec index z
