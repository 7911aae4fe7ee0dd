-- A range of the joined file: 1, 23, 6, 24, then the file that holds it.
use Prim.Native.Nat.{ℕ, zero, suc, ◌+◌, ◌-◌, ◌<◌, ◌≤◌}
use mathlib.Core.Path.{◌≡◌, refl, sym, ap, ◌∙◌}
use mathlib.Core.Bool.{Bool, true, false, not, ◌&&◌}
use mathlib.Core.List.{List, [], ◌∷◌, ◌++◌}
use native.Mathlib.Omega.{arith}
use lib.Dec.{ltb}
use lib.ListN.{length, take, drop, length-append}
use borrow.Author.Rules.{rules}
use borrow.Author.Tests.{lt-ltb, le-ltb, ltb-true, ltb-false}
use Rattle.refusal.specs.Choice.{pick}
use Rattle.refusal.specs.Checks.{check, first_number, unless}
use Rattle.refusal.proofs.Picks.{all_in_lem, by_picks}
use Rattle.refusal.proofs.Refusing.{answered-both, by_none}
use Rattle.refusal.proofs.Tests.{told-no, told-yes, neither}
use Rattle.sharding.specs.declared.Sharding.{Sharding}
use Rattle.sharding.specs.Specification.{allowed}
use Rattle.shard.specs.File.{bad_file_length}
use Rattle.shard.proofs.Numbers.{pick-zero, unless-some, unless-none}
use Rattle.split_shard.specs.declared.held_range.RangeAnswer.{RangeAnswer}
use Rattle.split_shard.specs.declared.held_range.RangeAnswer.TheVariants.{InIndex, InData, Refused}
use Rattle.split_shard.specs.held_range.Held.{bad_range, held_range, range_in, either, range_start, range_bytes, Held}
use Rattle.split_shard.proofs.held_range.Held.{in_picks, refused-held, held_in}
use Rattle.split_shard.specs.seam.Pair.{bad_seam, pair_length_checks, length_number}
use Rattle.split_shard.specs.seam.Range.{range_checks, range_answer}
use Rattle.split_shard.proofs.seam.Pairs.{seam_fits, joined_front, joined_rest}

-- ---- a range request

module _ (spec : Sharding) (index d : List ℕ) (start end : ℕ) where
  range_picks : range_answer spec index d start end
      ≡ pick (not (allowed spec)) (Refused 1) (unless Refused (length_number spec index d) (range_in (length index) (length (index ++ d)) start end))
  unfolding range_answer range_checks length_number pair_length_checks range_in
  range_picks =
      let first = check 1 (not (allowed spec)) ∷ [] in
      let last = check 24 (bad_range (length index) (length (index ++ d)) start end) ∷ [] in
      answered-both Refused first (pair_length_checks spec index d ++ last) _ (all_in_lem first refl)
      ∙ by_picks Refused first _ refl
      ∙ rw (answered-both Refused (pair_length_checks spec index d) last (held_range (length index) start end) (all_in_lem (pair_length_checks spec index d) refl))

  module _ {b : Bool} (p : b ≡ allowed spec) where
    pub range_spec : not b ≡ true → Refused 1 ≡ range_answer spec index d start end
    range_spec q = rw (range_picks, told-no p q)

    module _ (q : not b ≡ false) {n : ℕ} (e : n ≡ length_number spec index d) where
      pub range_length_lem : (n ≡ 0 → ⊥) → Refused n ≡ range_answer spec index d start end
      range_length_lem z = rw (range_picks, told-yes p q, ← e) (unless-some Refused n _ z)

      pub range-held : n ≡ 0 → {a : RangeAnswer} → a ≡ range_in (length index) (length index + length d) start end → a ≡ range_answer spec index d start end
      range-held z g =
          rw (range_picks, told-yes p q, ← e)
          (g ∙ ap (λ (k : ℕ). range_in (length index) k start end) (sym (length-append index d)) ∙ unless-none Refused n _ z)

pub ruleset asking = (range_spec, range_length_lem, range-held, seam_fits, told-yes, rules)

-- ---- what is handed out lies within its file

unless-held : (k i d : ℕ) (a : RangeAnswer) → (k ≡ 0 → Held a i d) → Held (unless Refused k a) i d
unfolding unless
unless-held zero i d a h = h refl
unless-held (suc k) i d a h = refused-held (suc k) i d

module _ (spec : Sharding) (index d : List ℕ) (start end : ℕ) where
  range-within : Held (range_answer spec index d start end) (length index) (length d)
  range-within = rw (range_picks spec index d start end) (by_test (not (allowed spec)))
    where
      by_lengths : Held (unless Refused (length_number spec index d) (range_in (length index) (length (index ++ d)) start end)) (length index) (length d)
      by_lengths =
          unless-held (length_number spec index d) (length index) (length d) _
          (λ z. rw (length-append index d, in_picks (length index) (length index + length d) start end)
          (held_in (length index) (length d) start end _ refl (seam_fits spec index d refl z).fits))

      by_test : (b : Bool) → Held (pick b (Refused 1) (unless Refused (length_number spec index d) (range_in (length index) (length (index ++ d)) start end))) (length index) (length d)
      by_test true = refused-held 1 (length index) (length d)
      by_test false = by_lengths

  -- as the code has it: r is what the request gave
  module _ {r : RangeAnswer} (p : r ≡ range_answer spec index d start end) where
    pub given-within : Held r (length index) (length d)
    given-within = rw p range-within

    pub given-bytes : {b : List ℕ} → b ≡ range_bytes r index d → b ≡ range_bytes (range_answer spec index d start end) index d
    given-bytes e = e ∙ ap (λ (a : RangeAnswer). range_bytes a index d) p

    pub given-file : (x y : ℕ) {n : ℕ} → n ≡ either r x y → n ≡ either (range_answer spec index d start end) x y
    given-file x y e = e ∙ ap (λ (a : RangeAnswer). either a x y) p

    pub given-place : (x y : ℕ) {n : ℕ} → n ≡ either r x y + range_start r → n ≡ either (range_answer spec index d start end) x y + range_start (range_answer spec index d start end)
    given-place x y e = e ∙ ap (λ (a : RangeAnswer). either a x y + range_start a) p

  -- ---- what a range that is not refused is

  module _ (z : first_number (range_checks spec index d start end) ≡ 0) where
    range_good : bad_range (length index) (length (index ++ d)) start end ≡ false
    unfolding range_checks first_number
    range_good =
        (pick-zero (bad_range (length index) (length (index ++ d)) start end) 23 _
        (pick-zero (bad_file_length spec (length (index ++ d))) 5 _ (pick-zero (bad_seam spec index) 22 _ (pick-zero (not (allowed spec)) 0 _ z).1).1).1).0

    range-whole : start < length index → (start ≤ end) × (end ≤ length index)
    unfolding bad_range
    range-whole h =
        let p = neither (ltb start (length index) && ltb (length index) end) _ range_good in
        let q = neither (ltb end start) _ p.1 in
        let f : ltb (length index) end ≡ false = rw (lt-ltb start (length index) h) at p.0 in
        (ltb-false _ _ q.0, ltb-false _ _ f)

    range-is : range_answer spec index d start end ≡ held_range (length index) start end
    unfolding range_answer
    range-is = by_none Refused (range_checks spec index d start end) _ z

    -- "whichever holds it. An empty range at the seam belongs to the data file."
    pub range_in_index : start < length index → range_answer spec index d start end ≡ InIndex start (end - start)
    unfolding held_range
    range_in_index h = range-is ∙ rw (lt-ltb start (length index) h)

    pub range_in_data : length index ≤ start → range_answer spec index d start end ≡ InData (start - length index) (end - start)
    unfolding held_range
    range_in_data h = range-is ∙ rw (le-ltb start (length index) h)

    -- the bytes handed out are those of the joined file
    pub range_joined : range_bytes (range_answer spec index d start end) index d ≡ take (end - start) (drop start (index ++ d))
    range_joined = by_test (ltb start (length index)) refl
      where
        behind : length index ≤ start → range_bytes (range_answer spec index d start end) index d ≡ take (end - start) (drop start (index ++ d))
        behind h = rw (range_in_data h) (sym (joined_rest index d start (end - start) h))

        before : start < length index → range_bytes (range_answer spec index d start end) index d ≡ take (end - start) (drop start (index ++ d))
        before h = let g = range-whole h in rw (range_in_index h) (sym (joined_front index d start (end - start) (omega arith)))

        by_test : (b : Bool) → ltb start (length index) ≡ b → range_bytes (range_answer spec index d start end) index d ≡ take (end - start) (drop start (index ++ d))
        by_test true e = before (ltb-true _ _ e)
        by_test false e = behind (ltb-false _ _ e)

pub ruleset handing = (given-within, given-bytes, given-file, given-place, rules)
