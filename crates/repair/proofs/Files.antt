-- What repair of two files answers and leaves, by the way that it is reached.
use Rattle.std.proofs.Common.{◌≡◌, ℕ, ◌<◌, ◌≤◌, Bool, true, false, not, ◌&&◌, ltb, List, [], ◌∷◌, length, take, sym, refl, ap, ◌∙◌, arith, rules, ltb-false, le-ltb, le-leb}
use borrow.Author.Tests.{lt-leb}
use Rattle.refusal.specs.Choice.{pick}
use Rattle.refusal.proofs.Picks.{by_picks}
use Rattle.refusal.proofs.Tests.{told-no, told-yes, neither}
use Rattle.sharding.specs.declared.Sharding.{Sharding}
use Rattle.sharding.specs.Specification.{allowed, shard_count_of, no_such_shard}
use Rattle.shard.specs.index.Index.{most_shard_bytes}
use Rattle.shard.specs.File.{index_length_of, index_part, data_part, bad_file_length}
use Rattle.shard.proofs.Split.{rest_of, rest-whole, length-short, front-count, front-index, rest-short}
use Rattle.repair.specs.form.Choosing.{Pair}
use Rattle.repair.specs.declared.RepairAnswer.{RepairAnswer}
use Rattle.repair.specs.declared.RepairAnswer.TheVariants.{Refused}
use Rattle.repair.specs.Repair.{repair_in, left_in, repair_checks, or_other, first_index, first_data, repair_answer, repair_left}

-- ---- 6

module _ (spec : Sharding) {n : ℕ} (e : n ≡ index_length_of spec) (len : ℕ) where
  pub short_bad : len < n → true ≡ bad_file_length spec len
  short_bad l = sym (length-short spec e l)

  pub long_bad : n ≤ len → ltb most_shard_bytes len ≡ bad_file_length spec len
  unfolding bad_file_length
  long_bad l = rw (← e, le-ltb len n l)

pub ruleset measuring = (short_bad, long_bad, rules)

-- a file that it does not refuse
pub record Good (spec : Sharding) (file : List ℕ) : Type 0 where
  pub held : index_length_of spec ≤ length file
  pub short : length file ≤ most_shard_bytes

pub good : (spec : Sharding) (file : List ℕ) → bad_file_length spec (length file) ≡ false → Good spec file
unfolding bad_file_length
good spec file e =
    let q = neither _ _ e in
    record { held = ltb-false _ _ q.0; short = ltb-false _ _ q.1 }

-- ---- two such files, by their parts

module _ (spec : Sharding) {n : ℕ} (e : n ≡ index_length_of spec) where
  pub front-inside : (file : List ℕ) → bad_file_length spec (length file) ≡ false → n ≤ length file
  front-inside file g = omega (arith, (good spec file g).held)

  pub front-is : (file : List ℕ) → bad_file_length spec (length file) ≡ false → n ≡ length (take n file)
  front-is file g = front-count spec file e (good spec file g).held

  module _ (a b : List ℕ) where
    pub pair_of : allowed spec ≡ true → bad_file_length spec (length a) ≡ false → bad_file_length spec (length b) ≡ false → Pair spec (take n a) (rest_of n a) (take n b) (rest_of n b)
    pair_of p g h = record {
      permitted = p;
      first = front-index spec a e (good spec a g).held;
      second = front-index spec b e (good spec b h).held;
      short = rest-short spec a e (good spec a g).short;
      small = rest-short spec b e (good spec b h).short;
    }

    pub answer-of : (shard : ℕ) (out : List ℕ) {r : RepairAnswer} → r ≡ repair_in spec shard (take n a) (rest_of n a) (take n b) (rest_of n b) out
        → r ≡ repair_in spec shard (index_part spec a) (data_part spec a) (index_part spec b) (data_part spec b) out
    answer-of shard out h = rw (rest-whole n a, rest-whole n b, e) at h

    pub left_of : (shard : ℕ) (out : List ℕ) {o : List ℕ} → o ≡ left_in spec shard (take n a) (rest_of n a) (take n b) (rest_of n b) out
        → o ≡ left_in spec shard (index_part spec a) (data_part spec a) (index_part spec b) (data_part spec b) out
    left_of shard out h = rw (rest-whole n a, rest-whole n b, e) at h

pub ruleset parting = (front-inside, front-is, pair_of, answer-of, left_of, rules)

-- ---- as choices

module _ (spec : Sharding) (shard : ℕ) (a b out : List ℕ) where
  pub answer_picks : repair_answer spec shard a b out
      ≡ pick (not (allowed spec)) (Refused 1)
      (pick (no_such_shard spec shard) (Refused 5)
      (pick (bad_file_length spec (length a) && bad_file_length spec (length b)) (Refused 6)
      (repair_in spec shard (first_index spec a b) (first_data spec a b) (first_index spec b a) (first_data spec b a) out)))
  unfolding repair_answer repair_checks
  answer_picks = by_picks Refused (repair_checks spec shard a b) _ refl

  pub left_picks : repair_left spec shard a b out
      ≡ pick (not (allowed spec)) out
      (pick (no_such_shard spec shard) out
      (pick (bad_file_length spec (length a) && bad_file_length spec (length b)) out
      (left_in spec shard (first_index spec a b) (first_data spec a b) (first_index spec b a) (first_data spec b a) out)))
  unfolding repair_left repair_checks
  left_picks = by_picks (λ k. out) (repair_checks spec shard a b) _ refl

  pub keeps : (file other : List ℕ) → bad_file_length spec (length file) ≡ false → or_other spec file other ≡ file
  unfolding or_other
  keeps file other e = rw e

  pub replaces : (file other : List ℕ) → bad_file_length spec (length file) ≡ true → or_other spec file other ≡ other
  unfolding or_other
  replaces file other e = rw e

  -- ---- as the code finds it

  module _ {p : Bool} (ep : p ≡ allowed spec) where
    pub answer_disallowed : not p ≡ true → Refused 1 ≡ repair_answer spec shard a b out
    answer_disallowed q = rw (answer_picks, told-no ep q)

    pub left_disallowed : not p ≡ true → out ≡ repair_left spec shard a b out
    left_disallowed q = rw (left_picks, told-no ep q)

    module _ (q : not p ≡ false) {c : ℕ} (u : c ≡ shard_count_of spec) where
      pub answer-shard : c ≤ shard → Refused 5 ≡ repair_answer spec shard a b out
      answer-shard l = rw (answer_picks, told-yes ep q, ← u, le-leb c shard l)

      pub left-shard : c ≤ shard → out ≡ repair_left spec shard a b out
      left-shard l = rw (left_picks, told-yes ep q, ← u, le-leb c shard l)

      module _ (l : shard < c) {x y : Bool} (ex : x ≡ bad_file_length spec (length a)) (ey : y ≡ bad_file_length spec (length b)) where
        pub answer-both : x ≡ true → y ≡ true → Refused 6 ≡ repair_answer spec shard a b out
        answer-both s t = rw (answer_picks, told-yes ep q, ← u, lt-leb c shard l, sym ex ∙ s, sym ey ∙ t)

        pub left_both : x ≡ true → y ≡ true → out ≡ repair_left spec shard a b out
        left_both s t = rw (left_picks, told-yes ep q, ← u, lt-leb c shard l, sym ex ∙ s, sym ey ∙ t)

        pub answer-second : x ≡ true → y ≡ false → {r : RepairAnswer} → r ≡ repair_in spec shard (index_part spec b) (data_part spec b) (index_part spec b) (data_part spec b) out
            → r ≡ repair_answer spec shard a b out
        answer-second s t h = rw (answer_picks, told-yes ep q, ← u, lt-leb c shard l, replaces a b (sym ex ∙ s), keeps b a (sym ey ∙ t), sym ex ∙ s, sym ey ∙ t) h

        pub left-second : x ≡ true → y ≡ false → {o : List ℕ} → o ≡ left_in spec shard (index_part spec b) (data_part spec b) (index_part spec b) (data_part spec b) out
            → o ≡ repair_left spec shard a b out
        left-second s t h = rw (left_picks, told-yes ep q, ← u, lt-leb c shard l, replaces a b (sym ex ∙ s), keeps b a (sym ey ∙ t), sym ex ∙ s, sym ey ∙ t) h

        pub answer-first : x ≡ false → y ≡ true → {r : RepairAnswer} → r ≡ repair_in spec shard (index_part spec a) (data_part spec a) (index_part spec a) (data_part spec a) out
            → r ≡ repair_answer spec shard a b out
        answer-first s t h = rw (answer_picks, told-yes ep q, ← u, lt-leb c shard l, keeps a b (sym ex ∙ s), replaces b a (sym ey ∙ t), sym ex ∙ s) h

        pub left-first : x ≡ false → y ≡ true → {o : List ℕ} → o ≡ left_in spec shard (index_part spec a) (data_part spec a) (index_part spec a) (data_part spec a) out
            → o ≡ repair_left spec shard a b out
        left-first s t h = rw (left_picks, told-yes ep q, ← u, lt-leb c shard l, keeps a b (sym ex ∙ s), replaces b a (sym ey ∙ t), sym ex ∙ s) h

        pub answer-pair : x ≡ false → y ≡ false → {r : RepairAnswer} → r ≡ repair_in spec shard (index_part spec a) (data_part spec a) (index_part spec b) (data_part spec b) out
            → r ≡ repair_answer spec shard a b out
        answer-pair s t h = rw (answer_picks, told-yes ep q, ← u, lt-leb c shard l, keeps a b (sym ex ∙ s), keeps b a (sym ey ∙ t), sym ex ∙ s) h

        pub left-pair : x ≡ false → y ≡ false → {o : List ℕ} → o ≡ left_in spec shard (index_part spec a) (data_part spec a) (index_part spec b) (data_part spec b) out
            → o ≡ repair_left spec shard a b out
        left-pair s t h = rw (left_picks, told-yes ep q, ← u, lt-leb c shard l, keeps a b (sym ex ∙ s), keeps b a (sym ey ∙ t), sym ex ∙ s) h

pub bad_false : (spec : Sharding) (n : ℕ) {x : Bool} → x ≡ bad_file_length spec n → x ≡ false → bad_file_length spec n ≡ false
bad_false spec n e z = sym e ∙ z

pub ruleset filing = (told-yes, bad_false, answer_disallowed, left_disallowed, answer-shard, left-shard, answer-both, left_both, answer-second, left-second, answer-first, left-first, answer-pair, left-pair, rules)
