-- What repair of two parts each answers and leaves, by the way that it is reached.
use Rattle.std.proofs.Common.{◌≡◌, ℕ, ◌<◌, ◌≤◌, Bool, true, false, List, [], ◌∷◌, length, sym, refl, ap, ◌∙◌, arith, rules}
use Rattle.refusal.specs.Choice.{pick}
use Rattle.refusal.specs.Buffer.{over}
use Rattle.refusal.proofs.Picks.{by_picks}
use Rattle.sharding.specs.declared.Sharding.{Sharding}
use Rattle.sharding.specs.Specification.{allowed, minishard_count_of}
use Rattle.shard.specs.index.Index.{most_shard_bytes}
use Rattle.settle.specs.minishard_length.Writing.{capped}
use Rattle.shard.specs.declared.ShardFault.{ShardFault}
use Rattle.shard.specs.Faults.{first_fault}
use Rattle.shard.proofs.Numbers.{unless-some, unless-none}
use Rattle.settle.specs.answers.Answers.{too_long}
use Rattle.settle.proofs.answers.Answered.{long_out, long-file, not-long}
use Rattle.repair.specs.form.Chosen.{repaired_form, repaired_length}
use Rattle.repair.specs.form.Choosing.{Pair, SoundInOneEach}
use Rattle.repair.specs.declared.RepairAnswer.TheVariants.{Length, Refused, Faulty}
use Rattle.repair.specs.Trouble.{trouble_of, first_trouble}
use Rattle.repair.specs.Repair.{length_check, repair_in, left_in}
use Rattle.repair.proofs.Troubles.{no_trouble, faultless_each}

module _ (spec : Sharding) (shard : ℕ) (ia da ib db : List ℕ) where
  -- ---- as choices

  pub in_trouble : (out : List ℕ) → ((first_trouble spec shard ia da ib db).number ≡ 0 → ⊥)
      → Faulty (first_trouble spec shard ia da ib db).number (first_trouble spec shard ia da ib db).minishard (first_trouble spec shard ia da ib db).position ≡ repair_in spec shard ia da ib db out
  unfolding repair_in
  in_trouble out n = unless-some _ _ _ n

  pub left_trouble : (out : List ℕ) → ((first_trouble spec shard ia da ib db).number ≡ 0 → ⊥) → out ≡ left_in spec shard ia da ib db out
  unfolding left_in
  left_trouble out n = unless-some (λ k. out) _ _ n

  pub in_order : (out : List ℕ) → (first_trouble spec shard ia da ib db).number ≡ 0
      → repair_in spec shard ia da ib db out ≡ pick (too_long (repaired_length spec shard ia da ib db) out) (Refused 13) (Length (repaired_length spec shard ia da ib db))
  unfolding repair_in length_check
  in_order out z = sym (unless-none _ _ _ z) ∙ by_picks Refused (length_check spec shard ia da ib db out) _ refl

  pub left-order : (out : List ℕ) → (first_trouble spec shard ia da ib db).number ≡ 0
      → left_in spec shard ia da ib db out ≡ pick (too_long (repaired_length spec shard ia da ib db) out) out (over (repaired_form spec shard ia da ib db) out)
  unfolding left_in length_check
  left-order out z = sym (unless-none (λ k. out) _ _ z) ∙ by_picks (λ k. out) (length_check spec shard ia da ib db out) _ refl

  pub all-taken : (first_trouble spec shard ia da ib db).number ≡ 0 → SoundInOneEach spec shard ia da ib db (minishard_count_of spec)
  unfolding first_trouble
  all-taken z = record {
    each = λ m l. record {
      below = l;
      other = no_trouble spec shard ia da ib db m (faultless_each (trouble_of spec shard ia da ib db) 0 (minishard_count_of spec) z m (omega arith) (omega arith));
    };
  }

  -- ---- as the code finds it

  module _ {n : ℕ} (c : n ≡ minishard_count_of spec) {f : ShardFault} (e : f ≡ first_fault (trouble_of spec shard ia da ib db) 0 n) where
    found : f ≡ first_trouble spec shard ia da ib db
    unfolding first_trouble
    found = rw c at e

    number : f.number ≡ (first_trouble spec shard ia da ib db).number
    number = ap (λ (g : ShardFault). g.number) found

    module _ (t : f.number ≡ 0 → ⊥) where
      pub trouble_answer : (out : List ℕ) → Faulty f.number f.minishard f.position ≡ repair_in spec shard ia da ib db out
      trouble_answer out = rw found (in_trouble out (λ z. t (number ∙ z)))

      pub trouble_left : (out : List ℕ) → out ≡ left_in spec shard ia da ib db out
      trouble_left out = left_trouble out (λ z. t (number ∙ z))

    module _ (z : f.number ≡ 0) where
      none : (first_trouble spec shard ia da ib db).number ≡ 0
      none = sym number ∙ z

      pub taken-each : SoundInOneEach spec shard ia da ib db (minishard_count_of spec)
      taken-each = all-taken none

      module _ {len : ℕ} (k : len ≡ capped (repaired_length spec shard ia da ib db)) (out : List ℕ) where
        pub long-answer : most_shard_bytes < len → Refused 13 ≡ repair_in spec shard ia da ib db out
        long-answer l = sym (in_order out none ∙ rw (long-file (repaired_length spec shard ia da ib db) out (omega arith)))

        pub long-left : most_shard_bytes < len → out ≡ left_in spec shard ia da ib db out
        long-left l = sym (left-order out none ∙ rw (long-file (repaired_length spec shard ia da ib db) out (omega arith)))

        pub short-answer : length out < len → Refused 13 ≡ repair_in spec shard ia da ib db out
        short-answer l = sym (in_order out none ∙ rw (long_out (repaired_length spec shard ia da ib db) out (omega arith)))

        pub short-left : length out < len → out ≡ left_in spec shard ia da ib db out
        short-left l = sym (left-order out none ∙ rw (long_out (repaired_length spec shard ia da ib db) out (omega arith)))

        module _ (u : len ≤ most_shard_bytes) (v : len ≤ length out) where
          pub room-given : repaired_length spec shard ia da ib db ≤ length out
          room-given = omega arith

          pub most-given : repaired_length spec shard ia da ib db ≤ most_shard_bytes
          most-given = omega arith

          pub form-answer : {r : ℕ} → r ≡ repaired_length spec shard ia da ib db → Length r ≡ repair_in spec shard ia da ib db out
          form-answer q = rw q (sym (in_order out none ∙ rw (not-long (repaired_length spec shard ia da ib db) out room-given most-given)))

          pub form-left : {o : List ℕ} → o ≡ over (repaired_form spec shard ia da ib db) out → o ≡ left_in spec shard ia da ib db out
          form-left w = w ∙ sym (left-order out none ∙ rw (not-long (repaired_length spec shard ia da ib db) out room-given most-given))

pub pair-allowed : {spec : Sharding} {ia da ib db : List ℕ} → Pair spec ia da ib db → allowed spec ≡ true
pair-allowed h = h.permitted

pub all-counted : (spec : Sharding) {n : ℕ} → n ≡ minishard_count_of spec → n ≤ minishard_count_of spec
all-counted spec e = omega arith

pub ruleset answering = (pair-allowed, all-counted, trouble_answer, trouble_left, taken-each, long-answer, long-left, short-answer, short-left, room-given, most-given, form-answer, form-left, rules)
