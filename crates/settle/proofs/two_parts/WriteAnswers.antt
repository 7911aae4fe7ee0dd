-- What settling a shard of two parts answers and leaves, by the way that it is reached.
use Rattle.std.proofs.Common.{◌≡◌, ℕ, ◌<◌, ◌≤◌, Bool, true, false, ltb, List, length, sym, ◌∙◌, inl, arith, length-take-le, rules, le-ltb, lt-ltb}
use Rattle.refusal.specs.Buffer.{over}
use Rattle.std.specs.Prelude.{Ok}
use Rattle.refusal.specs.Answers.{refuse}
use Rattle.sharding.specs.declared.Sharding.{Sharding}
use Rattle.shard.specs.index.Index.{most_shard_bytes}
use Rattle.shard.specs.File.{index_length_of, index_part, data_part}
use Rattle.shard.specs.Sound.{SoundFrom, SoundShard}
use Rattle.shard.proofs.Leads.{sound-led}
use Rattle.unlisted.specs.ranges.Covered.{unlisted_bytes}
use Rattle.settled_form.specs.Content.{form_of, form_length}
use Rattle.settle.specs.minishard_length.Writing.{capped}
use Rattle.settle.specs.length.Settleable.{Settleable, SettleableShard}
use Rattle.settle.specs.answers.Answers.{loses_bytes, length_in, settle_in, left_in}
use Rattle.settle.proofs.answers.Answered.{none_lost, long_out, long-file, not-long, length-in, settle-in, left_in_lem}

-- ---- the form fits

module _ (spec : Sharding) (index d : List ℕ) {len : ℕ} (f : len ≡ capped (form_length spec index d)) (u : len ≤ most_shard_bytes) where
  pub most-given : form_length spec index d ≤ most_shard_bytes
  most-given = omega arith

  pub room-given : (out : List ℕ) → len ≤ length out → form_length spec index d ≤ length out
  room-given out v = omega arith

-- ---- 22

-- as the code tells it
module _ (spec : Sharding) (index d : List ℕ) (dropping : Bool) where
  pub lost_asked : dropping ≡ true → false ≡ loses_bytes spec index d dropping
  lost_asked e = sym (none_lost spec index d (inl e))

  pub lost_counted : {n : ℕ} → dropping ≡ false → n ≡ unlisted_bytes spec index d → ltb 0 n ≡ loses_bytes spec index d dropping
  unfolding loses_bytes
  lost_counted e q = rw (e, q)

  module _ {b : Bool} (e : b ≡ loses_bytes spec index d dropping) where
    module _ (t : b ≡ true) where
      pub length_losing : refuse 22 ≡ length_in spec index d dropping
      length_losing = sym (length-in spec index d dropping ∙ rw (sym e ∙ t))

      pub settle_losing : (out : List ℕ) → refuse 22 ≡ settle_in spec index d dropping out
      settle_losing out = sym (settle-in spec index d dropping out ∙ rw (sym e ∙ t))

      pub left_losing : (out : List ℕ) → out ≡ left_in spec index d dropping out
      left_losing out = sym (left_in_lem spec index d dropping out ∙ rw (sym e ∙ t))

    -- ---- 13, by the length up to the first one that is refused

    module _ (t : b ≡ false) {len : ℕ} (f : len ≡ capped (form_length spec index d)) where
      abbrev n : ℕ
      n = form_length spec index d

      pub length-refused : most_shard_bytes < len → refuse 13 ≡ length_in spec index d dropping
      length-refused l = sym (length-in spec index d dropping ∙ rw (sym e ∙ t, lt-ltb most_shard_bytes n (omega arith)))

      pub length-given : len ≤ most_shard_bytes → Ok len ≡ length_in spec index d dropping
      length-given l =
          let q : len ≡ n = omega arith in
          sym (length-in spec index d dropping ∙ rw (sym e ∙ t, q, le-ltb most_shard_bytes n (omega arith)))

      module _ (out : List ℕ) where
        pub long-refused : most_shard_bytes < len → refuse 13 ≡ settle_in spec index d dropping out
        long-refused l = sym (settle-in spec index d dropping out ∙ rw (sym e ∙ t, long-file n out (omega arith)))

        pub short-refused : length out < len → refuse 13 ≡ settle_in spec index d dropping out
        short-refused l = sym (settle-in spec index d dropping out ∙ rw (sym e ∙ t, long_out n out (omega arith)))

        pub long-left : most_shard_bytes < len → out ≡ left_in spec index d dropping out
        long-left l = sym (left_in_lem spec index d dropping out ∙ rw (sym e ∙ t, long-file n out (omega arith)))

        pub short-left : length out < len → out ≡ left_in spec index d dropping out
        short-left l = sym (left_in_lem spec index d dropping out ∙ rw (sym e ∙ t, long_out n out (omega arith)))

        module _ (u : len ≤ most_shard_bytes) (v : len ≤ length out) where
          pub form-given : {r : ℕ} → r ≡ form_length spec index d → Ok r ≡ settle_in spec index d dropping out
          form-given q = rw q (sym (settle-in spec index d dropping out ∙ rw (sym e ∙ t, not-long n out (omega arith) (omega arith))))

          pub form-left : {o : List ℕ} → o ≡ over (form_of spec index d) out → o ≡ left_in spec index d dropping out
          form-left w = w ∙ sym (left_in_lem spec index d dropping out ∙ rw (sym e ∙ t, not-long n out (omega arith) (omega arith)))

pub ruleset losing = (lost_asked, lost_counted, rules)

pub ruleset measuring = (length_losing, length-refused, length-given, rules)

pub ruleset answering = (settle_losing, left_losing, long-refused, short-refused, long-left, short-left, room-given, most-given, form-given, form-left, rules)

-- ---- the two parts of a sound shard

settleable : {spec : Sharding} {shard m : ℕ} {d : List ℕ} {s e : ℕ} → SoundFrom spec shard m d s e → Settleable spec d s e
settleable g = record { ordered = g.ordered; within = g.within; whole = g.whole; distinct = g.distinct; inside = g.inside; led = sound-led g }

pub sound_settleable : {spec : Sharding} {shard : ℕ} {file : List ℕ} → SoundShard spec shard file → SettleableShard spec (index_part spec file) (data_part spec file)
sound_settleable {spec} {shard} {file} g = record {
  permitted = g.permitted;
  parts = record { held = omega (arith, length-take-le (index_length_of spec) file g.held); each = λ m l. settleable (g.each m l) };
}
