-- What a call answers that goes on where the check passes.
use Rattle.std.proofs.Common.{◌≡◌, ℕ, zero, suc, ◌≤◌, true, List, length, take, sym, refl, ◌∙◌, arith}
use Rattle.refusal.specs.Checks.{first_number, unless, answered_at}
use Rattle.sharding.specs.declared.Sharding.{Sharding}
use Rattle.sharding.specs.Specification.{allowed, no_such_shard}
use Rattle.shard.specs.declared.CheckAnswer.{CheckAnswer}
use Rattle.shard.specs.declared.CheckAnswer.TheVariants.{Sound, Refused, Faulty}
use Rattle.shard.specs.Faults.{shard_fault}
use Rattle.shard.specs.File.{index_length_of, index_part, data_part, file_checks, shard_checks, check_answer}
use Rattle.shard.specs.Sound.{SoundShard}
use Rattle.shard.proofs.Numbers.{shard-answer}
use Rattle.shard.proofs.Split.{front-count}
use Rattle.shard.proofs.Whole.{check-passes-sound}

-- the refusal of the check, without the minishard, or else a
abbrev pub after_check : {A : Type 0} → (ℕ → A) → (ℕ → ℕ → A) → CheckAnswer → A → A
after_check r at Sound a = a
after_check r at (Refused k) a = r k
after_check r at (Faulty k m p) a = at k p

module _ {A : Type 0} (r : ℕ → A) (at : ℕ → ℕ → A) (a : A) where
  after_of : (n k m p : ℕ) → unless r n (unless (λ j. at j p) k a) ≡ after_check r at (unless Refused n (unless (λ j. Faulty j m p) k Sound)) a
  unfolding unless
  after_of zero zero m p = refl
  after_of zero (suc k) m p = refl
  after_of (suc n) k m p = refl

  pub by_check : (spec : Sharding) (shard : ℕ) (file : List ℕ)
      → answered_at r at (shard_checks spec shard file) a ≡ after_check r at (check_answer spec shard file) a
  unfolding check_answer
  by_check spec shard file =
      let f = shard_fault spec shard (index_part spec file) (data_part spec file) in
      shard-answer spec shard file r at a ∙ after_of (first_number (file_checks spec (no_such_shard spec shard) file)) f.number f.minishard f.position

-- ---- where it passed

module _ (spec : Sharding) (shard : ℕ) (file : List ℕ) {a : CheckAnswer} (e : a ≡ check_answer spec shard file) (q : a ≡ Sound) where
  pub passed_sound : SoundShard spec shard file
  passed_sound = check-passes-sound spec shard file (sym e ∙ q)

  pub passed_allowed : allowed spec ≡ true
  passed_allowed = passed_sound.permitted

  -- the file by its two parts, as the code takes them
  module _ {n : ℕ} (c : n ≡ index_length_of spec) where
    pub passed_held : n ≤ length file
    passed_held = omega (arith, passed_sound.held)

    pub passed_front : n ≡ length (take n file)
    passed_front = front-count spec file c passed_sound.held
