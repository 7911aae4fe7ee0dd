-- Repair either writes the form, or leaves the output and answers no length.
use Rattle.std.proofs.Common.{◌≡◌, ℕ, zero, suc, ◌≤◌, Bool, true, false, ◌&&◌, ◌⊎◌, List, length, sym, refl, ◌∙◌, inl, inr, arith, ltb-false}
use Rattle.refusal.specs.Buffer.{over}
use Rattle.refusal.proofs.Tests.{neither}
use Rattle.sharding.specs.declared.Sharding.{Sharding}
use Rattle.sharding.specs.Specification.{allowed, no_such_shard}
use Rattle.shard.specs.index.Index.{most_shard_bytes}
use Rattle.shard.specs.File.{bad_file_length}
use Rattle.settle.specs.answers.Answers.{too_long}
use Rattle.repair.specs.form.Chosen.{repaired_form, repaired_length}
use Rattle.repair.specs.declared.RepairAnswer.{RepairAnswer}
use Rattle.repair.specs.declared.RepairAnswer.TheVariants.{Length, Refused, Faulty}
use Rattle.repair.specs.Trouble.{first_trouble}
use Rattle.repair.specs.Repair.{repair_in, left_in, first_index, first_data, repair_answer, repair_left}
use Rattle.repair.proofs.Answers.{in_trouble, left_trouble, in_order, left-order}
use Rattle.repair.proofs.Files.{answer_picks, left_picks}

-- 1, 5 and 6 do not refuse
pub record Reached (spec : Sharding) (shard : ℕ) (a b : List ℕ) : Type 0 where
  pub permitted : allowed spec ≡ true
  pub numbered : no_such_shard spec shard ≡ false
  pub one : bad_file_length spec (length a) && bad_file_length spec (length b) ≡ false

module _ {spec : Sharding} {shard : ℕ} {a b : List ℕ} (r : Reached spec shard a b) (out : List ℕ) where
  pub reached-answer : repair_answer spec shard a b out ≡ repair_in spec shard (first_index spec a b) (first_data spec a b) (first_index spec b a) (first_data spec b a) out
  reached-answer = answer_picks spec shard a b out ∙ rw (r.permitted, r.numbered, r.one)

  pub reached-left : repair_left spec shard a b out ≡ left_in spec shard (first_index spec a b) (first_data spec a b) (first_index spec b a) (first_data spec b a) out
  reached-left = left_picks spec shard a b out ∙ rw (r.permitted, r.numbered, r.one)

-- nothing is written
pub record Kept (answer : RepairAnswer) (after out : List ℕ) : Type 0 where
  pub kept : after ≡ out
  pub never : (n : ℕ) → answer ≡ Length n → ⊥

-- the form is
pub record Formed (spec : Sharding) (shard : ℕ) (ia da ib db out : List ℕ) (answer : RepairAnswer) (after : List ℕ) : Type 0 where
  pub taken : (first_trouble spec shard ia da ib db).number ≡ 0
  pub room : repaired_length spec shard ia da ib db ≤ length out
  pub most : repaired_length spec shard ia da ib db ≤ most_shard_bytes
  pub answers : answer ≡ Length (repaired_length spec shard ia da ib db)
  pub leaves : after ≡ over (repaired_form spec shard ia da ib db) out

refused-never : (k : ℕ) {answer : RepairAnswer} → answer ≡ Refused k → (n : ℕ) → answer ≡ Length n → ⊥
refused-never k e n f = let z : ◌≡◌ {A = ℕ} 0 1 = cc in omega arith

faulty-never : (k m p : ℕ) {answer : RepairAnswer} → answer ≡ Faulty k m p → (n : ℕ) → answer ≡ Length n → ⊥
faulty-never k m p e n f = let z : ◌≡◌ {A = ℕ} 0 1 = cc in omega arith

zero_or : (k : ℕ) → (k ≡ 0) ⊎ (k ≡ 0 → ⊥)
zero_or zero = inl refl
zero_or (suc k) = inr (λ z. omega arith)

fits : (n : ℕ) (out : List ℕ) → too_long n out ≡ false → (n ≤ length out) × (n ≤ most_shard_bytes)
unfolding too_long
fits n out e = let q = neither _ _ e in (ltb-false _ _ q.0, ltb-false _ _ q.1)

module _ (spec : Sharding) (shard : ℕ) (ia da ib db out : List ℕ) where
  pub outcome_in : Kept (repair_in spec shard ia da ib db out) (left_in spec shard ia da ib db out) out ⊎ Formed spec shard ia da ib db out (repair_in spec shard ia da ib db out) (left_in spec shard ia da ib db out)
  outcome_in = go (zero_or (first_trouble spec shard ia da ib db).number)
    where
      long : (first_trouble spec shard ia da ib db).number ≡ 0 → (b : Bool) → too_long (repaired_length spec shard ia da ib db) out ≡ b
          → Kept (repair_in spec shard ia da ib db out) (left_in spec shard ia da ib db out) out ⊎ Formed spec shard ia da ib db out (repair_in spec shard ia da ib db out) (left_in spec shard ia da ib db out)
      long z true e = inl record { kept = left-order spec shard ia da ib db out z ∙ rw e; never = refused-never 13 (in_order spec shard ia da ib db out z ∙ rw e) }
      long z false e =
          let q = fits (repaired_length spec shard ia da ib db) out e in
          inr record { taken = z; room = q.0; most = q.1; answers = in_order spec shard ia da ib db out z ∙ rw e; leaves = left-order spec shard ia da ib db out z ∙ rw e }

      go : ((first_trouble spec shard ia da ib db).number ≡ 0) ⊎ ((first_trouble spec shard ia da ib db).number ≡ 0 → ⊥)
          → Kept (repair_in spec shard ia da ib db out) (left_in spec shard ia da ib db out) out ⊎ Formed spec shard ia da ib db out (repair_in spec shard ia da ib db out) (left_in spec shard ia da ib db out)
      go (inl z) = long z (too_long (repaired_length spec shard ia da ib db) out) refl
      go (inr n) = inl record { kept = sym (left_trouble spec shard ia da ib db out n); never = faulty-never _ _ _ (sym (in_trouble spec shard ia da ib db out n)) }

-- ---- of two files

pub record Written (spec : Sharding) (shard : ℕ) (a b out : List ℕ) : Type 0 where
  pub reached : Reached spec shard a b
  pub formed : Formed spec shard (first_index spec a b) (first_data spec a b) (first_index spec b a) (first_data spec b a) out (repair_answer spec shard a b out) (repair_left spec shard a b out)

module _ (spec : Sharding) (shard : ℕ) (a b out : List ℕ) where
  pub outcome : Kept (repair_answer spec shard a b out) (repair_left spec shard a b out) out ⊎ Written spec shard a b out
  outcome = go (allowed spec) refl (no_such_shard spec shard) refl (bad_file_length spec (length a) && bad_file_length spec (length b)) refl
    where
      reached : Reached spec shard a b → Kept (repair_answer spec shard a b out) (repair_left spec shard a b out) out ⊎ Written spec shard a b out
      reached r = next (outcome_in spec shard (first_index spec a b) (first_data spec a b) (first_index spec b a) (first_data spec b a) out)
        where
          next : Kept (repair_in spec shard (first_index spec a b) (first_data spec a b) (first_index spec b a) (first_data spec b a) out) (left_in spec shard (first_index spec a b) (first_data spec a b) (first_index spec b a) (first_data spec b a) out) out
              ⊎ Formed spec shard (first_index spec a b) (first_data spec a b) (first_index spec b a) (first_data spec b a) out (repair_in spec shard (first_index spec a b) (first_data spec a b) (first_index spec b a) (first_data spec b a) out) (left_in spec shard (first_index spec a b) (first_data spec a b) (first_index spec b a) (first_data spec b a) out)
              → Kept (repair_answer spec shard a b out) (repair_left spec shard a b out) out ⊎ Written spec shard a b out
          next (inl k) = inl record { kept = reached-left r out ∙ k.kept; never = λ n e. k.never n (sym (reached-answer r out) ∙ e) }
          next (inr f) = inr record {
            reached = r;
            formed = record { taken = f.taken; room = f.room; most = f.most; answers = reached-answer r out ∙ f.answers; leaves = reached-left r out ∙ f.leaves };
          }

      go : (x : Bool) → allowed spec ≡ x → (y : Bool) → no_such_shard spec shard ≡ y → (z : Bool) → bad_file_length spec (length a) && bad_file_length spec (length b) ≡ z
          → Kept (repair_answer spec shard a b out) (repair_left spec shard a b out) out ⊎ Written spec shard a b out
      go false p y q z s = inl record { kept = left_picks spec shard a b out ∙ rw p; never = refused-never 1 (answer_picks spec shard a b out ∙ rw p) }
      go true p true q z s = inl record { kept = left_picks spec shard a b out ∙ rw (p, q); never = refused-never 5 (answer_picks spec shard a b out ∙ rw (p, q)) }
      go true p false q true s = inl record { kept = left_picks spec shard a b out ∙ rw (p, q, s); never = refused-never 6 (answer_picks spec shard a b out ∙ rw (p, q, s)) }
      go true p false q false s = reached record { permitted = p; numbered = q; one = s }
