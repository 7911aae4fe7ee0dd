-- What a trouble says of its minishard, and that the two copies may be exchanged.
use Rattle.std.proofs.Common.{◌≡◌, ℕ, zero, suc, ◌+◌, ◌*◌, ◌<◌, ◌≤◌, Bool, true, false, ◌&&◌, ◌⊎◌, List, length, sym, refl, ap, ◌∙◌, inl, inr, true≢false, arith}
use mathlib.Core.Bool.{and-false}
use Rattle.sharding.specs.declared.Sharding.{Sharding}
use Rattle.sharding.specs.Specification.{minishard_count_of, no_such_shard, allowed}
use Rattle.shard.specs.declared.index.Fault.{Fault}
use Rattle.shard.specs.index.Tests.{fault}
use Rattle.shard.specs.declared.ShardFault.{ShardFault}
use Rattle.shard.specs.File.{bad_file_length}
use Rattle.shard.specs.Items.{Item}
use Rattle.shard.specs.Faults.{fault_of}
use Rattle.shard.proofs.Whole.{first-faulty}
use Rattle.settled_form.specs.Form.{settled, settled_length}
use Rattle.settle.specs.answers.Answers.{too_long}
use Rattle.settle.proofs.answers.Answered.{not-long}
use Rattle.repair.specs.same_listing.Alike.{alike}
use Rattle.repair.proofs.same_listing.Minishards.{alike_same, same_alike}
use Rattle.repair.specs.form.Chosen.{sound_in, listed, chosen, content_by, chosen_content, repaired_form, repaired_length}
use Rattle.repair.proofs.form.OneMinishard.{chosen-first, chosen-second}
use Rattle.repair.specs.declared.RepairAnswer.TheVariants.{Length, Refused, Faulty}
use Rattle.repair.specs.Trouble.{trouble_of, first_trouble}
use Rattle.repair.specs.Repair.{repair_in, first_index, first_data, repair_answer, repair_left}
use Rattle.repair.specs.Statement.{Takeable, SoundInNeither, Differs, FirstBad}
use Rattle.repair.proofs.Troubles.{no_trouble, faultless_each, each_faultless}
use Rattle.repair.proofs.Answers.{in_trouble, in_order, left-order}
use Rattle.repair.proofs.Files.{answer_picks}
use Rattle.repair.proofs.Outcome.{Reached, reached-answer, reached-left, Written}
use Rattle.repair.proofs.Original.{chosen_is, untroubled}

-- ---- one minishard

module _ (spec : Sharding) (shard : ℕ) (ia da ib db : List ℕ) (m : ℕ) where
  trouble_both : sound_in spec shard ia da m ≡ true → sound_in spec shard ib db m ≡ true → alike spec ia da ib db m ≡ false → trouble_of spec shard ia da ib db m ≡ fault 32 (16 * m)
  unfolding trouble_of
  trouble_both u v w = rw (u, v, w)

  trouble_alike : sound_in spec shard ia da m ≡ true → sound_in spec shard ib db m ≡ true → alike spec ia da ib db m ≡ true → trouble_of spec shard ia da ib db m ≡ fault 0 0
  unfolding trouble_of
  trouble_alike u v w = rw (u, v, w)

  trouble_first : sound_in spec shard ia da m ≡ true → sound_in spec shard ib db m ≡ false → trouble_of spec shard ia da ib db m ≡ fault 0 0
  unfolding trouble_of
  trouble_first u v = rw (u, v)

  trouble_second : sound_in spec shard ia da m ≡ false → sound_in spec shard ib db m ≡ true → trouble_of spec shard ia da ib db m ≡ fault 0 0
  unfolding trouble_of
  trouble_second u v = rw (u, v)

  trouble_neither : sound_in spec shard ia da m ≡ false → sound_in spec shard ib db m ≡ false → trouble_of spec shard ia da ib db m ≡ fault_of spec shard ia da m
  unfolding trouble_of
  trouble_neither u v = rw (u, v)

  pub takeable : (trouble_of spec shard ia da ib db m).number ≡ 0 → Takeable spec shard ia da ib db m
  takeable z = record { other = no_trouble spec shard ia da ib db m z; same = λ u v. go u v (alike spec ia da ib db m) refl }
    where
      go : sound_in spec shard ia da m ≡ true → sound_in spec shard ib db m ≡ true → (c : Bool) → alike spec ia da ib db m ≡ c → listed spec ia da m ≡ listed spec ib db m
      go u v true w = alike_same spec ia da ib db m w
      go u v false w = absurd (omega (arith, z, ap (λ (f : Fault). f.number) (trouble_both u v w)))

  troubled : {k p : ℕ} → (trouble_of spec shard ia da ib db m).number ≡ k → (trouble_of spec shard ia da ib db m).position ≡ p → (k ≡ 0 → ⊥)
      → SoundInNeither spec shard ia da ib db k m p ⊎ Differs spec shard ia da ib db k m p
  troubled {k} {p} e f n = go (sound_in spec shard ia da m) refl (sound_in spec shard ib db m) refl
    where
      fine : trouble_of spec shard ia da ib db m ≡ fault 0 0 → ⊥
      fine q = n (sym e ∙ ap (λ (g : Fault). g.number) q)

      both : sound_in spec shard ia da m ≡ true → sound_in spec shard ib db m ≡ true → (c : Bool) → alike spec ia da ib db m ≡ c
          → SoundInNeither spec shard ia da ib db k m p ⊎ Differs spec shard ia da ib db k m p
      both u v true w = absurd (fine (trouble_alike u v w))
      both u v false w = inr record {
        first = u;
        second = v;
        differ = λ q. true≢false (sym (same_alike spec ia da ib db m q) ∙ w);
        number = sym e ∙ ap (λ (g : Fault). g.number) (trouble_both u v w);
        position = sym f ∙ ap (λ (g : Fault). g.position) (trouble_both u v w);
      }

      go : (x : Bool) → sound_in spec shard ia da m ≡ x → (y : Bool) → sound_in spec shard ib db m ≡ y
          → SoundInNeither spec shard ia da ib db k m p ⊎ Differs spec shard ia da ib db k m p
      go true u true v = both u v (alike spec ia da ib db m) refl
      go true u false v = absurd (fine (trouble_first u v))
      go false u true v = absurd (fine (trouble_second u v))
      go false u false v = inl record {
        first = u;
        second = v;
        number = sym (ap (λ (g : Fault). g.number) (trouble_neither u v)) ∙ e;
        position = sym (ap (λ (g : Fault). g.position) (trouble_neither u v)) ∙ f;
      }

-- ---- the first

zero_or : (k : ℕ) → (k ≡ 0) ⊎ (k ≡ 0 → ⊥)
zero_or zero = inl refl
zero_or (suc k) = inr (λ z. omega arith)

module _ (spec : Sharding) (shard : ℕ) (ia da ib db out : List ℕ) (k m p : ℕ) where
  abbrev t : ShardFault
  t = first_trouble spec shard ia da ib db

  first_bad : ((first_trouble spec shard ia da ib db).number ≡ 0 → ⊥) → (first_trouble spec shard ia da ib db).number ≡ k → (first_trouble spec shard ia da ib db).minishard ≡ m
      → (first_trouble spec shard ia da ib db).position ≡ p → FirstBad spec shard ia da ib db k m p
  unfolding first_trouble
  first_bad n a b c =
      let h = first-faulty (trouble_of spec shard ia da ib db) 0 (minishard_count_of spec) n in
      record {
        below = omega (arith, h.below, b);
        earlier = λ j l. takeable spec shard ia da ib db j (h.earlier j (omega arith) (omega (arith, b)));
        why = troubled spec shard ia da ib db m ((rw b at h.number) ∙ a) ((rw b at h.position) ∙ c) (λ z. n (a ∙ z));
      }

  pub bad_in : repair_in spec shard ia da ib db out ≡ Faulty k m p → FirstBad spec shard ia da ib db k m p
  bad_in e = go (zero_or (first_trouble spec shard ia da ib db).number)
    where
      long : (first_trouble spec shard ia da ib db).number ≡ 0 → (c : Bool) → too_long (repaired_length spec shard ia da ib db) out ≡ c → ⊥
      long z true q =
          let f : Refused 13 ≡ Faulty k m p = rw q at (sym (in_order spec shard ia da ib db out z) ∙ e) in
          let w : ◌≡◌ {A = ℕ} 0 1 = cc in
          omega arith
      long z false q =
          let f : Length (repaired_length spec shard ia da ib db) ≡ Faulty k m p = rw q at (sym (in_order spec shard ia da ib db out z) ∙ e) in
          let w : ◌≡◌ {A = ℕ} 0 1 = cc in
          omega arith

      go : ((first_trouble spec shard ia da ib db).number ≡ 0) ⊎ ((first_trouble spec shard ia da ib db).number ≡ 0 → ⊥) → FirstBad spec shard ia da ib db k m p
      go (inl z) = absurd (long z (too_long (repaired_length spec shard ia da ib db) out) refl)
      go (inr n) =
          let f : Faulty t.number t.minishard t.position ≡ Faulty k m p = in_trouble spec shard ia da ib db out n ∙ e in
          first_bad n (cc) (cc) (cc)

module _ (spec : Sharding) (shard : ℕ) (a b out : List ℕ) (k m p : ℕ) where
  pub bad_named : repair_answer spec shard a b out ≡ Faulty k m p → FirstBad spec shard (first_index spec a b) (first_data spec a b) (first_index spec b a) (first_data spec b a) k m p
  bad_named e = go (allowed spec) refl (no_such_shard spec shard) refl (bad_file_length spec (length a) && bad_file_length spec (length b)) refl
    where
      wrong : (n : ℕ) → repair_answer spec shard a b out ≡ Refused n → ⊥
      wrong n f = let w : ◌≡◌ {A = ℕ} 0 1 = cc in omega arith

      go : (x : Bool) → allowed spec ≡ x → (y : Bool) → no_such_shard spec shard ≡ y → (z : Bool) → bad_file_length spec (length a) && bad_file_length spec (length b) ≡ z
          → FirstBad spec shard (first_index spec a b) (first_data spec a b) (first_index spec b a) (first_data spec b a) k m p
      go false q y r z s = absurd (wrong 1 (answer_picks spec shard a b out ∙ rw q))
      go true q true r z s = absurd (wrong 5 (answer_picks spec shard a b out ∙ rw (q, r)))
      go true q false r true s = absurd (wrong 6 (answer_picks spec shard a b out ∙ rw (q, r, s)))
      go true q false r false s =
          bad_in spec shard (first_index spec a b) (first_data spec a b) (first_index spec b a) (first_data spec b a) out k m p
          (sym (reached-answer (record { permitted = q; numbered = r; one = s }) out) ∙ e)

-- ---- exchanged

content_by_same : (f g : ℕ → List Item) (m k : ℕ) → ((j : ℕ) → m ≤ j → j < m + k → f j ≡ g j) → content_by f m k ≡ content_by g m k
unfolding content_by
content_by_same f g m zero h = refl
content_by_same f g m (suc k) h = rw (h m (omega arith) (omega arith), content_by_same f g (suc m) k (λ j a b. h j (omega arith) (omega arith)))

module _ (spec : Sharding) (shard : ℕ) (ia da ib db : List ℕ) (m : ℕ) (h : Takeable spec shard ia da ib db m) where
  one : (sound_in spec shard ib db m ≡ true) ⊎ (sound_in spec shard ia da m ≡ true)
  one = go (sound_in spec shard ia da m) refl
    where
      go : (c : Bool) → sound_in spec shard ia da m ≡ c → (sound_in spec shard ib db m ≡ true) ⊎ (sound_in spec shard ia da m ≡ true)
      go true e = inr e
      go false e = inl (h.other e)

  second_is : sound_in spec shard ib db m ≡ true → listed spec ib db m ≡ chosen spec shard ia da ib db m
  second_is v = go (sound_in spec shard ia da m) refl
    where
      go : (c : Bool) → sound_in spec shard ia da m ≡ c → listed spec ib db m ≡ chosen spec shard ia da ib db m
      go true e = sym (h.same e v) ∙ sym (chosen-first spec shard ia da ib db m e)
      go false e = sym (chosen-second spec shard ia da ib db m e)

  first-is : sound_in spec shard ia da m ≡ true → listed spec ia da m ≡ chosen spec shard ia da ib db m
  first-is e = sym (chosen-first spec shard ia da ib db m e)

  swapped-chosen : chosen spec shard ib db ia da m ≡ chosen spec shard ia da ib db m
  swapped-chosen = chosen_is spec shard ib db ia da m _ one second_is first-is

  swapped_trouble : (trouble_of spec shard ib db ia da m).number ≡ 0
  swapped_trouble = ap (λ (f : Fault). f.number) (untroubled spec shard ib db ia da m _ one second_is first-is)

module _ (spec : Sharding) (shard : ℕ) (ia da ib db : List ℕ) (z : (first_trouble spec shard ia da ib db).number ≡ 0) where
  each_takeable : (j : ℕ) → j < minishard_count_of spec → Takeable spec shard ia da ib db j
  unfolding first_trouble
  each_takeable j l = takeable spec shard ia da ib db j (faultless_each (trouble_of spec shard ia da ib db) 0 (minishard_count_of spec) z j (omega arith) (omega arith))

  swapped-none : (first_trouble spec shard ib db ia da).number ≡ 0
  unfolding first_trouble
  swapped-none = ap (λ (f : ShardFault). f.number) (each_faultless (trouble_of spec shard ib db ia da) 0 (minishard_count_of spec) (λ j p q. swapped_trouble spec shard ia da ib db j (each_takeable j (omega arith))))

  swapped-content : chosen_content spec shard ib db ia da ≡ chosen_content spec shard ia da ib db
  unfolding chosen_content
  swapped-content = content_by_same _ _ 0 (minishard_count_of spec) (λ j p q. swapped-chosen spec shard ia da ib db j (each_takeable j (omega arith)))

  swapped-form : repaired_form spec shard ib db ia da ≡ repaired_form spec shard ia da ib db
  unfolding repaired_form
  swapped-form = ap settled swapped-content

  swapped-length : repaired_length spec shard ib db ia da ≡ repaired_length spec shard ia da ib db
  unfolding repaired_length
  swapped-length = ap settled_length swapped-content

module _ (spec : Sharding) (shard : ℕ) (a b out : List ℕ) (w : Written spec shard a b out) where
  swapped-reached : Reached spec shard b a
  swapped-reached = record { permitted = w.reached.permitted; numbered = w.reached.numbered; one = swap (bad_file_length spec (length a)) (bad_file_length spec (length b)) w.reached.one }
    where
      swap : (p q : Bool) → p && q ≡ false → q && p ≡ false
      swap true q e = rw e
      swap false q e = and-false q

  abbrev L : ℕ
  L = repaired_length spec shard (first_index spec a b) (first_data spec a b) (first_index spec b a) (first_data spec b a)

  fits : too_long (repaired_length spec shard (first_index spec a b) (first_data spec a b) (first_index spec b a) (first_data spec b a)) out ≡ false
  fits = not-long L out w.formed.room w.formed.most

  pub swapped-answer : repair_answer spec shard b a out ≡ repair_answer spec shard a b out
  swapped-answer =
      reached-answer swapped-reached out
      ∙ in_order spec shard (first_index spec b a) (first_data spec b a) (first_index spec a b) (first_data spec a b) out (swapped-none spec shard (first_index spec a b) (first_data spec a b) (first_index spec b a) (first_data spec b a) w.formed.taken)
      ∙ rw (swapped-length spec shard (first_index spec a b) (first_data spec a b) (first_index spec b a) (first_data spec b a) w.formed.taken, fits) (sym w.formed.answers)

  pub swapped-left : repair_left spec shard b a out ≡ repair_left spec shard a b out
  swapped-left =
      reached-left swapped-reached out
      ∙ left-order spec shard (first_index spec b a) (first_data spec b a) (first_index spec a b) (first_data spec a b) out (swapped-none spec shard (first_index spec a b) (first_data spec a b) (first_index spec b a) (first_data spec b a) w.formed.taken)
      ∙ rw (swapped-length spec shard (first_index spec a b) (first_data spec a b) (first_index spec b a) (first_data spec b a) w.formed.taken, swapped-form spec shard (first_index spec a b) (first_data spec a b) (first_index spec b a) (first_data spec b a) w.formed.taken, fits) (sym w.formed.leaves)
