-- Two copies of a sound shard x that are damaged in different minishards give back the settled form of x.
use Rattle.std.proofs.Common.{◌≡◌, ℕ, zero, suc, ◌+◌, ◌<◌, ◌≤◌, Bool, true, false, ◌&&◌, ◌⊎◌, List, length, sym, refl, ap, ◌∙◌, inl, inr, ⊎_elim, true≢false, arith, pow_pos}
use mathlib.Core.Bool.{and-false}
use mathlib.Core.List.Memᴰ
use borrow.Author.Tests.{lt-leb}
use Rattle.refusal.specs.Choice.{pick}
use Rattle.refusal.specs.Buffer.{over}
use Rattle.sharding.specs.declared.Sharding.{Sharding}
use Rattle.sharding.specs.Specification.{minishard_bits_of, minishard_count_of, shard_count_of}
use Rattle.shard.specs.declared.index.Fault.{Fault}
use Rattle.shard.specs.index.Index.{entry_start_of, entry_end_of, entry_count}
use Rattle.shard.specs.index.Tests.{fault}
use Rattle.shard.specs.declared.ShardFault.{ShardFault}
use Rattle.shard.specs.Items.{Item}
use Rattle.shard.specs.File.{index_length_of, index_part, data_part, bad_file_length}
use Rattle.shard.specs.Lists.{ListsItem}
use Rattle.shard.specs.Sound.{SoundMinishard, SoundShard}
use Rattle.shard.proofs.Split.{length_good}
use Rattle.settled_form.specs.Form.{settled, settled_length}
use Rattle.settled_form.specs.Sorted.{Member}
use Rattle.settled_form.specs.Content.{id_of, items_of, by_id, content_from, content_of, form_of, form_length, file_content, file_form}
use Rattle.settled_form.proofs.Sorting.{sort_same}
use Rattle.settled_form.proofs.Stored.{item-member, member-item}
use Rattle.settled_form.proofs.SoundContent.{sound-listed}
use Rattle.settled_form.proofs.Demand3.{file-form-length}
use Rattle.settle.specs.answers.Answers.{too_long}
use Rattle.settle.proofs.answers.Answered.{long_out, long-file, not-long}
use Rattle.repair.proofs.same_listing.Minishards.{same_alike}
use Rattle.repair.specs.form.Chosen.{sound_in, listed, chosen, content_by, chosen_content, repaired_form, repaired_length}
use Rattle.repair.proofs.form.OneMinishard.{sound-if, sound-only, chosen-first, chosen-second}
use Rattle.repair.specs.declared.RepairAnswer.TheVariants.{Length, Refused}
use Rattle.repair.specs.Trouble.{trouble_of, first_trouble}
use Rattle.repair.specs.Repair.{or_other, first_index, first_data, repair_answer, repair_left}
use Rattle.repair.specs.Statement.{SoundAt, SameAt, CopiesOf, Gives}
use Rattle.repair.proofs.Troubles.{each_faultless}
use Rattle.repair.proofs.Answers.{in_order, left-order}
use Rattle.repair.proofs.Outcome.{Reached, reached-answer, reached-left}

-- ---- minishards that list the same

module _ (spec : Sharding) (index d : List ℕ) (m : ℕ) where
  listed-member : {x : Item} → ListsItem spec index d m x → Member x (items_of spec index d m)
  listed-member h = Memᴰ.cast (sym h.listed) (item-member spec d (entry_start_of index m) (entry_count (entry_start_of index m) (entry_end_of index m)) h.entry h.among)

  member-listed : {x : Item} → Member x (items_of spec index d m) → ListsItem spec index d m x
  member-listed h =
      let r = member-item spec d (entry_start_of index m) (entry_count (entry_start_of index m) (entry_end_of index m)) h in
      record { entry = r.entry; among = r.before; listed = r.is }

same-listed : (spec : Sharding) (shard : ℕ) (file x : List ℕ) (m : ℕ) → SoundMinishard spec shard (index_part spec file) (data_part spec file) m → SoundMinishard spec shard (index_part spec x) (data_part spec x) m
    → SameAt spec file x m → listed spec (index_part spec file) (data_part spec file) m ≡ listed spec (index_part spec x) (data_part spec x) m
unfolding by_id
same-listed spec shard file x m f g same =
    sort_same id_of _ _ (sound-listed f).distinct (sound-listed g).distinct
    (λ y. (
      λ h. listed-member spec (index_part spec x) (data_part spec x) m ((same y).0 (member-listed spec (index_part spec file) (data_part spec file) m h)),
      λ h. listed-member spec (index_part spec file) (data_part spec file) m ((same y).1 (member-listed spec (index_part spec x) (data_part spec x) m h)),
    ))

-- ---- a file, or the other in its place

keeps : (spec : Sharding) (file other : List ℕ) → bad_file_length spec (length file) ≡ false → or_other spec file other ≡ file
unfolding or_other
keeps spec file other e = rw e

replaces : (spec : Sharding) (file other : List ℕ) → bad_file_length spec (length file) ≡ true → or_other spec file other ≡ other
unfolding or_other
replaces spec file other e = rw e

other-held : (p q : Bool) → p && q ≡ false → p ≡ true → q ≡ false
other-held true q e t = e
other-held false q e t = absurd (true≢false (sym t))

module _ {spec : Sharding} {shard : ℕ} {x a b : List ℕ} (sound : SoundShard spec shard x) (one : bad_file_length spec (length a) && bad_file_length spec (length b) ≡ false)
    (m : ℕ) (l : m < minishard_count_of spec) (first : SoundAt spec shard a m → SameAt spec a x m) (second : SoundAt spec shard b m → SameAt spec b x m) where
  -- where it is sound, it lists what x lists
  or-other-lists : sound_in spec shard (first_index spec a b) (first_data spec a b) m ≡ true
      → listed spec (first_index spec a b) (first_data spec a b) m ≡ listed spec (index_part spec x) (data_part spec x) m
  or-other-lists s = go (bad_file_length spec (length a)) refl
    where
      go : (c : Bool) → bad_file_length spec (length a) ≡ c → listed spec (first_index spec a b) (first_data spec a b) m ≡ listed spec (index_part spec x) (data_part spec x) m
      go true e =
          let g = sound-if spec shard (index_part spec b) (data_part spec b) m (rw (replaces spec a b e) at s) in
          rw (replaces spec a b e) (same-listed spec shard b x m g (sound.each m l) (second (record { held = other-held (bad_file_length spec (length a)) (bad_file_length spec (length b)) one e; sound = g })))
      go false e =
          let g = sound-if spec shard (index_part spec a) (data_part spec a) m (rw (keeps spec a b e) at s) in
          rw (keeps spec a b e) (same-listed spec shard a x m g (sound.each m l) (first (record { held = e; sound = g })))

or-other-sound : (spec : Sharding) (shard : ℕ) (a b : List ℕ) (m : ℕ) → SoundAt spec shard a m → sound_in spec shard (first_index spec a b) (first_data spec a b) m ≡ true
or-other-sound spec shard a b m g = rw (keeps spec a b g.held) (sound-only spec shard (index_part spec a) (data_part spec a) m g.sound)

-- ---- what is chosen, where each copy that is sound lists xs

module _ (spec : Sharding) (shard : ℕ) (ia da ib db : List ℕ) (m : ℕ) (xs : List Item)
    (one : (sound_in spec shard ia da m ≡ true) ⊎ (sound_in spec shard ib db m ≡ true))
    (first : sound_in spec shard ia da m ≡ true → listed spec ia da m ≡ xs) (second : sound_in spec shard ib db m ≡ true → listed spec ib db m ≡ xs) where
  other-sound : sound_in spec shard ia da m ≡ false → sound_in spec shard ib db m ≡ true
  other-sound e = ⊎_elim (λ t. absurd (true≢false (sym t ∙ e))) (λ t. t) one

  pub chosen_is : chosen spec shard ia da ib db m ≡ xs
  chosen_is = go (sound_in spec shard ia da m) refl
    where
      go : (c : Bool) → sound_in spec shard ia da m ≡ c → chosen spec shard ia da ib db m ≡ xs
      go true e = chosen-first spec shard ia da ib db m e ∙ first e
      go false e = chosen-second spec shard ia da ib db m e ∙ second (other-sound e)

  pub untroubled : trouble_of spec shard ia da ib db m ≡ fault 0 0
  unfolding trouble_of
  untroubled = go (sound_in spec shard ia da m) refl (sound_in spec shard ib db m) refl
    where
      go : (c : Bool) → sound_in spec shard ia da m ≡ c → (k : Bool) → sound_in spec shard ib db m ≡ k
          → trouble_of spec shard ia da ib db m ≡ fault 0 0
      go true e true f = rw (e, f, same_alike spec ia da ib db m (first e ∙ sym (second f)))
      go true e false f = rw (e, f)
      go false e k f = rw (e, other-sound e)

content-same : (spec : Sharding) (index d : List ℕ) (f : ℕ → List Item) (m k : ℕ) → ((j : ℕ) → m ≤ j → j < m + k → f j ≡ listed spec index d j) → content_by f m k ≡ content_from spec index d m k
unfolding content_by content_from
content-same spec index d f m zero h = refl
content-same spec index d f m (suc k) h = rw (h m (omega arith) (omega arith), content-same spec index d f (suc m) k (λ j a b. h j (omega arith) (omega arith)))

-- ---- the whole

module _ (spec : Sharding) (shard : ℕ) (x a b : List ℕ) (sound : SoundShard spec shard x) (copies : CopiesOf spec shard x a b) where
  abbrev ia : List ℕ
  ia = first_index spec a b

  abbrev da : List ℕ
  da = first_data spec a b

  abbrev ib : List ℕ
  ib = first_index spec b a

  abbrev db : List ℕ
  db = first_data spec b a

  held_one : bad_file_length spec (length a) && bad_file_length spec (length b) ≡ false
  held_one = go (copies.one 0 (pow_pos (minishard_bits_of spec)))
    where
      go : SoundAt spec shard a 0 ⊎ SoundAt spec shard b 0 → bad_file_length spec (length a) && bad_file_length spec (length b) ≡ false
      go (inl g) = rw g.held
      go (inr g) = rw g.held (and-false (bad_file_length spec (length a)))

  held_two : bad_file_length spec (length b) && bad_file_length spec (length a) ≡ false
  held_two = swap (bad_file_length spec (length a)) (bad_file_length spec (length b)) held_one
    where
      swap : (p q : Bool) → p && q ≡ false → q && p ≡ false
      swap true q e = rw e
      swap false q e = and-false q

  pub reached : Reached spec shard a b
  reached = record { permitted = sound.permitted; numbered = lt-leb (shard_count_of spec) shard sound.numbered; one = held_one }

  module _ (m : ℕ) (l : m < minishard_count_of spec) where
    one-sound : (sound_in spec shard ia da m ≡ true) ⊎ (sound_in spec shard ib db m ≡ true)
    one-sound = go (copies.one m l)
      where
        go : SoundAt spec shard a m ⊎ SoundAt spec shard b m → (sound_in spec shard ia da m ≡ true) ⊎ (sound_in spec shard ib db m ≡ true)
        go (inl g) = inl (or-other-sound spec shard a b m g)
        go (inr g) = inr (or-other-sound spec shard b a m g)

    first-lists : sound_in spec shard ia da m ≡ true → listed spec ia da m ≡ listed spec (index_part spec x) (data_part spec x) m
    first-lists = or-other-lists sound held_one m l (copies.first m l) (copies.second m l)

    second-lists : sound_in spec shard ib db m ≡ true → listed spec ib db m ≡ listed spec (index_part spec x) (data_part spec x) m
    second-lists = or-other-lists sound held_two m l (copies.second m l) (copies.first m l)

    chosen-same : chosen spec shard ia da ib db m ≡ listed spec (index_part spec x) (data_part spec x) m
    chosen-same = chosen_is spec shard ia da ib db m _ one-sound first-lists second-lists

    trouble_none : (trouble_of spec shard ia da ib db m).number ≡ 0
    trouble_none = ap (λ (f : Fault). f.number) (untroubled spec shard ia da ib db m _ one-sound first-lists second-lists)

  content-is : chosen_content spec shard ia da ib db ≡ file_content spec x
  unfolding chosen_content content_of
  content-is = content-same spec (index_part spec x) (data_part spec x) (chosen spec shard ia da ib db) 0 (minishard_count_of spec) (λ j p q. chosen-same j (omega arith))

  none : (first_trouble spec shard ia da ib db).number ≡ 0
  unfolding first_trouble
  none = ap (λ (f : ShardFault). f.number) (each_faultless (trouble_of spec shard ia da ib db) 0 (minishard_count_of spec) (λ j p q. trouble_none j (omega arith)))

  form-is : repaired_form spec shard ia da ib db ≡ file_form spec x
  unfolding repaired_form form_of
  form-is = ap settled content-is

  length-is : repaired_length spec shard ia da ib db ≡ length (file_form spec x)
  unfolding repaired_length form_length
  length-is = ap settled_length content-is ∙ sym (file-form-length spec x)

  module _ (out : List ℕ) where
    answer-is : repair_answer spec shard a b out ≡ pick (too_long (length (file_form spec x)) out) (Refused 13) (Length (length (file_form spec x)))
    answer-is = reached-answer reached out ∙ in_order spec shard ia da ib db out none ∙ rw length-is

    left_is : repair_left spec shard a b out ≡ pick (too_long (length (file_form spec x)) out) out (over (file_form spec x) out)
    left_is = reached-left reached out ∙ left-order spec shard ia da ib db out none ∙ rw (length-is, form-is)

    pub gives : Gives spec shard x a b out
    gives = record {
      answers = λ h g. answer-is ∙ rw (not-long (length (file_form spec x)) out h g);
      leaves = λ h g. left_is ∙ rw (not-long (length (file_form spec x)) out h g);
      refuses = λ h. answer-is ∙ rw (⊎_elim (λ l. long_out (length (file_form spec x)) out l) (λ l. long-file (length (file_form spec x)) out l) h);
    }

-- a sound shard is a copy of itself
pub own_copies : (spec : Sharding) (shard : ℕ) (a b : List ℕ) → SoundShard spec shard a → ((m : ℕ) → m < minishard_count_of spec → SoundAt spec shard b m → SameAt spec b a m) → CopiesOf spec shard a a b
own_copies spec shard a b sound h = record {
  one = λ m l. inl (record { held = length_good spec {n = length a} {k = index_length_of spec} refl sound.held sound.short; sound = sound.each m l });
  first = λ m l g item. (λ p. p, λ p. p);
  second = h;
}
