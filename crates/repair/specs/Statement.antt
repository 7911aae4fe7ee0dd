-- What repair promises.
use Rattle.std.specs.Prelude.{◌≡◌, ℕ, ◌*◌, ◌<◌, ◌≤◌, true, false, ◌⊎◌, ◌↔◌, List, length, take, drop}
use Rattle.refusal.specs.Buffer.{over}
use Rattle.sharding.specs.declared.Sharding.{Sharding}
use Rattle.sharding.specs.Specification.{minishard_count_of}
use Rattle.shard.specs.index.Index.{most_shard_bytes}
use Rattle.shard.specs.declared.CheckAnswer.TheVariants.{Sound}
use Rattle.shard.specs.File.{index_part, data_part, bad_file_length, check_answer}
use Rattle.shard.specs.Faults.{fault_of}
use Rattle.shard.specs.Sound.{SoundMinishard, SoundShard}
use Rattle.shard.specs.Lists.{ListsItem}
use Rattle.shard.specs.Items.{Item}
use Rattle.settled_form.specs.Content.{file_form}
use Rattle.repair.specs.form.Chosen.{sound_in, listed, chosen}
use Rattle.repair.specs.declared.RepairAnswer.TheVariants.{Length, Refused, Faulty}
use Rattle.repair.specs.Repair.{first_index, first_data, repair_answer, repair_left}

-- 6 does not refuse the file, and minishard m of it is sound
pub record SoundAt (spec : Sharding) (shard : ℕ) (file : List ℕ) (m : ℕ) : Type 0 where
  pub held : bad_file_length spec (length file) ≡ false
  pub sound : SoundMinishard spec shard (index_part spec file) (data_part spec file) m

-- minishard m lists the same in both files
abbrev pub SameAt : Sharding → List ℕ → List ℕ → ℕ → Type 0
SameAt spec file x m = (item : Item) → ListsItem spec (index_part spec file) (data_part spec file) m item ↔ ListsItem spec (index_part spec x) (data_part spec x) m item

-- "in each minishard at least one copy is sound and lists what x lists, and no copy is sound there and lists anything else"
pub record CopiesOf (spec : Sharding) (shard : ℕ) (x a b : List ℕ) : Type 0 where
  pub one : (m : ℕ) → m < minishard_count_of spec → SoundAt spec shard a m ⊎ SoundAt spec shard b m
  pub first : (m : ℕ) → m < minishard_count_of spec → SoundAt spec shard a m → SameAt spec a x m
  pub second : (m : ℕ) → m < minishard_count_of spec → SoundAt spec shard b m → SameAt spec b x m

-- repair of a and b gives the settled form of x: its length, and its bytes over the output; 13 where it is too long
pub record Gives (spec : Sharding) (shard : ℕ) (x a b out : List ℕ) : Type 0 where
  pub answers : length (file_form spec x) ≤ length out → length (file_form spec x) ≤ most_shard_bytes → repair_answer spec shard a b out ≡ Length (length (file_form spec x))
  pub leaves : length (file_form spec x) ≤ length out → length (file_form spec x) ≤ most_shard_bytes → repair_left spec shard a b out ≡ over (file_form spec x) out
  pub refuses : (length out < length (file_form spec x)) ⊎ (most_shard_bytes < length (file_form spec x)) → repair_answer spec shard a b out ≡ Refused 13

-- minishard m can be taken: it is sound in one copy, and where it is in both, they list the same
pub record Takeable (spec : Sharding) (shard : ℕ) (ia da ib db : List ℕ) (m : ℕ) : Type 0 where
  pub other : sound_in spec shard ia da m ≡ false → sound_in spec shard ib db m ≡ true
  pub same : sound_in spec shard ia da m ≡ true → sound_in spec shard ib db m ≡ true → listed spec ia da m ≡ listed spec ib db m

-- it is sound in neither, and copy a's fault there is k at p
pub record SoundInNeither (spec : Sharding) (shard : ℕ) (ia da ib db : List ℕ) (k m p : ℕ) : Type 0 where
  pub first : sound_in spec shard ia da m ≡ false
  pub second : sound_in spec shard ib db m ≡ false
  pub number : (fault_of spec shard ia da m).number ≡ k
  pub position : (fault_of spec shard ia da m).position ≡ p

-- it is sound in both, and they list different ids or bytes: 32, at its entry in the shard index
pub record Differs (spec : Sharding) (shard : ℕ) (ia da ib db : List ℕ) (k m p : ℕ) : Type 0 where
  pub first : sound_in spec shard ia da m ≡ true
  pub second : sound_in spec shard ib db m ≡ true
  pub differ : listed spec ia da m ≡ listed spec ib db m → ⊥
  pub number : k ≡ 32
  pub position : p ≡ 16 * m

-- minishard m is the first that cannot be taken
pub record FirstBad (spec : Sharding) (shard : ℕ) (ia da ib db : List ℕ) (k m p : ℕ) : Type 0 where
  pub below : m < minishard_count_of spec
  pub earlier : (j : ℕ) → j < m → Takeable spec shard ia da ib db j
  pub why : SoundInNeither spec shard ia da ib db k m p ⊎ Differs spec shard ia da ib db k m p

-- what was written, n bytes of it
abbrev pub written : Sharding → ℕ → List ℕ → List ℕ → List ℕ → ℕ → List ℕ
written spec shard a b out n = take n (repair_left spec shard a b out)

pub record Repairs : Type 0 where
  -- (i) "where a is sound and every sound minishard of b lists the same as a's, the answer is a's own settled form"
  pub own : (spec : Sharding) (shard : ℕ) (a b out : List ℕ) → SoundShard spec shard a
      → ((m : ℕ) → m < minishard_count_of spec → SoundAt spec shard b m → SameAt spec b a m) → Gives spec shard a a b out
  -- (ii) "where x is any sound shard .. the answer is the settled form of x": two damaged copies give back the original
  pub original : (spec : Sharding) (shard : ℕ) (x a b out : List ℕ) → SoundShard spec shard x → CopiesOf spec shard x a b → Gives spec shard x a b out
  -- (iii) "what is written passes the whole-shard check and lists in each minishard exactly what was chosen"
  pub passes : (spec : Sharding) (shard : ℕ) (a b out : List ℕ) (n : ℕ) → repair_answer spec shard a b out ≡ Length n
      → check_answer spec shard (written spec shard a b out n) ≡ Sound
  pub lists : (spec : Sharding) (shard : ℕ) (a b out : List ℕ) (n : ℕ) → repair_answer spec shard a b out ≡ Length n → (m : ℕ) → m < minishard_count_of spec
      → listed spec (index_part spec (written spec shard a b out n)) (data_part spec (written spec shard a b out n)) m
      ≡ chosen spec shard (first_index spec a b) (first_data spec a b) (first_index spec b a) (first_data spec b a) m
  -- (iv) "the output is untouched on each refusal, and nothing past the length"
  pub refused : (spec : Sharding) (shard : ℕ) (a b out : List ℕ) (k : ℕ) → repair_answer spec shard a b out ≡ Refused k → repair_left spec shard a b out ≡ out
  pub faulty : (spec : Sharding) (shard : ℕ) (a b out : List ℕ) (k m p : ℕ) → repair_answer spec shard a b out ≡ Faulty k m p → repair_left spec shard a b out ≡ out
  pub past : (spec : Sharding) (shard : ℕ) (a b out : List ℕ) (n : ℕ) → repair_answer spec shard a b out ≡ Length n
      → (n ≤ length out) × (length (repair_left spec shard a b out) ≡ length out) × (drop n (repair_left spec shard a b out) ≡ drop n out)
  -- besides: a fault names the first minishard that cannot be taken, and why
  pub named : (spec : Sharding) (shard : ℕ) (a b out : List ℕ) (k m p : ℕ) → repair_answer spec shard a b out ≡ Faulty k m p
      → FirstBad spec shard (first_index spec a b) (first_data spec a b) (first_index spec b a) (first_data spec b a) k m p
  -- and which copy is called a makes no difference to what is written
  pub swapped : (spec : Sharding) (shard : ℕ) (a b out : List ℕ) (n : ℕ) → repair_answer spec shard a b out ≡ Length n
      → (repair_answer spec shard b a out ≡ Length n) × (repair_left spec shard b a out ≡ repair_left spec shard a b out)
