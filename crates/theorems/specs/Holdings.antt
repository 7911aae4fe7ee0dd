-- What order 13 promises (RULES H4): the yearly holdings sheet counts, and the order in which shards are added makes no difference.
use Rattle.std.specs.Prelude.{ℕ, ◌+◌, ◌≡◌, Bool, true, false, ◌↔◌, List, [], ◌∷◌, ◌++◌, eqb, length, Ok, Err}
use Rattle.refusal.specs.declared.Refusal.{Refusal}
use Rattle.refusal.specs.declared.Refusal.TheVariants.{TotalTooLarge}
use Rattle.refusal.specs.Choice.{pick}
use Rattle.sharding.specs.declared.Sharding.{Sharding}
use Rattle.shard.specs.declared.CheckAnswer.{CheckAnswer}
use Rattle.shard.specs.declared.CheckAnswer.TheVariants.{Sound, Refused, Faulty}
use Rattle.shard.specs.File.{check_answer}
use Rattle.shard.specs.Sound.{SoundShard}
use Rattle.shard.specs.Items.{Item}
use Rattle.shard.specs.Lists.{Lists}
use Rattle.settled_form.specs.Sorted.{Member, Distinct}
use Rattle.settled_form.specs.Content.{id_of}
use Rattle.split_shard.specs.Answers.{pair_check}
use Rattle.holdings.specs.declared.measures.Counts.{Counts}
use Rattle.holdings.specs.measures.Measures.{measure_of, file_measure}
use Rattle.holdings.specs.declared.one_shard.Sheet.{Sheet}
use Rattle.refusal.specs.Answers.{Answer, refuse}
use Rattle.holdings.specs.one_shard.Sheet.{rows, from_rows_of, reporting, empty}
use Rattle.holdings.specs.totals.Totals.{any_passes, both}
use Rattle.holdings.specs.Answers.{join_answer, add_answer, pair_add_answer}
use Rattle.coronagamba.specs.Sheets.{rows_after}

-- ---- shards, "with specification and number each"

-- one file, or a pair of the earlier edition
pub data Holding : Type 0 where
  one_file : Sharding → ℕ → List ℕ → Holding
  two_files : Sharding → ℕ → List ℕ → List ℕ → Holding

-- what the check says of it, and what is counted over it where it is sound
unfoldable pub verdict_on : Holding → CheckAnswer
verdict_on (one_file spec shard file) = check_answer spec shard file
verdict_on (two_files spec shard index d) = pair_check spec shard index d

unfoldable pub counts_of : Holding → Counts
counts_of (one_file spec shard file) = file_measure spec file
counts_of (two_files spec shard index d) = measure_of spec index d

-- ---- the sheet that is made of them, "added to the sheet one at a time"

unfoldable pub add_one : Sheet → Holding → Answer Sheet
add_one sheet (one_file spec shard file) = add_answer sheet spec shard file
add_one sheet (two_files spec shard index d) = pair_add_answer sheet spec shard index d

-- 27: "the sheet stays as before that shard"
unfoldable pub kept_by : Sheet → Answer Sheet → Sheet
kept_by sheet (Ok next) = next
kept_by sheet (Err k) = sheet

unfoldable pub add_all : Sheet → List Holding → Sheet
add_all sheet [] = sheet
add_all sheet (h ∷ hs) = add_all (kept_by sheet (add_one sheet h)) hs

-- none of them is refused with 27
unfoldable pub NoneRefused : Sheet → List Holding → Type 0
NoneRefused sheet [] = Unit {0}
NoneRefused sheet (h ∷ hs) = (add_one sheet h ≡ Ok (kept_by sheet (add_one sheet h))) × NoneRefused (kept_by sheet (add_one sheet h)) hs

-- ---- what it should say

abbrev pub is_sound : CheckAnswer → Bool
is_sound Sound = true
is_sound (Refused k) = false
is_sound (Faulty k m p) = false

abbrev pub is_refused_with : ℕ → CheckAnswer → Bool
is_refused_with n Sound = false
is_refused_with n (Refused k) = eqb k n
is_refused_with n (Faulty k m p) = eqb k n

-- how many of them the check answers so, and the sum of a count over these
unfoldable pub how_many : (CheckAnswer → Bool) → List Holding → ℕ
how_many test [] = 0
how_many test (h ∷ hs) = pick (test (verdict_on h)) 1 0 + how_many test hs

unfoldable pub sum_over : (CheckAnswer → Bool) → (Counts → ℕ) → List Holding → ℕ
sum_over test count [] = 0
sum_over test count (h ∷ hs) = pick (test (verdict_on h)) (count (counts_of h)) 0 + sum_over test count hs

-- "shards sound, shards the check refuses for each number and, over sound shards, chunks listed, sum of chunk sizes, and unlisted bytes" (RULES H4)
unfoldable pub sheet_over : List Holding → Sheet
sheet_over hs =
    reporting (how_many is_sound hs) (λ number. how_many (is_refused_with number) hs)
    (sum_over is_sound (λ k. k.chunks) hs)
    (sum_over is_sound (λ k. k.bytes) hs)
    (sum_over is_sound (λ k. k.unlisted) hs)

-- "no total over all of them passes 2^64-1"
abbrev pub Within : List Holding → Type 0
Within hs = any_passes (rows (sheet_over hs)) ≡ false

-- "a total would pass 2^64-1": one of any sheet, with this shard
abbrev pub WouldPass : Sheet → Holding → Type 0
WouldPass sheet h = any_passes (rows (both sheet (sheet_over (h ∷ [])))) ≡ true

-- ---- "the same shards in another order"

pub data Reordered : List Holding → List Holding → Type 0 where
  none : Reordered [] []
  first : {hs gs : List Holding} (h : Holding) → Reordered hs gs → Reordered (h ∷ hs) (h ∷ gs)
  swapped : (h g : Holding) (hs : List Holding) → Reordered (h ∷ g ∷ hs) (g ∷ h ∷ hs)
  then : {hs gs fs : List Holding} → Reordered hs gs → Reordered gs fs → Reordered hs fs

-- the rows of shards, together
unfoldable pub shards_on : Sheet → ℕ
shards_on s = s.sound + s.refused1 + s.refused5 + s.refused6 + s.refused7 + s.refused8 + s.refused9 + s.refused10 + s.refused11 + s.refused15 + s.refused16 + s.refused17 + s.refused21 + s.refused23

-- the shard lists these items and no others, each once: no two have one id
pub record ListsThese (spec : Sharding) (file : List ℕ) (items : List Item) : Type 0 where
  pub each : (item : Item) → Member item items ↔ Lists spec file item
  pub once : Distinct id_of items

-- the bytes of their chunks together
unfoldable pub body_bytes : List Item → ℕ
body_bytes [] = 0
body_bytes (x ∷ xs) = length x.body + body_bytes xs

-- RULES H4
pub record Order13 : Type 0 where
  -- "Where the sheet began empty and no total over all of them passes 2^64-1, the same shards in another order give the same sheet."
  pub order : (hs gs : List Holding) → Reordered hs gs → Within hs → add_all empty hs ≡ add_all empty gs
  -- It is what it should be, and no shard was refused with 27.
  pub counts : (hs : List Holding) → Within hs → add_all empty hs ≡ sheet_over hs
  pub all : (hs : List Holding) → Within hs → NoneRefused empty hs
  -- Each shard is in a row: no number that the check gives is forgotten.
  pub shards : (hs : List Holding) → Within hs → shards_on (add_all empty hs) ≡ length hs
  -- "over sound shards, chunks listed, sum of chunk sizes": the number of the items that the shard lists, and the bytes of their chunks. (Unlisted bytes are as
  -- order 8 has them.)
  pub chunks : (spec : Sharding) (shard : ℕ) (a : List ℕ) (items : List Item) → SoundShard spec shard a → ListsThese spec a items → (file_measure spec a).chunks ≡ length items
  pub bytes : (spec : Sharding) (shard : ℕ) (a : List ℕ) (items : List Item) → SoundShard spec shard a → ListsThese spec a items → (file_measure spec a).bytes ≡ body_bytes items
  -- Every sound shard has such a list.
  pub list : (spec : Sharding) (shard : ℕ) (a : List ℕ) → SoundShard spec shard a → (items : List Item) × ListsThese spec a items
  -- Of a pair that the check passes the same is counted over what the joined file lists.
  pub chunks_of_pair : (spec : Sharding) (shard : ℕ) (index d : List ℕ) (items : List Item) → pair_check spec shard index d ≡ Sound → ListsThese spec (index ++ d) items
      → (measure_of spec index d).chunks ≡ length items
  pub bytes_of_pair : (spec : Sharding) (shard : ℕ) (index d : List ℕ) (items : List Item) → pair_check spec shard index d ≡ Sound → ListsThese spec (index ++ d) items
      → (measure_of spec index d).bytes ≡ body_bytes items
  pub list_of_pair : (spec : Sharding) (shard : ℕ) (index d : List ℕ) → pair_check spec shard index d ≡ Sound → (items : List Item) × ListsThese spec (index ++ d) items
  -- The sheets of two parts, joined, are that of the whole.
  pub parts : (hs gs : List Holding) → Within (hs ++ gs) → join_answer (add_all empty hs) (add_all empty gs) ≡ Ok (add_all empty (hs ++ gs))
  -- 27 is given exactly when a total would pass, of any sheet, and no other number;
  pub past : (sheet : Sheet) (h : Holding) → (add_one sheet h ≡ refuse 27) ↔ WouldPass sheet h
  pub only : (sheet : Sheet) (h : Holding) (r : Refusal) → add_one sheet h ≡ Err r → r ≡ TotalTooLarge
  -- "the sheet stays as before that shard": what the contracts of the C calls say of the numbers that were lent.
  pub stays : (lent : List ℕ) (h : Holding) (r : Refusal) → add_one (from_rows_of lent) h ≡ Err r → rows_after (add_one (from_rows_of lent) h) lent ≡ lent
  pub join_stays : (lent other : List ℕ) (r : Refusal) → join_answer (from_rows_of lent) (from_rows_of other) ≡ Err r → rows_after (join_answer (from_rows_of lent) (from_rows_of other)) lent ≡ lent
  -- Where the rows of a sheet are lent, the next sheet's rows are left: `add_all` is a run of these calls.
  pub lent : (sheet : Sheet) (h : Holding) → rows_after (add_one (from_rows_of (rows sheet)) h) (rows sheet) ≡ rows (kept_by sheet (add_one sheet h))
