-- A shard of the earlier edition: "a separate <shard>.index file (containing the \"shard index\") and a <shard>.data file (containing the remaining
-- data)" (source 002). It is treated "as their concatenation, without joining them" (RULES P1); the seam is where the index file ends.
use Rattle.std.specs.Prelude.{ℕ, Bool, not, List, [], ◌∷◌, ◌++◌, eqb, length}
use Rattle.refusal.specs.Checks.{Check, check, first_number, answered}
use Rattle.sharding.specs.declared.Sharding.{Sharding}
use Rattle.sharding.specs.Specification.{allowed}
use Rattle.shard.specs.File.{index_length_of, bad_file_length}

-- 23: "the index file is not exactly as long as the shard index" (RULES P1)
unfoldable pub bad_seam : Sharding → List ℕ → Bool
bad_seam spec index = not (eqb (length index) (index_length_of spec))

-- 23 after the checks that a call has before it (RULES P1)
abbrev pub then_seam : List Check → Sharding → List ℕ → List Check
then_seam before spec index = before ++ (check 23 (bad_seam spec index) ∷ [])

-- 1, 5 and "23 [..] right after 5" of a call on a pair; what 5 is depends on the call (RULES P1)
unfoldable pub pair_checks : Sharding → Bool → List ℕ → List Check
pair_checks spec five index = then_seam (check 1 (not (allowed spec)) ∷ check 5 five ∷ []) spec index

-- what such a call answers, and what it leaves: "But for 23 [..] as for the joined file"
abbrev pub pair_answer : {A : Type 0} → (ℕ → A) → Sharding → Bool → List ℕ → A → A
pair_answer refused spec five index joined = answered refused (pair_checks spec five index) joined

-- 23, then 6 of the joined length
unfoldable pub pair_length_checks : Sharding → List ℕ → List ℕ → List Check
pair_length_checks spec index d = check 23 (bad_seam spec index) ∷ check 6 (bad_file_length spec (length (index ++ d))) ∷ []

-- the number of the first that holds
unfoldable pub length_number : Sharding → List ℕ → List ℕ → ℕ
length_number spec index d = first_number (pair_length_checks spec index d)
