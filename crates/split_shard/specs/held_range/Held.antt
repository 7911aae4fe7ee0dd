-- Which of two joined files holds a byte range (RULES P4), end excluded, and the part handed out (RULES P5).
use Rattle.std.specs.Prelude.{ℕ, ◌+◌, ◌-◌, ◌≤◌, ◌<◌, Bool, ◌||◌, ◌&&◌, List, [], ◌∷◌, ltb, take, drop}
use Rattle.refusal.specs.Choice.{pick}
use Rattle.refusal.specs.Checks.{check, answered}
use Rattle.split_shard.specs.declared.held_range.RangeAnswer.{RangeAnswer}
use Rattle.split_shard.specs.declared.held_range.RangeAnswer.TheVariants.{InIndex, InData, Refused}

-- 24 of a joined file of n bytes: "a range crosses the seam, is reversed or passes the end" (RULES P4)
unfoldable pub bad_range : ℕ → ℕ → ℕ → ℕ → Bool
bad_range seam n start end = (ltb start seam && ltb seam end) || (ltb end start || ltb n end)

-- which file holds a range that crosses nothing, where in it, and how long it is: from the seam on it is the data file (RULES P4)
unfoldable pub held_range : ℕ → ℕ → ℕ → RangeAnswer
held_range seam start end = pick (ltb start seam) (InIndex start (end - start)) (InData (start - seam) (end - start))

-- 24 and the range, of a pair whose lengths were tested
unfoldable pub range_in : ℕ → ℕ → ℕ → ℕ → RangeAnswer
range_in seam n start end = answered Refused (check 24 (bad_range seam n start end) ∷ []) (held_range seam start end)

-- ---- the part handed out; refused, the empty part at the data file's start

-- of which file it is
abbrev pub either : {A : Type 0} → RangeAnswer → A → A → A
either (InIndex start n) index d = index
either (InData start n) index d = d
either (Refused number) index d = d

-- RULES P5
abbrev pub range_start : RangeAnswer → ℕ
range_start (InIndex start n) = start
range_start (InData start n) = start
range_start (Refused number) = 0

abbrev pub range_length : RangeAnswer → ℕ
range_length (InIndex start n) = n
range_length (InData start n) = n
range_length (Refused number) = 0

-- RULES P5
abbrev pub range_bytes : RangeAnswer → List ℕ → List ℕ → List ℕ
range_bytes a index d = take (range_length a) (drop (range_start a) (either a index d))

-- a range lies within its file, of these lengths
pub record Held (a : RangeAnswer) (index d : ℕ) : Type 0 where
  pub inside : range_start a + range_length a ≤ either a index d
  pub fits : range_start a + range_length a < 18446744073709551616
