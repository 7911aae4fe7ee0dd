-- The yearly holdings sheet: "shards sound, shards the check refuses for each number and, over sound shards, chunks listed, sum of chunk sizes, and
-- unlisted bytes as defined in order 8" (RULES H2).
use Rattle.std.specs.Prelude.{ℕ, Bool, false, ◌||◌, List, [], ◌∷◌, ◌++◌, map, eqb, get_or}
use Rattle.refusal.specs.Choice.{pick}
use Rattle.shard.specs.declared.CheckAnswer.{CheckAnswer}
use Rattle.shard.specs.declared.CheckAnswer.TheVariants.{Sound, Refused, Faulty}
use Rattle.holdings.specs.declared.measures.Counts.{Counts}
use Rattle.holdings.specs.declared.one_shard.Sheet.{Sheet}

-- the numbers that the check gives: 1, 5 and 6 of a call, 7 to 11 of a minishard, 15 to 17 and 21 of a mesh, and 23 of a pair
abbrev pub numbers : List ℕ
numbers = 1 ∷ 5 ∷ 6 ∷ 7 ∷ 8 ∷ 9 ∷ 10 ∷ 11 ∷ 15 ∷ 16 ∷ 17 ∷ 21 ∷ 23 ∷ []

-- a number is one of them
abbrev pub is_among : ℕ → List ℕ → Bool
is_among k [] = false
is_among k (n ∷ ns) = eqb k n || is_among k ns

unfoldable pub has_row : ℕ → Bool
has_row k = is_among k numbers

-- the rows of a sheet, in the order in which the C calls have them (RULES H2)
unfoldable pub rows : Sheet → List ℕ
rows s =
    s.sound
    ∷ s.refused1
    ∷ s.refused5
    ∷ s.refused6
    ∷ s.refused7
    ∷ s.refused8
    ∷ s.refused9
    ∷ s.refused10
    ∷ s.refused11
    ∷ s.refused15
    ∷ s.refused16
    ∷ s.refused17
    ∷ s.refused21
    ∷ s.refused23
    ∷ s.chunks
    ∷ s.bytes
    ∷ s.unlisted
    ∷ []

-- the sheet with these rows
unfoldable pub from_rows_of : List ℕ → Sheet
from_rows_of s =
    record {
      sound = get_or s 0 0;
      refused1 = get_or s 1 0;
      refused5 = get_or s 2 0;
      refused6 = get_or s 3 0;
      refused7 = get_or s 4 0;
      refused8 = get_or s 5 0;
      refused9 = get_or s 6 0;
      refused10 = get_or s 7 0;
      refused11 = get_or s 8 0;
      refused15 = get_or s 9 0;
      refused16 = get_or s 10 0;
      refused17 = get_or s 11 0;
      refused21 = get_or s 12 0;
      refused23 = get_or s 13 0;
      chunks = get_or s 14 0;
      bytes = get_or s 15 0;
      unlisted = get_or s 16 0;
    }

-- a sheet that reports this: shards sound, shards refused with each of the numbers, chunks listed, their bytes, unlisted bytes (RULES H2)
unfoldable pub reporting : ℕ → (ℕ → ℕ) → ℕ → ℕ → ℕ → Sheet
reporting sound refused chunks bytes unlisted = from_rows_of (sound ∷ map refused numbers ++ chunks ∷ bytes ∷ unlisted ∷ [])

-- an empty sheet
abbrev pub empty : Sheet
empty = reporting 0 (λ row. 0) 0 0 0

-- ---- the sheet of one shard

-- 1 where the number is that of the row
unfoldable pub tally : ℕ → ℕ → ℕ
tally row number = pick (eqb number row) 1 0

-- sound, with these counts
unfoldable pub sound_sheet : Counts → Sheet
sound_sheet counts = reporting 1 (λ row. 0) counts.chunks counts.bytes counts.unlisted

-- refused with this number: one shard in its row, and nothing of it is counted
unfoldable pub refused_sheet : ℕ → Sheet
refused_sheet number = reporting 0 (λ row. tally row number) 0 0 0

-- by what the check says of it (RULES H2)
unfoldable pub shard_sheet : CheckAnswer → Counts → Sheet
shard_sheet Sound counts = sound_sheet counts
shard_sheet (Refused number) counts = refused_sheet number
shard_sheet (Faulty number minishard position) counts = refused_sheet number
