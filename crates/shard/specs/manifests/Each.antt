-- Several tests over entries, worked entry by entry: the least number that some entry fails, with the first entry that fails it.
use Rattle.std.specs.Prelude.{ℕ, not, ◌&&◌, ◌||◌, List, [], ◌∷◌, ◌==◌, nat_lt}
use Rattle.refusal.specs.Choice.{pick}
use Rattle.endian.specs.Range.{any_below, first}
use Rattle.shard.specs.declared.index.Fault.{Fault}
use Rattle.shard.specs.index.Tests.{EntryTest, fault, row_place}
use Rattle.shard.specs.declared.manifests.Failed.{Failed}

abbrev pub failed : ℕ → ℕ → Failed
failed number entry = record { number = number; entry = entry }

-- of n entries: the first test that some entry fails, and the first entry that fails it; number 0 where all pass
unfoldable pub least_of : ℕ → List EntryTest → Failed
least_of n [] = failed 0 0
least_of n (t ∷ ts) = pick (any_below n t.fails) (failed t.number (first t.fails n)) (least_of n ts)

-- the number of the first test that entry i fails; 0 where it passes all
unfoldable pub failed_number_at : List EntryTest → ℕ → ℕ
failed_number_at [] i = 0
failed_number_at (t ∷ ts) i = pick (t.fails i) t.number (failed_number_at ts i)

-- what failed so far, or entry i, which fails the number v, where that is the lesser
unfoldable pub lesser : Failed → ℕ → ℕ → Failed
lesser f v i = pick (not (v == 0) && (f.number == 0 || nat_lt v f.number)) (failed v i) f

-- the same as a fault whose position is in a row of the minishard index of n entries at p
unfoldable pub placed : ℕ → ℕ → ℕ → Failed → Fault
placed p n row f = pick (f.number == 0) (fault 0 0) (fault f.number (row_place p n row f.entry))
