-- The sizes of a minishard's chunks together, and totals that may pass what 64 bits hold (RULES H1).
use Rattle.std.specs.Prelude.{ℕ, Bool, List, ltb}
use Rattle.refusal.specs.Choice.{pick}
use Rattle.endian.specs.Range.{sum_to}
use Rattle.shard.specs.index.Index.{entry_start_of, sizes}
use Rattle.unlisted.specs.ranges.Ranges.{count_in}
use Rattle.holdings.specs.declared.chunk_sums.Total.{Total}

-- the sizes of the chunks that minishard m lists, together: of manifests in a mesh, whose fragments are no chunks
unfoldable pub sizes_in : List ℕ → List ℕ → ℕ → ℕ
sizes_in index d m = sum_to (sizes d (entry_start_of index m) (count_in index m)) (count_in index m)

-- the most that a total can be
abbrev pub most_total : ℕ
most_total = 18446744073709551615

-- a total passes it
unfoldable pub passes : ℕ → Bool
passes n = ltb most_total n

-- ---- a sum that may pass what 64 bits hold

unfoldable pub total_of : ℕ → Total
total_of n = record { passed = passes n; sum = pick (passes n) 0 n }
