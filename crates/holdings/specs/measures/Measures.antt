-- What is counted over a sound shard: "chunks listed, sum of chunk sizes, and unlisted bytes as defined in order 8" (RULES H1), and the length of
-- its settled form. A shard is two lists here: its shard index, and the data behind it.
use Rattle.std.specs.Prelude.{ℕ, List}
use Rattle.endian.specs.Range.{sum_to}
use Rattle.sharding.specs.declared.Sharding.{Sharding}
use Rattle.sharding.specs.Specification.{minishard_count_of}
use Rattle.shard.specs.File.{index_part, data_part}
use Rattle.unlisted.specs.ranges.Ranges.{count_in}
use Rattle.unlisted.specs.ranges.Covered.{unlisted_bytes}
use Rattle.settled_form.specs.Content.{form_length}
use Rattle.settle.specs.minishard_length.Writing.{capped}
use Rattle.holdings.specs.chunk_sums.Totals.{sizes_in}
use Rattle.holdings.specs.declared.measures.Counts.{Counts}

-- "chunks listed": those of all minishards
unfoldable pub chunk_count : Sharding → List ℕ → ℕ
chunk_count spec index = sum_to (count_in index) (minishard_count_of spec)

-- "sum of chunk sizes"
unfoldable pub chunk_bytes : Sharding → List ℕ → List ℕ → ℕ
chunk_bytes spec index d = sum_to (sizes_in index d) (minishard_count_of spec)

-- all of them; the settled length is counted up to the first one that settling refuses with 13 (RULES H1)
unfoldable pub measure_of : Sharding → List ℕ → List ℕ → Counts
measure_of spec index d =
    record {
      chunks = chunk_count spec index;
      bytes = chunk_bytes spec index d;
      unlisted = unlisted_bytes spec index d;
      settled = capped (form_length spec index d);
    }

-- of a file
abbrev pub file_measure : Sharding → List ℕ → Counts
file_measure spec file = measure_of spec (index_part spec file) (data_part spec file)
