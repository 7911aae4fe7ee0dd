-- The worked cases of names (RULES W1, W3), in one table.
use Prim.Native.Nat.{ℕ}
use mathlib.Core.Path.{◌≡◌, refl}
use mathlib.Core.List.{List, [], ◌∷◌, map}
use lib.IntN.{pos, negsuc}
use Rattle.morton.specs.bounds.Bounds.{cell_begin, cell_end, begin_point, end_point, bounds_of}
use Rattle.morton.specs.declared.grid.Volume.{Volume}
use Rattle.sharding.specs.declared.Sharding.{Sharding}
use Rattle.names.specs.digits.Digits.{digit_byte, digits, count_to, digit_count, decimal}
use Rattle.names.specs.digits.Signs.{negative, sign_parts, signed_text}
use Rattle.names.specs.chunks.Spans.{span_of, span_text, two_text, spans_text}
use Rattle.names.specs.chunks.Chunks.{bounds_name, chunk_name}
use Rattle.names.specs.Shards.{shard_digits, file_name, shard_name}

-- a shard of a specification with so many shard bits, or a cell of the volume below, and its name
pub data Case : Type 0 where
  shard : ℕ → ℕ → List ℕ → Case
  chunk : ℕ → List ℕ → Case

unfoldable pub with_bits : ℕ → Sharding
with_bits n = record { preshift = 0; hash = 0; minishard_bits = 0; shard_bits = n; kind = 0 }

-- size 100,1,1, chunk 64,1,1, offset -64,0,0
unfoldable pub volume : Volume
volume = record {
  size = record { x = 100; y = 1; z = 1 };
  chunk = record { x = 64; y = 1; z = 1 };
  offset = record { x = negsuc 63; y = pos 0; z = pos 0 };
}

unfoldable pub answered : Case → Case
answered (shard bits n s) = shard bits n (shard_name (with_bits bits) n)
answered (chunk x s) = chunk x (chunk_name volume (record { x = x; y = 0; z = 0 }))

-- `a.shard`, `0a.shard`, `0.shard`, `-64-0_0-1_0-1`, `0-36_0-1_0-1`
unfoldable pub table : List Case
table =
    shard 4 10 (97 ∷ 46 ∷ 115 ∷ 104 ∷ 97 ∷ 114 ∷ 100 ∷ [])
    ∷ shard 5 10 (48 ∷ 97 ∷ 46 ∷ 115 ∷ 104 ∷ 97 ∷ 114 ∷ 100 ∷ [])
    ∷ shard 0 0 (48 ∷ 46 ∷ 115 ∷ 104 ∷ 97 ∷ 114 ∷ 100 ∷ [])
    ∷ chunk 0 (45 ∷ 54 ∷ 52 ∷ 45 ∷ 48 ∷ 95 ∷ 48 ∷ 45 ∷ 49 ∷ 95 ∷ 48 ∷ 45 ∷ 49 ∷ [])
    ∷ chunk 1 (48 ∷ 45 ∷ 51 ∷ 54 ∷ 95 ∷ 48 ∷ 45 ∷ 49 ∷ 95 ∷ 48 ∷ 45 ∷ 49 ∷ [])
    ∷ []

pub cases : map answered table ≡ table
unfolding table answered volume with_bits file_name shard_digits digits digit_byte chunk_name bounds_name bounds_of begin_point end_point cell_begin cell_end span_of spans_text two_text span_text signed_text sign_parts negative decimal digit_count count_to
cases = refl
