-- A chunk in words of 32 bits, little-endian: "offsets count words".
use Rattle.std.specs.Prelude.{ℕ, ◌+◌, ◌*◌, Bool, List, leb, length}
use Rattle.endian.specs.Little.{le_at}

-- word i (RULES E2)
unfoldable pub word : List ℕ → ℕ → ℕ
word s i = le_at 4 s (4 * i)

-- n words from word i on lie whole in the chunk (RULES E7)
unfoldable pub whole : List ℕ → ℕ → ℕ → Bool
whole s i n = leb (4 * (i + n)) (length s)
