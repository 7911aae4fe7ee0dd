-- Little-endian numbers in lists of bytes.
use Rattle.std.specs.Prelude.{ℕ, zero, suc, ◌+◌, ◌*◌, ◌/◌, ◌%◌, ◌^◌, ◌<◌, List, [], ◌∷◌, ◌++◌, get_or}

-- the k lowest bytes of n, lowest first
unfoldable pub le : ℕ → ℕ → List ℕ
le zero n = []
le (suc k) n = n % 256 ∷ le k (n / 256)

-- the number whose k bytes, lowest first, stand in s from `at` on; a byte past the end counts as 0
unfoldable pub le_at : ℕ → List ℕ → ℕ → ℕ
le_at zero s at = 0
le_at (suc k) s at = get_or s at 0 + 256 * le_at k s (suc at)

-- numbers one after the other, each as a u64
unfoldable pub row : List ℕ → List ℕ
row [] = []
row (n ∷ ns) = le 8 n ++ row ns

-- each as a u32
unfoldable pub row32 : List ℕ → List ℕ
row32 [] = []
row32 (n ∷ ns) = le 4 n ++ row32 ns

-- number i of the row of u64s that begins at p
abbrev pub row_at : List ℕ → ℕ → ℕ → ℕ
row_at s p i = le_at 8 s (p + 8 * i)

-- each of the numbers is a u64
abbrev pub Fit : List ℕ → Type 0
Fit [] = Unit {0}
Fit (n ∷ ns) = (n < 2 ^ 64) × Fit ns
