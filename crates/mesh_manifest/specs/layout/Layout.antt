-- Where the items of a manifest stand (RULES M1). Each item has 4 bytes.
use Rattle.std.specs.Prelude.{ℕ, ◌+◌, ◌*◌, Bool, ◌&&◌, ◌||◌, List, leb, ltb}
use Rattle.endian.specs.Little.{le_at}
use Rattle.endian.specs.Range.{sum_to}

-- the number in item i, counted from 0 in file order (RULES M1)
unfoldable pub manifest_item : List ℕ → ℕ → ℕ
manifest_item s i = le_at 4 s (4 * i)

-- the level count stands after chunk shape and grid origin, three reals each
abbrev pub levels_of : List ℕ → ℕ
levels_of s = manifest_item s 6

-- after it the scales, one a level, and the vertex offsets, three a level: these and the first six are the reals (RULES M1)
unfoldable pub is_real_of : ℕ → ℕ → Bool
is_real_of levels i = ltb i 6 || (leb 7 i && ltb i (7 + 4 * levels))

-- then the node counts, one a level: how many nodes level l has
unfoldable pub count_of : List ℕ → ℕ → ℕ
count_of s l = manifest_item s (7 + 4 * levels_of s + l)

-- how many nodes the levels before l have together
abbrev pub nodes_before : List ℕ → ℕ → ℕ
nodes_before s l = sum_to (count_of s) l

-- the item where level l's nodes begin: each node before it has four items (RULES M1)
abbrev pub level_item : List ℕ → ℕ → ℕ
level_item s l = 7 + 5 * levels_of s + 4 * nodes_before s l

-- how many items the manifest has
abbrev pub field_count : List ℕ → ℕ
field_count s = level_item s (levels_of s)

-- Of a level with n nodes whose items begin at `first`: all x, all y, all z, all fragment sizes. Of node i:
abbrev pub x_at : List ℕ → ℕ → ℕ → ℕ → ℕ
x_at s first n i = manifest_item s (first + i)

abbrev pub y_at : List ℕ → ℕ → ℕ → ℕ → ℕ
y_at s first n i = manifest_item s (first + n + i)

abbrev pub z_at : List ℕ → ℕ → ℕ → ℕ → ℕ
z_at s first n i = manifest_item s (first + 2 * n + i)

-- RULES M1
unfoldable pub size_at : List ℕ → ℕ → ℕ → ℕ → ℕ
size_at s first n i = manifest_item s (first + 3 * n + i)
