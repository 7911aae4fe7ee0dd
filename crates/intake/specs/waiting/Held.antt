-- The second buffer of an intake: "the open minishard's ids and sizes wait in a second lent buffer of 16 bytes per chunk" (RULES N1); and the
-- minishard index that its pairs make (RULES U1).
use Rattle.std.specs.Prelude.{ℕ, zero, suc, ◌+◌, ◌*◌, ◌-◌, List, [], ◌∷◌, ◌++◌, replicate}
use Rattle.endian.specs.Little.{le_at, row}

-- two numbers of 8 bytes each
abbrev pub pair : ℕ → ℕ → List ℕ
pair a b = row (a ∷ b ∷ [])

-- the id and the size of pair i
abbrev pub id_held : List ℕ → ℕ → ℕ
id_held w i = le_at 8 w (16 * i)

abbrev pub size_held : List ℕ → ℕ → ℕ
size_held w i = le_at 8 w (16 * i + 8)

-- of k pairs from pair i on, the id steps, the first counted from the id `before`, and the sizes
unfoldable pub steps_held : ℕ → List ℕ → ℕ → ℕ → List ℕ
steps_held before w i zero = []
steps_held before w i (suc k) = (id_held w i - before) ∷ steps_held (id_held w i) w (suc i) k

unfoldable pub sizes_held : List ℕ → ℕ → ℕ → List ℕ
sizes_held w i zero = []
sizes_held w i (suc k) = size_held w i ∷ sizes_held w (suc i) k

-- the start steps of n chunks that stand one after the other from the place p on
unfoldable pub starts_from : ℕ → ℕ → List ℕ
starts_from p n = p ∷ replicate (n - 1) 0

-- the minishard index of the first n pairs, whose chunks stand so (RULES N1)
unfoldable pub index_held : ℕ → List ℕ → ℕ → List ℕ
index_held p w n = row (steps_held 0 w 0 n) ++ (row (starts_from p n) ++ row (sizes_held w 0 n))
