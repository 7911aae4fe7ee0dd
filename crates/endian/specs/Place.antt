-- Bytes at a place of a list: that they stand there, and writing them there.
use Rattle.std.specs.Prelude.{ℕ, ◌+◌, ◌≡◌, List, ◌++◌, length, take, drop}

-- s stands in d at p
pub record Holds (d : List ℕ) (p : ℕ) (s : List ℕ) : Type 0 where
  pub here : take (length s) (drop p d) ≡ s

-- d with xs written over it from `at` on
unfoldable pub paste : ℕ → List ℕ → List ℕ → List ℕ
paste at xs d = take at d ++ (xs ++ drop (at + length xs) d)
