-- How long a part of a list is.
use Prim.Native.Nat.{ℕ, ◌+◌, ◌≤◌}
use mathlib.Core.Path.{◌≡◌}
use mathlib.Core.List.{List}
use native.Mathlib.Omega.{arith}
use lib.ListN.{length, take, drop, length-take, length-drop}

pub part_length : (s : List ℕ) (from len : ℕ) → from + len ≤ length s → length (take len (drop from s)) ≡ len
part_length s from len h = simp (length-take, length-drop) (omega arith)
