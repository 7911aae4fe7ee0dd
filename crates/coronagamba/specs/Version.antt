-- The library's version. Where the C interface changes so that a program built against the old header goes wrong, the first of the three that is not 0 rises.
use Rattle.std.specs.Prelude.{ℕ, ◌+◌, ◌*◌, ◌^◌}

abbrev pub major : ℕ
major = 0

abbrev pub minor : ℕ
minor = 6

abbrev pub patch : ℕ
patch = 0

-- one number: patch + 2^16 × minor + 2^32 × major
abbrev pub version : ℕ
version = patch + 2 ^ 16 * minor + 2 ^ 32 * major
