-- A filter of ids: an id that was noted in it is known again; another one seldom seems to be noted.
use Rattle.std.specs.Prelude.{◌≡◌, ℕ, ◌/◌, ◌%◌, ◌^◌, ◌<◌, Bool, true, false, List, length, bit_or, slice_index}
use Rattle.endian.specs.Range.{any_below}
use Rattle.murmur3.specs.Murmur.{murmur_hash}
use Rattle.duplicate_ids.specs.ids.Ids.{repeats}

-- bit k of a word, and the bits for six numbers below 64, the lowest digits of h
abbrev pub bit : ℕ → ℕ
bit k = 2 ^ (k % 64)

abbrev pub six_bits : ℕ → ℕ
six_bits h = bit_or (bit_or (bit_or (bit h) (bit (h / 2 ^ 6))) (bit_or (bit (h / 2 ^ 12)) (bit (h / 2 ^ 18)))) (bit_or (bit (h / 2 ^ 24)) (bit (h / 2 ^ 30)))

-- which of the 2^15 words an id is noted in, and by which bits: its hash tells both, from its highest and its lowest digits
unfoldable pub word_of : ℕ → ℕ
word_of x = murmur_hash x / 2 ^ 49

unfoldable pub bits_of : ℕ → ℕ
bits_of x = six_bits (murmur_hash x)

-- all its bits are set
pub record Noted (l : List ℕ) (x : ℕ) : Type 0 where
  pub set : bit_or (slice_index l (word_of x)) (bits_of x) ≡ slice_index l (word_of x)

-- the filter l once x was noted, and whether it was not noted before
pub record Noting (x : ℕ) (l m : List ℕ) (new : Bool) : Type 0 where
  pub long : length m ≡ length l
  pub here : Noted m x
  pub kept : (y : ℕ) → Noted l y → Noted m y
  pub fresh : new ≡ true → Noted l x → ⊥

-- the first i entries repeat no id, and their ids are noted
pub record Sifted (id : ℕ → ℕ) (i : ℕ) (l : List ℕ) : Type 0 where
  pub none : any_below i (repeats id) ≡ false
  pub noted : (j : ℕ) → j < i → Noted l (id j)
