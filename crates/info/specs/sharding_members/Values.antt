-- Single values of a sharding in an info file: an encoding, a hash, four numbers (order 1).
use Rattle.std.specs.Prelude.{ℕ, Bool, true, false, ◌||◌, List, leb, eqb, Ok, Err, Result}
use Rattle.refusal.specs.Choice.{pick}
use Rattle.json_text.specs.tokens.Bytes.{byte_at}
use Rattle.sharding.specs.Specification.{volume}
use Rattle.json_text.specs.members.Places.{Given, is_text}
use Rattle.json_text.specs.declared.members.NotOnce.TheVariants.{Never, Twice}
use Rattle.sharding.specs.declared.Sharding.{Sharding}
use Rattle.info.specs.declared.sharding_members.SettingsError.{SettingsError}
use Rattle.info.specs.declared.sharding_members.SettingsError.TheVariants.{UnknownHash, Wrong}
use Rattle.info.specs.sharding_members.Words.{raw_text, identity_text, murmur_text}

-- "an index or data encoding other than raw" is refused; "If not specified, equivalent to "raw"."
unfoldable pub raw_by : List ℕ → Given → Bool
raw_by s (Ok v) = is_text raw_text s v
raw_by s (Err Never) = true
raw_by s (Err Twice) = false

-- the hash whose name stands at p
unfoldable pub hash_at : List ℕ → ℕ → Result ℕ SettingsError
hash_at s p = pick (eqb (byte_at s p) 0x22) (pick (is_text identity_text s p) (Ok 0) (pick (is_text murmur_text s p) (Ok 1) (Err UnknownHash))) (Err Wrong)

-- "the info reader yields volume" (RULES I9)
unfoldable pub hashed_by : ℕ → Result ℕ SettingsError → ℕ → ℕ → Result Sharding SettingsError
hashed_by a (Ok h) m n = Ok (record { preshift = a; hash = h; minishard_bits = m; shard_bits = n; kind = volume })
hashed_by a (Err UnknownHash) m n = Err UnknownHash
hashed_by a (Err Wrong) m n = Err Wrong

-- "A number its card field cannot hold is of the wrong kind" (RULES I6)
unfoldable pub sharding_of : ℕ → Result ℕ SettingsError → ℕ → ℕ → Result Sharding SettingsError
sharding_of a h m n = pick (leb 256 a || (leb 256 m || leb 256 n)) (Err Wrong) (hashed_by a h m n)
