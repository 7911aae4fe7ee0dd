-- The settings of one scale of an info file, as the record of a card, by places in the text (order 1).
use Rattle.std.specs.Prelude.{ℕ, Bool, false, ◌&&◌, List, Option, Some, None, Ok, Err, Result}
use Rattle.refusal.specs.Choice.{pick}
use Rattle.morton.specs.declared.grid.Extents.{Extents}
use Rattle.morton.specs.declared.grid.Offset.{Offset}
use Rattle.morton.specs.declared.grid.Volume.{Volume}
use Rattle.card.specs.fields.Twos.{signed32}
use Rattle.card.specs.Reading.{zeros}
use Rattle.json_text.specs.members.Places.{Given, elements, is_text, member, needed, three_of, lone_of}
use Rattle.json_text.specs.declared.members.NotOnce.TheVariants.{Never, Twice}
use Rattle.card.specs.declared.Card.{Card}
use Rattle.sharding.specs.declared.Sharding.{Sharding}
use Rattle.info.specs.declared.sharding_members.SettingsError.{SettingsError}
use Rattle.info.specs.declared.sharding_members.SettingsError.TheVariants.{UnknownHash, Wrong}
use Rattle.info.specs.numbers.Numbers.{when_some, natural_at, coordinate_at}
use Rattle.info.specs.sharding_members.Words.{size_name, chunks_name, offset_name, sharding_name, type_name, preshift_name, hash_name, minishard_bits_name, shard_bits_name, index_name, data_name, type_text}
use Rattle.info.specs.sharding_members.Values.{raw_by, hash_at, sharding_of}

-- ---- the volume

unfoldable pub extents_of : Option ℕ → Option ℕ → Option ℕ → Option Extents
extents_of p q r =
    when_some p None (λ a. when_some q None (λ b. when_some r None (λ c. Some (record { x = a; y = b; z = c }))))

-- the array of three numbers at p
unfoldable pub extents_at : List ℕ → ℕ → Option Extents
extents_at s p =
    when_some (three_of (elements s p)) None (λ t. extents_of (natural_at s t.x) (natural_at s t.y) (natural_at s t.z))

unfoldable pub offset_of : Option ℕ → Option ℕ → Option ℕ → Option Offset
offset_of p q r =
    when_some p None (λ a. when_some q None (λ b. when_some r None
    (λ c. Some (record { x = signed32 a; y = signed32 b; z = signed32 c }))))

unfoldable pub offset_at_of : List ℕ → ℕ → Option Offset
offset_at_of s p =
    when_some (three_of (elements s p)) None (λ t. offset_of (coordinate_at s t.x) (coordinate_at s t.y) (coordinate_at s t.z))

-- "size", "chunk_sizes (just one)", "voxel_offset (default 0,0,0)" of the scale at p
unfoldable pub size_in : List ℕ → ℕ → Option Extents
size_in s p = when_some (needed size_name s p) None (extents_at s)

unfoldable pub chunk_in : List ℕ → ℕ → Option Extents
chunk_in s p = when_some (needed chunks_name s p) None (λ v. when_some (lone_of (elements s v)) None (extents_at s))

unfoldable pub offset_by : List ℕ → Given → Option Offset
offset_by s (Ok v) = offset_at_of s v
offset_by s (Err Never) = Some zeros
offset_by s (Err Twice) = None

unfoldable pub offset_in : List ℕ → ℕ → Option Offset
offset_in s p = offset_by s (member offset_name s p)

unfoldable pub volume_in : List ℕ → ℕ → Option Volume
volume_in s p =
    when_some (size_in s p) None (λ a. when_some (chunk_in s p) None (λ b. when_some (offset_in s p) None
    (λ o. Some (record { size = a; chunk = b; offset = o }))))

-- ---- the sharding

-- "its @type as 002 says"
unfoldable pub typed : List ℕ → ℕ → Bool
typed s p = when_some (needed type_name s p) false (is_text type_text s)

unfoldable pub formed : List ℕ → ℕ → Bool
formed s p = typed s p && (raw_by s (member index_name s p) && raw_by s (member data_name s p))

unfoldable pub hash_in : List ℕ → ℕ → Result ℕ SettingsError
hash_in s p = when_some (needed hash_name s p) (Err Wrong) (hash_at s)

unfoldable pub number_in : List ℕ → List ℕ → ℕ → Option ℕ
number_in name s p = when_some (needed name s p) None (natural_at s)

unfoldable pub numbers_of : Option ℕ → Result ℕ SettingsError → Option ℕ → Option ℕ → Result Sharding SettingsError
numbers_of p h r t = when_some p (Err Wrong) (λ a. when_some r (Err Wrong) (λ m. when_some t (Err Wrong) (λ n. sharding_of a h m n)))

unfoldable pub numbers_in : List ℕ → ℕ → Result Sharding SettingsError
numbers_in s p = numbers_of (number_in preshift_name s p) (hash_in s p) (number_in minishard_bits_name s p) (number_in shard_bits_name s p)

unfoldable pub sharding_at : List ℕ → ℕ → Result Sharding SettingsError
sharding_at s p = pick (formed s p) (numbers_in s p) (Err Wrong)

unfoldable pub sharding_in : List ℕ → ℕ → Result Sharding SettingsError
sharding_in s p = when_some (needed sharding_name s p) (Err Wrong) (sharding_at s)

-- ---- the whole

-- "1, which also answers an unknown hash name": no record says such a hash
unfoldable pub settings_by : Volume → Result Sharding SettingsError → Result Card SettingsError
settings_by v (Ok g) = Ok (record { sharding = g; volume = v })
settings_by v (Err UnknownHash) = Err UnknownHash
settings_by v (Err Wrong) = Err Wrong

-- the settings of the scale at p
unfoldable pub settings_at : List ℕ → ℕ → Result Card SettingsError
settings_at s p = when_some (volume_in s p) (Err Wrong) (λ v. settings_by v (sharding_in s p))
