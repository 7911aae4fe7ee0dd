-- The settings that a document says: what a reader believes of an info file (order 1; sources 000 and 002).
use Rattle.std.specs.Prelude.{ℕ, Bool, true, false, ◌&&◌, List, eqb, Option, Some, None, Result, Ok, Err}
use Rattle.refusal.specs.Choice.{pick}
use Rattle.json_text.specs.strings.Names.{eq_list}
use Rattle.card.specs.Reading.{zeros}
use Rattle.info.specs.numbers.Numbers.{when_some, above_of, below_of}
use Rattle.morton.specs.declared.grid.Extents.{Extents}
use Rattle.morton.specs.declared.grid.Offset.{Offset}
use Rattle.morton.specs.declared.grid.Volume.{Volume}
use Rattle.card.specs.declared.Card.{Card}
use Rattle.sharding.specs.declared.Sharding.{Sharding}
use Rattle.info.specs.declared.sharding_members.SettingsError.{SettingsError}
use Rattle.info.specs.declared.sharding_members.SettingsError.TheVariants.{UnknownHash, Wrong}
use Rattle.info.specs.sharding_members.Words.{scales_name, size_name, chunks_name, offset_name, sharding_name, type_name, preshift_name, hash_name, minishard_bits_name, shard_bits_name, index_name, data_name, type_text, raw_text, identity_text, murmur_text}
use Rattle.info.specs.scale.Scale.{extents_of, offset_of, numbers_of, settings_by}
use Rattle.info.specs.document.Document.{DocumentOf, Times, times, member_of, elements_of, says_text, when_once, when_triple, nth}
use Rattle.info.specs.document.Document.DocumentOf.{word, number, string, array, object}
use Rattle.info.specs.document.Document.Times.{never, once, twice}

-- a number of 0 or more; with a minus, 0 only (RULES I6)
unfoldable pub natural_of : {D : Type 0} → DocumentOf D → Option ℕ
natural_of word = None
natural_of (number m n) = pick m (when_some n None (λ k. pick (eqb k 0) (Some 0) None)) n
natural_of (string t) = None
natural_of (array l) = None
natural_of (object l) = None

-- a signed number of 32 bits (RULES I6)
unfoldable pub coordinate_of : {D : Type 0} → DocumentOf D → Option ℕ
coordinate_of word = None
coordinate_of (number m n) = pick m (below_of n) (above_of n)
coordinate_of (string t) = None
coordinate_of (array l) = None
coordinate_of (object l) = None

-- an array of three numbers
unfoldable pub extents_on : {D : Type 0} → DocumentOf (DocumentOf D) → Option Extents
extents_on v = when_triple (elements_of v) None (λ a b c. extents_of (natural_of a) (natural_of b) (natural_of c))

unfoldable pub offset_on : {D : Type 0} → DocumentOf (DocumentOf D) → Option Offset
offset_on v = when_triple (elements_of v) None (λ a b c. offset_of (coordinate_of a) (coordinate_of b) (coordinate_of c))

-- "size", "chunk_sizes (just one)", "voxel_offset (default 0,0,0)" of a scale
unfoldable pub said_size : {D : Type 0} → DocumentOf (DocumentOf (DocumentOf D)) → Option Extents
said_size scale = when_once (member_of size_name scale) None extents_on

unfoldable pub chunk_of : {D : Type 0} → DocumentOf (DocumentOf (DocumentOf (DocumentOf D))) → Option Extents
chunk_of scale = when_once (member_of chunks_name scale) None (λ v. when_once (times (elements_of v)) None extents_on)

unfoldable pub offset_given : {D : Type 0} → Times (DocumentOf (DocumentOf D)) → Option Offset
offset_given never = Some zeros
offset_given (once v) = offset_on v
offset_given twice = None

unfoldable pub volume_of : {D : Type 0} → DocumentOf (DocumentOf (DocumentOf (DocumentOf D))) → Option Volume
volume_of scale =
    when_some (said_size scale) None (λ a. when_some (chunk_of scale) None (λ b. when_some (offset_given (member_of offset_name scale)) None
    (λ o. Some (record { size = a; chunk = b; offset = o }))))

-- "its @type as 002 says" (RULES I7)
unfoldable pub type_said : {D : Type 0} → DocumentOf (DocumentOf D) → Bool
type_said g = when_once (member_of type_name g) false (says_text type_text)

-- "an index or data encoding other than raw" is refused; "If not specified, equivalent to "raw"." (RULES I7)
unfoldable pub raw_given : {D : Type 0} → Times (DocumentOf D) → Bool
raw_given never = true
raw_given (once v) = says_text raw_text v
raw_given twice = false

-- the hash by its name; a name that is not known is a case of its own (RULES I7)
unfoldable pub hash_of : {D : Type 0} → DocumentOf D → Result ℕ SettingsError
hash_of word = Err Wrong
hash_of (number m n) = Err Wrong
hash_of (string t) = pick (eq_list t identity_text) (Ok 0) (pick (eq_list t murmur_text) (Ok 1) (Err UnknownHash))
hash_of (array l) = Err Wrong
hash_of (object l) = Err Wrong

unfoldable pub number_of : {D : Type 0} → List ℕ → DocumentOf (DocumentOf D) → Option ℕ
number_of name g = when_once (member_of name g) None natural_of

unfoldable pub sharding_on : {D : Type 0} → DocumentOf (DocumentOf D) → Result Sharding SettingsError
sharding_on g =
    pick (type_said g && (raw_given (member_of index_name g) && raw_given (member_of data_name g)))
    (numbers_of (number_of preshift_name g) (when_once (member_of hash_name g) (Err Wrong) hash_of) (number_of minishard_bits_name g) (number_of shard_bits_name g)) (Err Wrong)

-- the settings of a scale
unfoldable pub settings_on : {D : Type 0} → DocumentOf (DocumentOf (DocumentOf (DocumentOf D))) → Result Card SettingsError
settings_on scale =
    when_some (volume_of scale) (Err Wrong) (λ v. settings_by v (when_once (member_of sharding_name scale) (Err Wrong) sharding_on))

-- of scale k, from 0, of the outermost value's scales (RULES I5)
unfoldable pub settings_in : {D : Type 0} → ℕ → DocumentOf (DocumentOf (DocumentOf (DocumentOf (DocumentOf (DocumentOf D))))) → Result Card SettingsError
settings_in k doc = when_once (member_of scales_name doc) (Err Wrong) (λ v. when_once (nth k (elements_of v)) (Err Wrong) settings_on)
