-- Parts of the settings by the members that a walk over their object found: what the functions compute on the way.
use Rattle.std.specs.Prelude.{Bool, false, List, ℕ, Option, Some, None, Result, Err}
use Rattle.json_text.specs.members.Places.{Given, elements, is_text, once_of, lone_of}
use Rattle.morton.specs.declared.grid.Extents.{Extents}
use Rattle.morton.specs.declared.grid.Volume.{Volume}
use Rattle.sharding.specs.declared.Sharding.{Sharding}
use Rattle.info.specs.declared.sharding_members.SettingsError.{SettingsError}
use Rattle.info.specs.declared.sharding_members.SettingsError.TheVariants.{Wrong}
use Rattle.info.specs.numbers.Numbers.{when_some, natural_at}
use Rattle.info.specs.sharding_members.Words.{type_text}
use Rattle.info.specs.scale.Scale.{extents_at, offset_by, sharding_at}
use Rattle.info.specs.sharding_members.Values.{hash_at}

unfoldable pub size_by : List ℕ → Given → Option Extents
size_by s g = when_some (once_of g) None (extents_at s)

unfoldable pub chunk_by : List ℕ → Given → Option Extents
chunk_by s g = when_some (once_of g) None (λ v. when_some (lone_of (elements s v)) None (extents_at s))

unfoldable pub volume_by : List ℕ → Given → Given → Given → Option Volume
volume_by s f g h =
    when_some (size_by s f) None (λ a. when_some (chunk_by s g) None (λ b. when_some (offset_by s h) None
    (λ o. Some (record { size = a; chunk = b; offset = o }))))

unfoldable pub typed_by : List ℕ → Given → Bool
typed_by s g = when_some (once_of g) false (is_text type_text s)

unfoldable pub hash_by : List ℕ → Given → Result ℕ SettingsError
hash_by s g = when_some (once_of g) (Err Wrong) (hash_at s)

unfoldable pub number_by : List ℕ → Given → Option ℕ
number_by s g = when_some (once_of g) None (natural_at s)

unfoldable pub sharding_by : List ℕ → Given → Result Sharding SettingsError
sharding_by s g = when_some (once_of g) (Err Wrong) (sharding_at s)
