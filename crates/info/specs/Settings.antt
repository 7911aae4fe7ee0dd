-- The settings of scale k that an info file says, as the record of a card (order 1).
use Rattle.std.specs.Prelude.{ℕ, List, Option, None, Result, Err}
use Rattle.json_text.specs.tokens.Parts.{ws}
use Rattle.card.specs.declared.Card.{Card}
use Rattle.info.specs.numbers.Numbers.{when_some}
use Rattle.info.specs.declared.sharding_members.SettingsError.{SettingsError}
use Rattle.info.specs.declared.sharding_members.SettingsError.TheVariants.{Wrong}
use Rattle.json_text.specs.members.Places.{needed, element}
use Rattle.info.specs.sharding_members.Words.{scales_name}
use Rattle.info.specs.scale.Scale.{settings_at}

-- scale k, from 0, of the outermost value's scales
unfoldable pub scale_at : List ℕ → ℕ → Option ℕ
scale_at s k = when_some (needed scales_name s (ws s 0)) None (element k s)

unfoldable pub settings_of : List ℕ → ℕ → Result Card SettingsError
settings_of s k = when_some (scale_at s k) (Err Wrong) (settings_at s)
