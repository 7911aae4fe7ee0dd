-- What reading the settings of scale k from an info file answers (order 'read the settings from the info file').
use Rattle.std.specs.Prelude.{ℕ, Bool, true, false, not, List, ◌∷◌, Result, Ok, Err}
use Rattle.refusal.specs.Checks.{Check, check, answered}
use Rattle.json_text.specs.Grammar.{deepest, is_json}
use Rattle.sharding.specs.Specification.{volume}
use Rattle.card.specs.Answers.{record_checks}
use Rattle.card.specs.Reading.{zeros}
use Rattle.card.specs.declared.Card.{Card}
use Rattle.refusal.specs.Answers.{Answer, refuse}
use Rattle.info.specs.declared.sharding_members.SettingsError.{SettingsError}
use Rattle.info.specs.declared.sharding_members.SettingsError.TheVariants.{UnknownHash, Wrong}
use Rattle.info.specs.document.Document.{Document}
use Rattle.info.specs.document.Places.{document_found}
use Rattle.info.specs.document.Said.{settings_in}

-- what is answered of a record
unfoldable pub judged_answer : Card → Answer Card
judged_answer c = answered refuse (record_checks c) (Ok c)

abbrev pub any_record : Card
any_record =
    record {
      sharding = record { preshift = 0; hash = 0; minishard_bits = 0; shard_bits = 0; kind = volume };
      volume = record { size = record { x = 0; y = 0; z = 0 }; chunk = record { x = 0; y = 0; z = 0 }; offset = zeros };
    }

-- "no scale k, a needed member missing, a used one doubled or of the wrong kind, another @type or a refused encoding"
unfoldable pub no_settings : Result Card SettingsError → Bool
no_settings (Ok c) = false
no_settings (Err UnknownHash) = false
no_settings (Err Wrong) = true

-- "an unknown hash name" (RULES I7)
unfoldable pub unknown_hash : Result Card SettingsError → Bool
unknown_hash (Ok c) = false
unknown_hash (Err UnknownHash) = true
unknown_hash (Err Wrong) = false

-- the record that settings give; where they give none, any record
unfoldable pub record_of : Result Card SettingsError → Card
record_of (Ok c) = c
record_of (Err UnknownHash) = any_record
record_of (Err Wrong) = any_record

-- "19 before 20, both before 1, which also answers an unknown hash name, then 2 and 3 as for a card": all but 19 (RULES I8)
unfoldable pub settings_checks : Result Card SettingsError → List Check
settings_checks w = check 20 (no_settings w) ∷ check 1 (unknown_hash w) ∷ record_checks (record_of w)

-- what a JSON text gets for scale k whose document this is
unfoldable pub said_answer : ℕ → Document deepest → Answer Card
said_answer k d = answered refuse (settings_checks (settings_in k d)) (Ok (record_of (settings_in k d)))

-- 19 speaks of the whole text and comes first (RULES I8)
unfoldable pub info_checks : List ℕ → ℕ → List Check
info_checks s k = check 19 (not (is_json deepest s)) ∷ settings_checks (settings_in k (document_found s))

unfoldable pub info_answer : List ℕ → ℕ → Answer Card
info_answer s k = answered refuse (info_checks s k) (Ok (record_of (settings_in k (document_found s))))
