-- What a JSON text says, as it is computed: by places in the text.
use Rattle.std.specs.Prelude.{ℕ, zero, suc, ◌+◌, true, false, List, map, eqb}
use Rattle.refusal.specs.Choice.{pick}
use Rattle.json_text.specs.tokens.Bytes.{byte_at, is_digit}
use Rattle.json_text.specs.tokens.Parts.{ws}
use Rattle.json_text.specs.strings.Names.{text_at}
use Rattle.json_text.specs.Grammar.{deepest}
use Rattle.json_text.specs.members.Places.{elements, members, value_of}
use Rattle.info.specs.numbers.Numbers.{whole_from}
use Rattle.info.specs.document.Document.{DocumentOf, Document}
use Rattle.info.specs.document.Document.DocumentOf.{word, number, string, array, object}

unfoldable pub said_number_at : {D : Type 0} → List ℕ → ℕ → DocumentOf D
said_number_at s p =
    pick (eqb (byte_at s p) 0x2D) (number true (whole_from s (p + 1)))
    (pick (is_digit (byte_at s p)) (number false (whole_from s p)) word)

-- what the value at p says, to a depth of d
unfoldable pub document_at : (d : ℕ) → List ℕ → ℕ → Document d
document_at zero s p = tt
document_at (suc d) s p =
    pick (eqb (byte_at s p) 0x22) (string (text_at s p))
    (pick (eqb (byte_at s p) 0x5B) (array (map (document_at d s) (elements s p)))
    (pick (eqb (byte_at s p) 0x7B) (object (map (λ m. record { name = text_at s m; value = document_at d s (value_of s m) }) (members s p)))
    (said_number_at s p)))

-- what the whole text says
unfoldable pub document_found : List ℕ → Document deepest
document_found s = document_at deepest s (ws s 0)
