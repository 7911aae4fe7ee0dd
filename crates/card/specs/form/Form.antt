-- Which bytes are a deposit card (RULES C2).
use Rattle.std.specs.Prelude.{ℕ, Bool, false, ◌&&◌, List, eqb, length}
use Rattle.refusal.specs.Choice.{pick}
use Rattle.card.specs.fields.Fields.{six_fields, offset_field, kind_field}

-- "A card has 46 or 61 bytes", without an offset or with one, and "a mesh card has 50 or 65 bytes"; "all else is refused" (RULES C2)
unfoldable pub well_formed : List ℕ → Bool
well_formed s =
    pick (eqb (length s) 46) (six_fields s)
    (pick (eqb (length s) 61) (six_fields s && offset_field s)
    (pick (eqb (length s) 50) (six_fields s && kind_field s 46)
    (pick (eqb (length s) 65) (six_fields s && (offset_field s && kind_field s 61)) false)))
