-- The header and the fields of a manifest. Each call judges 15, 16 and 17 first; 18 is the field's own.
use Rattle.std.specs.Prelude.{ℕ, not, List, [], ◌∷◌, ◌++◌, ltb, Ok, Err}
use Rattle.std.specs.Float.{binary32}
use Rattle.std.specs.Float.Ieee.{to_bits}
use Rattle.refusal.specs.Choice.{pick}
use Rattle.refusal.specs.Checks.{Check, check, answered}
use Rattle.refusal.specs.Result.{Result, success, refused}
use Rattle.mesh_manifest.specs.layout.Layout.{manifest_item, levels_of, is_real_of, field_count}
use Rattle.mesh_manifest.specs.layout.Bits.{real_at}
use Rattle.mesh_manifest.specs.sound.Verdict.{manifest_checks}
use Rattle.mesh_manifest.specs.declared.Header.{Header}
use Rattle.refusal.specs.Answers.{Answer, refuse}
use Rattle.refusal.specs.Table.{number_of}
use Rattle.mesh_manifest.specs.declared.Field.{Field}
use Rattle.mesh_manifest.specs.declared.Field.TheVariants as F

-- chunk shape and grid origin: the first six items (RULES M6)
unfoldable pub header_at : List ℕ → Header
header_at s =
    record {
      shape_x = real_at s 0;
      shape_y = real_at s 1;
      shape_z = real_at s 2;
      origin_x = real_at s 3;
      origin_y = real_at s 4;
      origin_z = real_at s 5;
    }

unfoldable pub header_answer : List ℕ → Answer Header
header_answer s = answered refuse (manifest_checks s) (Ok (header_at s))

abbrev pub header_result : Answer Header → Result Header
header_result (Ok header) = success header
header_result (Err k) = refused (number_of k)

-- "A field asked for by number is answered as a real or as a whole number, by its kind." (RULES M6)
unfoldable pub field_at : List ℕ → ℕ → Field
field_at s i = pick (is_real_of (levels_of s) i) (F.Real (real_at s i)) (F.Whole (manifest_item s i))

-- 18: "no such .. field"
unfoldable pub field_checks : List ℕ → ℕ → List Check
field_checks s i = manifest_checks s ++ (check 18 (not (ltb i (field_count s))) ∷ [])

unfoldable pub field_answer : List ℕ → ℕ → Answer Field
field_answer s i = answered refuse (field_checks s i) (Ok (field_at s i))

-- its kind, 1 for a real and 0 for a whole number; and the number, of a real that of its pattern
abbrev pub field_result : Answer Field → Result (ℕ × ℕ)
field_result (Ok (F.Real x)) = success (1, to_bits binary32 x)
field_result (Ok (F.Whole n)) = success (0, n)
field_result (Err k) = refused (number_of k)
