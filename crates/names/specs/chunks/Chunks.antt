-- The name of an unsharded chunk (RULES G8).
use Rattle.std.specs.Prelude.{ℕ, List, [], ◌∷◌, length, Ok}
use Rattle.refusal.specs.Checks.{Check, check, answered, left}
use Rattle.refusal.specs.Buffer.{room, over}
use Rattle.refusal.specs.Answers.{Answer, refuse}
use Rattle.morton.specs.grid.Answers.{no_cell}
use Rattle.morton.specs.bounds.Bounds.{bounds_of}
use Rattle.morton.specs.declared.bounds.Bounds.{Bounds}
use Rattle.morton.specs.declared.grid.Cell.{Cell}
use Rattle.morton.specs.declared.grid.Volume.{Volume}
use Rattle.names.specs.chunks.Spans.{span_of, spans_text}

-- "xBegin-xEnd_yBegin-yEnd_zBegin-zEnd"
unfoldable pub bounds_name : Bounds → List ℕ
bounds_name b =
    spans_text
    (span_of b.begin.x b.end.x)
    (span_of b.begin.y b.end.y)
    (span_of b.begin.z b.end.z)

-- RULES G8
unfoldable pub chunk_name : Volume → Cell → List ℕ
chunk_name v c = bounds_name (bounds_of v c)

-- the refusals of `chunk_name`: 2, then 13
unfoldable pub chunk_name_checks : Volume → Cell → List ℕ → List Check
chunk_name_checks v c out = check 2 (no_cell v c) ∷ room (chunk_name v c) out ∷ []

-- it answers the name's length
unfoldable pub chunk_name_answer : Volume → Cell → List ℕ → Answer ℕ
chunk_name_answer v c out = answered refuse (chunk_name_checks v c out) (Ok (length (chunk_name v c)))

-- and leaves the name at the front of the buffer
unfoldable pub chunk_name_left : Volume → Cell → List ℕ → List ℕ
chunk_name_left v c out = left (chunk_name_checks v c out) (over (chunk_name v c) out) out
