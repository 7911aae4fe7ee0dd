-- The spans of a chunk's name (RULES G8).
use Rattle.std.specs.Prelude.{ℕ, List, ◌∷◌, ◌++◌, ℤ}
use Rattle.names.specs.digits.Signs.{sign_parts, signed_text}
use Rattle.names.specs.declared.chunks.inner.Span.{Span}

unfoldable pub span_of : ℤ → ℤ → Span
span_of b e = record { begin = sign_parts b; end = sign_parts e }

-- "xBegin-xEnd"
unfoldable pub span_text : Span → List ℕ
span_text s = signed_text s.begin ++ (45 ∷ signed_text s.end)

-- the spans of y and z, and of all three, with `_`, byte 95, between
unfoldable pub two_text : Span → Span → List ℕ
two_text y z = span_text y ++ (95 ∷ span_text z)

unfoldable pub spans_text : Span → Span → Span → List ℕ
spans_text x y z = span_text x ++ (95 ∷ two_text y z)
