-- Each way out of a function, shaped like its needs.
use Prim.Native.Nat.{ℕ, ◌/◌, ◌≤◌, ◌<◌}
use mathlib.Core.Path.{◌≡◌}
use native.Mathlib.Omega.{arith}
use lib.IntN.{ℤ}
use borrow.Author.Rules.{rules}
use mir.Syntax.{w32, w64}
use mir.Val.{SFits, to_z, of_z}
use mir.Facts.{to_z-of_z}
use Rattle.morton.specs.declared.bounds.Point.{Point}
use Rattle.morton.specs.declared.grid.Volume.{Volume}
use Rattle.morton.specs.grid.Grid.{grid_size}
use Rattle.morton.specs.axis.Axis.{AxisBits}
use Rattle.morton.proofs.grid.Ways.{chunk-x, chunk-y, chunk-z}
use Rattle.cover.specs.declared.overlap.Along.{Along}
use Rattle.cover.specs.overlap.Marked.{before, Spans, Whole}
use Rattle.cover.proofs.overlap.Wholes.{span_none, span-some, whole_is}

-- ---- spans
module _ (o : ℤ) (size chunk : ℕ) (lower upper : ℤ) (some : 0 < chunk) (fo : SFits w32 o) (fl : SFits w64 lower) (fu : SFits w64 upper)
    {g bits m w : ℕ} (eg : g ≡ grid_size size chunk) (b : AxisBits g bits)
    (em : m ≡ before (to_z w32 (of_z w32 o)) size (to_z w64 (of_z w64 lower))) (ew : w ≡ before (to_z w32 (of_z w32 o)) size (to_z w64 (of_z w64 upper))) where
  m_is : m ≡ before o size lower
  m_is = rw (to_z-of_z fo, to_z-of_z fl) at em

  w_is : w ≡ before o size upper
  w_is = rw (to_z-of_z fo, to_z-of_z fu) at ew

  pub none_spanned : w ≤ m → Spans o size chunk lower upper (record { bits = bits; from = 0; to = 0 })
  none_spanned h = span_none o size chunk lower upper some (rw eg at b) (omega (arith, m_is, w_is))

  pub some_spanned : m < w → {t : ℕ} → t ≡ grid_size w chunk → Spans o size chunk lower upper (record { bits = bits; from = m / chunk; to = t })
  some_spanned h et = rw (et, w_is, m_is) (span-some o size chunk lower upper some (rw eg at b) (omega (arith, m_is, w_is)))

module _ (v : Volume) (lower upper : Point) (ox : SFits w32 v.offset.x) (oy : SFits w32 v.offset.y) (oz : SFits w32 v.offset.z)
    (lx : SFits w64 lower.x) (ly : SFits w64 lower.y) (lz : SFits w64 lower.z)
    (ux : SFits w64 upper.x) (uy : SFits w64 upper.y) (uz : SFits w64 upper.z) where
  pub whole-made : {x y z : Along}
      → Spans (to_z w32 (of_z w32 v.offset.x)) v.size.x v.chunk.x (to_z w64 (of_z w64 lower.x)) (to_z w64 (of_z w64 upper.x)) x
      → Spans (to_z w32 (of_z w32 v.offset.y)) v.size.y v.chunk.y (to_z w64 (of_z w64 lower.y)) (to_z w64 (of_z w64 upper.y)) y
      → Spans (to_z w32 (of_z w32 v.offset.z)) v.size.z v.chunk.z (to_z w64 (of_z w64 lower.z)) (to_z w64 (of_z w64 upper.z)) z
      → Whole v lower upper (record { x = x; y = y; z = z })
  whole-made sx sy sz =
      whole_is v lower upper _ (rw (to_z-of_z ox, to_z-of_z lx, to_z-of_z ux) at sx) (rw (to_z-of_z oy, to_z-of_z ly, to_z-of_z uy) at sy)
      (rw (to_z-of_z oz, to_z-of_z lz, to_z-of_z uz) at sz)

pub ruleset spanning = (none_spanned, some_spanned, whole-made, chunk-x, chunk-y, chunk-z, rules)
