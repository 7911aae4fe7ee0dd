-- Signed numbers in locals: what a local's bits read back as, and what fits. Each law has the shape of a need.
use Prim.Native.Nat.{ℕ, suc, ◌+◌, ◌*◌, ◌<◌, min}
use mathlib.Core.Path.{◌≡◌, sym, ap, ap₂, ◌∙◌, subst}
use mathlib.Core.Bool.{Bool, true, false, cond}
use native.Mathlib.Omega.{arith}
use lib.Dec.{ltb}
use lib.IntN.{ℤ, pos, negsuc, ◌+ℤ◌}
use lib.Signed.{mag}
use mir.Syntax.{w32, w64}
use mir.Val.{Fits, SFits, to_z, of_z}
use mir.Facts.{to_z-of_z, to_z_pos, sfits_widen}
use Rattle.morton.specs.declared.grid.Cell.{Cell}
use Rattle.morton.specs.declared.grid.Volume.{Volume}
use Rattle.morton.specs.declared.bounds.Point.{Point}
use Rattle.morton.specs.bounds.Bounds.{cell_begin, cell_end, begin_point, end_point}

mag_cond : (t : Bool) (a b k : ℕ) → a < k → b < k → mag (cond t (negsuc a) (pos b)) < k
mag_cond true a b k p q = p
mag_cond false a b k p q = q

mag_sum : (z : ℤ) (n : ℕ) → mag z < 2147483648 → n < 4294967296 → mag (z +ℤ pos n) < 9223372036854775808
mag_sum (pos a) n p q = omega arith
mag_sum (negsuc a) n p q = mag_cond (ltb n (suc a)) _ _ _ (omega arith) (omega arith)

-- an i32 and a u32's worth more
pub sum_fits : {z : ℤ} {n : ℕ} → SFits w32 z → n < 4294967296 → SFits w64 (z +ℤ pos n)
sum_fits {z} {n} p q = record { sfits = mag_sum z n p.sfits q }

-- an i32 as an i64
pub widened : {z : ℤ} → SFits w32 z → SFits w64 (to_z w32 (of_z w32 z))
widened p = rw (to_z-of_z p) (sfits_widen tt p)

wide_is : {z : ℤ} → SFits w32 z → to_z w64 (of_z w64 (to_z w32 (of_z w32 z))) ≡ z
wide_is p = to_z-of_z (widened p) ∙ to_z-of_z p

small_is : {n : ℕ} → n < 4294967296 → to_z w64 n ≡ pos n
small_is {n} q = to_z_pos w64 (omega arith)

wide_sum : {z : ℤ} {n : ℕ} → SFits w32 z → n < 4294967296 → to_z w64 (of_z w64 (to_z w32 (of_z w32 z))) +ℤ to_z w64 n ≡ z +ℤ pos n
wide_sum p q = ap₂ ◌+ℤ◌ (wide_is p) (small_is q)

pub wide_sum-fits : {z : ℤ} {n : ℕ} → SFits w32 z → n < 4294967296 → SFits w64 (to_z w64 (of_z w64 (to_z w32 (of_z w32 z))) +ℤ to_z w64 n)
wide_sum-fits p q = subst (SFits w64) (sym (wide_sum p q)) (sum_fits p q)

pub wide_sum-is : {z : ℤ} {n : ℕ} → SFits w32 z → n < 4294967296
    → to_z w64 (of_z w64 (to_z w64 (of_z w64 (to_z w32 (of_z w32 z))) +ℤ to_z w64 n)) ≡ z +ℤ pos n
wide_sum-is p q = to_z-of_z (wide_sum-fits p q) ∙ wide_sum p q

-- ---- one axis of a cell
module _ (o : ℤ) (fo : SFits w32 o) where
  -- what `past` gives, stored
  stored : (n : ℕ) (r : ℤ) → n < 4294967296 → r ≡ to_z w32 (of_z w32 o) +ℤ pos n → to_z w64 (of_z w64 r) ≡ o +ℤ pos n
  stored n r l e =
      let p : r ≡ o +ℤ pos n = rw (to_z-of_z fo) at e in
      let f : SFits w64 r = rw p (sum_fits fo l) in
      to_z-of_z f ∙ p

  module _ (size chunk g : ℕ) (fs : Fits w32 size) (r : ℤ) where
    pub begins : g * chunk < size → r ≡ to_z w32 (of_z w32 o) +ℤ pos (g * chunk) → to_z w64 (of_z w64 r) ≡ cell_begin o chunk g
    unfolding cell_begin
    begins h e = stored (g * chunk) r (omega arith) e

    pub ends : {n : ℕ} → n ≡ min ((g + 1) * chunk) size → r ≡ to_z w32 (of_z w32 o) +ℤ pos n → to_z w64 (of_z w64 r) ≡ cell_end o size chunk g
    unfolding cell_end
    ends {n} m e = stored n r (omega arith) e ∙ ap (λ (n : ℕ). o +ℤ pos n) m

-- ---- three axes
read_back : {o r : ℤ} (f : ℤ → ℤ) → SFits w32 o → SFits w64 r → r ≡ f (to_z w32 (of_z w32 o)) → to_z w64 (of_z w64 r) ≡ f o
read_back f p q e = to_z-of_z q ∙ e ∙ ap f (to_z-of_z p)

module _ (v : Volume) (c : Cell) {x y z : ℤ} (fx : SFits w64 x) (fy : SFits w64 y) (fz : SFits w64 z)
    (ox : SFits w32 v.offset.x) (oy : SFits w32 v.offset.y) (oz : SFits w32 v.offset.z) where
  pub begin-made : x ≡ cell_begin (to_z w32 (of_z w32 v.offset.x)) v.chunk.x c.x
      → y ≡ cell_begin (to_z w32 (of_z w32 v.offset.y)) v.chunk.y c.y
      → z ≡ cell_begin (to_z w32 (of_z w32 v.offset.z)) v.chunk.z c.z
      → ◌≡◌ {A = Point} (record { x = to_z w64 (of_z w64 x); y = to_z w64 (of_z w64 y); z = to_z w64 (of_z w64 z) }) (begin_point v c)
  unfolding begin_point
  begin-made ex ey ez =
      let px = read_back (λ o. cell_begin o v.chunk.x c.x) ox fx ex in
      let py = read_back (λ o. cell_begin o v.chunk.y c.y) oy fy ey in
      let pz = read_back (λ o. cell_begin o v.chunk.z c.z) oz fz ez in
      λ t. record { x = px t; y = py t; z = pz t }

  pub end-made : x ≡ cell_end (to_z w32 (of_z w32 v.offset.x)) v.size.x v.chunk.x c.x
      → y ≡ cell_end (to_z w32 (of_z w32 v.offset.y)) v.size.y v.chunk.y c.y
      → z ≡ cell_end (to_z w32 (of_z w32 v.offset.z)) v.size.z v.chunk.z c.z
      → ◌≡◌ {A = Point} (record { x = to_z w64 (of_z w64 x); y = to_z w64 (of_z w64 y); z = to_z w64 (of_z w64 z) }) (end_point v c)
  unfolding end_point
  end-made ex ey ez =
      let px = read_back (λ o. cell_end o v.size.x v.chunk.x c.x) ox fx ex in
      let py = read_back (λ o. cell_end o v.size.y v.chunk.y c.y) oy fy ey in
      let pz = read_back (λ o. cell_end o v.size.z v.chunk.z c.z) oz fz ez in
      λ t. record { x = px t; y = py t; z = pz t }
