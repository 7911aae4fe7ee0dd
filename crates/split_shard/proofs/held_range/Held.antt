-- 24, then the file that holds a range; and the part handed out.
use Prim.Native.Nat.{ℕ, ◌+◌, ◌-◌, ◌<◌, ◌≤◌}
use mathlib.Core.Path.{◌≡◌, refl}
use mathlib.Core.Bool.{Bool, true, false, ◌&&◌, or-true}
use mathlib.Core.List.{List, [], ◌∷◌}
use native.Mathlib.Omega.{arith}
use lib.Dec.{ltb}
use lib.ListN.{take, drop}
use mir.Val.{Fits}
use mir.Syntax.{w64}
use borrow.Author.Rules.{rules}
use borrow.Author.Tests.{lt-ltb, le-ltb, ltb-false}
use Rattle.refusal.specs.Choice.{pick}
use Rattle.refusal.specs.Checks.{check}
use Rattle.refusal.proofs.Picks.{by_picks}
use Rattle.refusal.proofs.Tests.{neither}
use Rattle.split_shard.specs.declared.held_range.RangeAnswer.{RangeAnswer}
use Rattle.split_shard.specs.declared.held_range.RangeAnswer.TheVariants.{InIndex, InData, Refused}
use Rattle.split_shard.specs.held_range.Held.{bad_range, held_range, range_in, either, range_start, range_bytes, Held}

-- ---- 24, as the code tests it

pub in_picks : (seam n start end : ℕ) → range_in seam n start end ≡ pick (bad_range seam n start end) (Refused 24) (held_range seam start end)
unfolding range_in
in_picks seam n start end = by_picks Refused (check 24 (bad_range seam n start end) ∷ []) (held_range seam start end) refl

module _ (seam n start end : ℕ) where
  pub in_reversed : end < start → Refused 24 ≡ range_in seam n start end
  unfolding bad_range
  in_reversed h = rw (in_picks seam n start end, lt-ltb end start h, or-true)

  module _ (o : start ≤ end) where
    pub in_past : n < end → Refused 24 ≡ range_in seam n start end
    unfolding bad_range
    in_past h = rw (in_picks seam n start end, le-ltb end start o, lt-ltb n end h, or-true)

    module _ (l : end ≤ n) where
      module _ (s : start < seam) where
        pub in_across : seam < end → Refused 24 ≡ range_in seam n start end
        unfolding bad_range
        in_across h = rw (in_picks seam n start end, lt-ltb start seam s, lt-ltb seam end h)

        pub in-index : end ≤ seam → InIndex start (end - start) ≡ range_in seam n start end
        unfolding bad_range held_range
        in-index h = rw (in_picks seam n start end, lt-ltb start seam s, le-ltb seam end h, le-ltb end start o, le-ltb n end l)

      pub in-data : seam ≤ start → InData (start - seam) (end - start) ≡ range_in seam n start end
      unfolding bad_range held_range
      in-data h = rw (in_picks seam n start end, le-ltb start seam h, le-ltb end start o, le-ltb n end l)

pub ruleset holding = (in_reversed, in_past, in_across, in-index, in-data, rules)

-- ---- what is handed out lies within its file

pub refused-held : (k i d : ℕ) → Held (Refused k) i d
refused-held k i d = record { inside = omega arith; fits = omega arith }

module _ (seam d start end : ℕ) where
  held_found : (b : Bool) → ltb start seam ≡ b → (b && ltb seam end) ≡ false → start ≤ end → end ≤ seam + d → seam + d < 18446744073709551616
      → Held (pick b (InIndex start (end - start)) (InData (start - seam) (end - start))) seam d
  held_found true e f o l s = let g = ltb-false seam end f in record { inside = omega arith; fits = omega arith }
  held_found false e f o l s = let g = ltb-false start seam e in record { inside = omega arith; fits = omega arith }

  pub held_in : (b : Bool) → bad_range seam (seam + d) start end ≡ b → seam + d < 18446744073709551616 → Held (pick b (Refused 24) (held_range seam start end)) seam d
  unfolding bad_range held_range
  held_in true e s = refused-held 24 seam d
  held_in false e s =
      let p = neither (ltb start seam && ltb seam end) _ e in
      let q = neither (ltb end start) _ p.1 in
      held_found (ltb start seam) refl p.0 (ltb-false _ _ q.0) (ltb-false _ _ q.1) s

-- as the code takes a part: r is what was found
module _ {r : RangeAnswer} {a k : ℕ} where
  module _ (q : r ≡ InIndex a k) where
    pub index-end : {i d : ℕ} → Held r i d → a + k ≤ i
    index-end h = rw q at h.inside

    pub index-fits : {i d : ℕ} → Held r i d → Fits w64 (a + k)
    index-fits h = record { fits = rw q at h.fits }

    pub index-bytes : (index d : List ℕ) → take (a + k - a) (drop a index) ≡ range_bytes r index d
    index-bytes index d = let same : a + k - a ≡ k = omega arith in rw (q, same)

    pub index-file : {A : Type 0} (x y : A) → x ≡ either r x y
    index-file x y = rw q

    pub index-place : (x y : ℕ) → a + x ≡ either r x y + range_start r
    index-place x y = rw q (omega arith)

  module _ (q : r ≡ InData a k) where
    pub data_end : {i d : ℕ} → Held r i d → a + k ≤ d
    data_end h = rw q at h.inside

    pub data_fits : {i d : ℕ} → Held r i d → Fits w64 (a + k)
    data_fits h = record { fits = rw q at h.fits }

    pub data_bytes : (index d : List ℕ) → take (a + k - a) (drop a d) ≡ range_bytes r index d
    data_bytes index d = let same : a + k - a ≡ k = omega arith in rw (q, same)

    pub data_file : {A : Type 0} (x y : A) → y ≡ either r x y
    data_file x y = rw q

    pub data_place : (x y : ℕ) → a + y ≡ either r x y + range_start r
    data_place x y = rw q (omega arith)

module _ {r : RangeAnswer} {n : ℕ} (q : r ≡ Refused n) where
  pub none-bytes : (index d : List ℕ) → [] ≡ range_bytes r index d
  none-bytes index d = rw q

  pub none-file : {A : Type 0} (x y : A) → y ≡ either r x y
  none-file x y = rw q

  pub none-place : (x y : ℕ) → 0 + y ≡ either r x y + range_start r
  none-place x y = rw q (omega arith)

pub ruleset parting = (index-end, index-fits, index-bytes, index-file, index-place, data_end, data_fits, data_bytes, data_file, data_place, none-bytes, none-file, none-place, rules)
