-- Laws of `Holds`: what stands at a place in a list.
use Prim.Native.Nat.{ℕ, zero, suc, ◌+◌, ◌^◌, ◌≤◌, ◌<◌}
use mathlib.Core.Path.{◌≡◌, sym, ap, ◌∙◌}
use mathlib.Core.List.{List, [], ◌∷◌, ◌++◌}
use native.Mathlib.Omega.{arith}
use native.Mathlib.Nat.{not-suc-le-zero}
use lib.ListN.{length, get_or, take, drop, length-append}
use lib.Seq.{take-append_seam, drop-append_seam, drop_at, drop-drop, take-add, take-take}
use Rattle.endian.specs.Little.{le, le_at, row, row_at, Fit}
use Rattle.endian.specs.Place.{Holds}
use Rattle.endian.proofs.Little.{le_at-drop, le_at-take, le_at-le, length-le}

pub holds-all : (a s b : List ℕ) → Holds (a ++ (s ++ b)) (length a) s
holds-all a s b = record { here = rw (drop-append_seam a (s ++ b)) (take-append_seam s b) }

-- ---- the two parts of what stands there

pub holds-left : {d : List ℕ} {p : ℕ} {s : List ℕ} (t : List ℕ) → Holds d p (s ++ t) → Holds d p s
holds-left {d} {p} {s} t h = record {
  here =
      sym (take-take (length s) (length (s ++ t)) (drop p d) (omega (arith, length-append s t)))
      ∙ ap (take (length s)) h.here ∙ take-append_seam s t;
}

pub holds_right : {d : List ℕ} {p : ℕ} (s : List ℕ) {t : List ℕ} → Holds d p (s ++ t) → Holds d (p + length s) t
holds_right {d} {p} s {t} h = record {
  here =
      ap (take (length t)) (sym (drop-drop (length s) p d))
      ∙ sym (drop_at (take (length s) (drop p d)) (take (length t) (drop (length s) (drop p d))) (length s) (ap length (holds-left {s = s} t h).here))
      ∙ ap (drop (length s)) (sym (take-add (length s) (length t) (drop p d)) ∙ ap (λ (n : ℕ). take n (drop p d)) (sym (length-append s t)) ∙ h.here)
      ∙ drop-append_seam s t;
}

-- the same place, counted in another way
pub holds_move : {d : List ℕ} {p q : ℕ} {s : List ℕ} → Holds d p s → p ≡ q → Holds d q s
holds_move h e = rw e at h

-- ---- numbers that stand there

pub holds-le_at : (k : ℕ) {d : List ℕ} {p : ℕ} {s : List ℕ} (i : ℕ) → Holds d p s → i + k ≤ length s → le_at k d (p + i) ≡ le_at k s i
holds-le_at k {d} {p} {s} i h g =
    sym (le_at-drop k d p i) ∙ sym (le_at-take k (drop p d) (length s) i g) ∙ ap (λ (x : List ℕ). le_at k x i) h.here

pub holds-number : (k : ℕ) {d : List ℕ} {p : ℕ} (n : ℕ) (b : List ℕ) → Holds d p (le k n ++ b) → n < 256 ^ k → le_at k d p ≡ n
holds-number k {d} n b h f =
    ap (le_at k d) (omega arith) ∙ holds-le_at k 0 h (omega (arith, length-append (le k n) b, length-le k n)) ∙ le_at-le k n b f

pub holds_row : {d : List ℕ} {p : ℕ} (ns : List ℕ) (i : ℕ) → Fit ns → Holds d p (row ns) → i < length ns → row_at d p i ≡ get_or ns i 0
unfolding row
holds_row [] i f h l = absurd (not-suc-le-zero l)
holds_row (n ∷ ns) zero f h l =
    holds-le_at 8 0 h (omega (arith, length-append (le 8 n) (row ns), length-le 8 n)) ∙ le_at-le 8 n (row ns) f.0
holds_row {d = d} {p = p} (n ∷ ns) (suc i) f h l =
    ap (le_at 8 d) (omega (arith, length-le 8 n)) ∙ holds_row {p = p + length (le 8 n)} ns i f.1 (holds_right (le 8 n) h) (omega arith)
