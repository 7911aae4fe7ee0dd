-- A loop that writes f of each element of a list: what is left to write, written over what stands there now, gives what is to stand there in the end.
use Prim.Native.Nat.{ℕ, zero, suc, ◌+◌, ◌≤◌, ◌<◌}
use mathlib.Core.Path.{◌≡◌, sym, ap, ◌∙◌}
use mathlib.Core.List.{List, [], ◌∷◌, map}
use native.Mathlib.Omega.{arith}
use lib.ListN.{length, set, drop}
use lib.Seq.{drop-nil}
use Rattle.endian.specs.Place.{paste}
use Rattle.endian.proofs.Paste.{paste-nil, paste-cons}

pub drop_all : {A : Type 0} (l : List A) (i : ℕ) → length l ≤ i → drop i l ≡ []
drop_all [] i h = drop-nil i
drop_all (x ∷ l) (suc i) h = drop_all l i (omega arith)
drop_all {A = A} (x ∷ l) zero h = elim h [ ]

module _ {A : Type 0} (f : A → ℕ) (xs : List A) (i : ℕ) (d : List ℕ) {e : List ℕ} (h : paste i (map f (drop i xs)) d ≡ e) where
  -- x is the element at i, v what is written for it
  pub map_next : {x : A} {v : ℕ} → drop i xs ≡ x ∷ drop (i + 1) xs → v ≡ f x → i < length d → paste (i + 1) (map f (drop (i + 1) xs)) (set d i v) ≡ e
  map_next {x} {v} l w m =
      let p : map f (drop i xs) ≡ v ∷ map f (drop (i + 1) xs) = rw (l, w) in
      paste-cons i v (map f (drop (i + 1) xs)) d m ∙ ap (λ (y : List ℕ). paste i y d) (sym p) ∙ h

-- past the last element nothing is left to write
pub map_past : {A : Type 0} (f : A → ℕ) (xs : List A) (i : ℕ) (d : List ℕ) → length xs ≤ i → paste i (map f (drop i xs)) d ≡ d
map_past f xs i d l = rw (drop_all xs i l) (paste-nil i d)
