-- What the writers of names need: two texts with a byte between, and the answer.
use Prim.Native.Nat.{ℕ, ◌+◌, ◌≤◌, ◌<◌}
use mathlib.Core.Path.{◌≡◌, refl, sym, ◌∙◌}
use mathlib.Core.List.{List, [], ◌∷◌, ◌++◌, append_assoc}
use native.Mathlib.Omega.{arith}
use borrow.Author.Rules.{rules}
use lib.ListN.{length, length-append}
use mir.Syntax.{w64}
use mir.Val.{Fits}
use Rattle.endian.specs.Place.{paste}
use Rattle.refusal.specs.Buffer.{written}
use Rattle.std.specs.Prelude.{Ok}
use Rattle.endian.proofs.Buffer.{too_long_lem, kept_whole, how_long, at_front}
use Rattle.endian.proofs.Paste.{paste-then, length-paste}

-- ---- two texts with a byte between

module _ (xs ys : List ℕ) (x : ℕ) where
  total : length (xs ++ (x ∷ ys)) ≡ length xs + 1 + length ys
  total = rw length-append (omega arith)

  pub length_three : (a b : ℕ) → a ≡ length xs → b ≡ length ys → a + 1 + b ≡ length (xs ++ (x ∷ ys))
  length_three a b p q = omega (arith, total)

  module _ (at : ℕ) (d : List ℕ) (l : at + length (xs ++ (x ∷ ys)) ≤ length d) where
    pub first-room : at + length xs ≤ length d
    first-room = omega (arith, total)

    pub between-fits : (m : ℕ) → m ≡ at + length xs → Fits w64 (length d) → Fits w64 (m + 1)
    between-fits m p f = omega (arith, total)

    module _ (m : ℕ) (e : List ℕ) (p : m ≡ at + length xs) (q : e ≡ paste at xs d) where
      as_long : length e ≡ length d
      as_long = rw q (length-paste at xs d first-room)

      pub between-room : m < length e
      between-room = omega (arith, total, as_long)

      module _ (g : List ℕ) (v : g ≡ paste m (x ∷ []) e) where
        so_long : length g ≡ length d
        so_long = rw v (length-paste m (x ∷ []) e (omega (arith, between-room)) ∙ as_long)

        pub second-room : m + 1 + length ys ≤ length g
        second-room = omega (arith, total, so_long)

        pub all-put : (s : List ℕ) → s ≡ paste (m + 1) ys g → s ≡ paste at (xs ++ (x ∷ ys)) d
        all-put s w =
            let i : g ≡ paste at (xs ++ (x ∷ [])) d = paste-then at m xs (x ∷ []) d q v (sym p) first-room in
            let n : length (xs ++ (x ∷ [])) ≡ length xs + 1 = rw length-append refl in
            paste-then at (m + 1) (xs ++ (x ∷ [])) ys d i w (omega arith) (omega (arith, total)) ∙ rw append_assoc refl

        pub all_end : (r : ℕ) → r ≡ m + 1 + length ys → r ≡ at + length (xs ++ (x ∷ ys))
        all_end r w = omega (arith, total)

pub ruleset joining = (length_three, first-room, between-fits, between-room, second-room, all-put, all_end, rules)

-- ---- a text written at the front of a buffer

module _ (s d : List ℕ) (n : ℕ) (e : n ≡ length s) (h : n ≤ length d) where
  pub front-room : 0 + length s ≤ length d
  front-room = omega arith

  pub front-end : (k : ℕ) → k ≡ 0 + length s → Ok k ≡ written s d
  front-end k q = how_long s d k (omega arith) (omega arith)

pub ruleset fronting = (too_long_lem, kept_whole, front-room, front-end, at_front, rules)
