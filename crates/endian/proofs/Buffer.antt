-- Laws of answers written into lent buffers: the two cases, and what a write at the front leaves.
use Prim.Native.Nat.{ℕ, ◌≤◌, ◌<◌}
use mathlib.Core.Path.{◌≡◌, refl, sym, ap, ◌∙◌}
use mathlib.Core.List.{List, [], ◌∷◌, ◌++◌}
use native.Mathlib.Omega.{arith}
use lib.ListN.{length, drop}
use borrow.Author.Tests.{lt-ltb, le-ltb}
use Rattle.endian.specs.Place.{paste}
use Rattle.refusal.specs.Buffer.{room, over, written, left_by}
use Rattle.refusal.proofs.Picks.{by_picks}
use Rattle.std.specs.Prelude.{Ok}
use Rattle.refusal.specs.Answers.{refuse}
use Rattle.endian.proofs.Paste.{paste-front}

module _ (s out : List ℕ) where
  pub written-short : length out < length s → written s out ≡ refuse 13
  unfolding written
  written-short h = by_picks refuse (room s out ∷ []) (Ok (length s)) refl ∙ rw (lt-ltb _ _ h)

  pub left_by-short : length out < length s → left_by s out ≡ out
  unfolding left_by
  left_by-short h = by_picks (λ k. out) (room s out ∷ []) (over s out) refl ∙ rw (lt-ltb _ _ h)

  pub written-fits : length s ≤ length out → written s out ≡ Ok (length s)
  unfolding written
  written-fits h = by_picks refuse (room s out ∷ []) (Ok (length s)) refl ∙ rw (le-ltb _ _ h)

  pub left_by-fits : length s ≤ length out → left_by s out ≡ s ++ drop (length s) out
  unfolding left_by
  left_by-fits h = by_picks (λ k. out) (room s out ∷ []) (over s out) refl ∙ rw (le-ltb _ _ h)

  -- the text pasted at the front
  pub left_by-paste : length s ≤ length out → paste 0 s out ≡ left_by s out
  left_by-paste h = paste-front s out (length s) refl ∙ sym (left_by-fits h)

-- of s, n bytes long, written at the front of d: each law has the shape of a need
module _ (s d : List ℕ) (n : ℕ) (e : n ≡ length s) where
  pub too_long_lem : length d < n → refuse 13 ≡ written s d
  too_long_lem h = sym (written-short s d (omega arith))

  pub kept_whole : length d < n → d ≡ left_by s d
  kept_whole h = sym (left_by-short s d (omega arith))

  module _ (h : n ≤ length d) where
    pub how_long : Ok n ≡ written s d
    how_long = sym (written-fits s d (omega arith) ∙ ap Ok (sym e))

    pub at_front : (r : List ℕ) → r ≡ paste 0 s d → r ≡ left_by s d
    at_front r q = q ∙ left_by-paste s d (omega arith)
