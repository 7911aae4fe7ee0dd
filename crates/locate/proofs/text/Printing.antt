-- What the functions that read a card's length and print a block need, and that they print what the definitions over a card say.
use Prim.Native.Nat.{ℕ, zero, suc, ◌+◌, ◌-◌, ◌*◌, ◌/◌, ◌%◌, ◌≤◌, ◌<◌}
use mathlib.Core.Path.{◌≡◌, refl, sym, ap, ◌∙◌}
use mathlib.Core.Bool.{Bool, true, false, not, ◌||◌, false≢true}
use mathlib.Core.List.{List, [], ◌++◌, append-nil}
use native.Mathlib.Omega.{arith}
use borrow.Author.Rules.{rules}
use borrow.Author.Tests.{eqb-true, lt-ltb, le-ltb, eq-eqb, ne_eqb}
use lib.Dec.{eqb}
use lib.ListN.{length, length-append}
use Rattle.refusal.specs.Choice.{pick}
use Rattle.refusal.proofs.Tests.{told-no, told-yes}
use Rattle.endian.specs.Little.{le, le_at}
use Rattle.endian.specs.Place.{paste}
use Rattle.endian.proofs.Paste.{paste-then}
use Rattle.morton.specs.grid.Grid.{grid_of, zero_extent, in_grid}
use Rattle.morton.specs.Key.{key_bits_of, key_of}
use Rattle.morton.specs.grid.Answers.{no_cell}
use Rattle.morton.specs.declared.grid.Cell.{Cell}
use Rattle.morton.specs.declared.grid.Extents.{Extents}
use Rattle.std.specs.Prelude.{Ok}
use Rattle.refusal.specs.Answers.{Answer, refuse}
use Rattle.morton.proofs.Answered.{key_by_picks}
use Rattle.morton.proofs.Laws.{few_bits}
use Rattle.sharding.specs.placement.Place.{place_of}
use Rattle.sharding.specs.Specification.{allowed}
use Rattle.sharding.specs.declared.Sharding.{Sharding}
use Rattle.card.specs.declared.Card.{Card}
use Rattle.card.specs.Answers.{fault, read_answer}
use Rattle.card.proofs.Judged.{faultless}
use Rattle.locate.specs.lines.Lines.{refused_line, keyed, line_for, line_of, line_in, line_room}
use Rattle.locate.specs.lines.Cells.{cell_at, lines_by}
use Rattle.locate.specs.text.Output.{cut_line, cut_after, text_by, cells_text, framed}
use Rattle.locate.specs.text.Blocks.{is_card_length, card_length}
use Rattle.locate.specs.text.Ends.{told_bytes}

-- ---- a card's length, and a card of that length
pub is-length : (n : ℕ) → (eqb n 46 || (eqb n 61 || (eqb n 50 || eqb n 65))) ≡ is_card_length n
unfolding is_card_length
is-length n = refl

most_of : (n : ℕ) (a b c d : Bool) → eqb n 46 ≡ a → eqb n 61 ≡ b → eqb n 50 ≡ c → eqb n 65 ≡ d → a || (b || (c || d)) ≡ true → n ≤ 65
most_of n true b c d p q r t e = omega (arith, eqb-true n 46 p)
most_of n false true c d p q r t e = omega (arith, eqb-true n 61 q)
most_of n false false true d p q r t e = omega (arith, eqb-true n 50 r)
most_of n false false false true p q r t e = omega (arith, eqb-true n 65 t)
most_of n false false false false p q r t e = absurd (false≢true e)

pub length_most : (n : ℕ) {b : Bool} → b ≡ is_card_length n → not b ≡ false → n ≤ 65
unfolding is_card_length
length_most n eb t = most_of n (eqb n 46) (eqb n 61) (eqb n 50) (eqb n 65) refl refl refl refl (told-yes eb t)

module _ (s : List ℕ) where
  pub length-short : length s < 2 → 0 ≡ card_length s
  unfolding card_length
  length-short h = rw (lt-ltb (length s) 2 h)

  module _ (h : 2 ≤ length s) {n : ℕ} (e : n ≡ le_at 2 s 0) where
    module _ {b : Bool} (eb : b ≡ is_card_length n) where
      pub length-said : not b ≡ false → n ≡ card_length s
      unfolding card_length
      length-said t = rw (le-ltb (length s) 2 h, ← e, told-yes eb t)

      pub length_none : not b ≡ true → 0 ≡ card_length s
      unfolding card_length
      length_none t = rw (le-ltb (length s) 2 h, ← e, told-no eb t)

  pub framed_14 : {n : ℕ} → (length s ≡ n → ⊥) → refuse 14 ≡ framed n s
  unfolding framed
  framed_14 {n} f = rw (ne_eqb (length s) n f)

  pub framed-read : {n : ℕ} → length s ≡ n → {r : Answer Card} → r ≡ read_answer s → r ≡ framed n s
  unfolding framed
  framed-read {n} e p = rw (eq-eqb (length s) n e) p

pub ruleset framing = (is-length, length-short, length-said, length_most, length_none, framed_14, framed-read, rules)

-- ---- an input that could not be read on
module _ (got : ℕ) {r : Bool} where
  pub told-all : r ≡ true → got ≡ told_bytes got r
  unfolding told_bytes
  told-all e = rw e

  pub told-whole : r ≡ false → got - got % 12 ≡ told_bytes got r
  unfolding told_bytes
  told-whole e = rw e

pub ruleset ending = (told-all, told-whole, rules)

-- ---- the cut
pub cut-put : (at : ℕ) (d : List ℕ) {e : List ℕ} → e ≡ paste at (le 4 0x0a747563) d → e ≡ paste at cut_line d
unfolding le
cut-put at d u = u

module _ (f : Cell → List ℕ) (s : List ℕ) (m : ℕ) (em : m ≡ length (lines_by f (length s / 12) s 0)) where
  whole : length s % 12 ≡ 0 → text_by f s ≡ lines_by f (length s / 12) s 0 ++ []
  unfolding text_by cut_after
  whole z = rw (eq-eqb (length s % 12) 0 z)

  cut : (length s % 12 ≡ 0 → ⊥) → text_by f s ≡ lines_by f (length s / 12) s 0 ++ cut_line
  unfolding text_by cut_after
  cut z = rw (ne_eqb (length s % 12) 0 z)

  pub whole_length_lem : length s % 12 ≡ 0 → m ≡ length (text_by f s)
  whole_length_lem z = omega (arith, ap length (whole z), length-append (lines_by f (length s / 12) s 0) [])

  pub cut-length : (length s % 12 ≡ 0 → ⊥) → {r : ℕ} → r ≡ m + 4 → r ≡ length (text_by f s)
  cut-length z p = omega (arith, ap length (cut z), length-append (lines_by f (length s / 12) s 0) cut_line)

  module _ (h : m ≤ line_room * (length s / 12)) where
    pub whole-most : m ≤ line_room * (length s / 12) + 4
    whole-most = omega arith

    pub cut_most : {r : ℕ} → r ≡ m + 4 → r ≤ line_room * (length s / 12) + 4
    cut_most e = omega arith

  module _ (d : List ℕ) {e : List ℕ} (u : e ≡ paste 0 (lines_by f (length s / 12) s 0) d) where
    pub whole-put : length s % 12 ≡ 0 → e ≡ paste 0 (text_by f s) d
    whole-put z = u ∙ ap (λ (l : List ℕ). paste 0 l d) (sym (whole z ∙ append-nil (lines_by f (length s / 12) s 0)))

    pub cut_all : (length s % 12 ≡ 0 → ⊥) → m ≤ line_room * (length s / 12) → line_room * (length s / 12) + 4 ≤ length d → {g : List ℕ} → g ≡ paste m cut_line e → g ≡ paste 0 (text_by f s) d
    cut_all z k h v =
        paste-then 0 m (lines_by f (length s / 12) s 0) cut_line d u v (omega arith) (omega arith)
        ∙ ap (λ (l : List ℕ). paste 0 l d) (sym (cut z))

pub ruleset cutting = (cut-put, whole_length_lem, cut-length, whole-most, cut_most, whole-put, cut_all, rules)

-- ---- as the definitions over a card say, of one that was judged
picked_line : (spec : Sharding) (k : ℕ) (b : Bool)
    → pick b (keyed spec k (place_of spec k)) (refused_line 2) ≡ line_for spec (pick (not b) (refuse 2) (Ok k))
unfolding line_for
picked_line spec k true = refl
picked_line spec k false = refl

lines_same : (f g : Cell → List ℕ) → ((cell : Cell) → f cell ≡ g cell) → (n : ℕ) (s : List ℕ) (p : ℕ) → lines_by f n s p ≡ lines_by g n s p
unfolding lines_by
lines_same f g h zero s p = refl
lines_same f g h (suc n) s p = rw (h (cell_at s p), lines_same f g h n s (p + 12))

module _ (c : Card) (e : fault c ≡ 0) where
  pub is-allowed : allowed c.sharding ≡ true
  is-allowed = (faultless c e).0

  pub no_zero : zero_extent c.volume ≡ false
  no_zero = (faultless c e).1

  line_is : (cell : Cell) → line_in c.sharding (grid_of c.volume) cell ≡ line_of c cell
  unfolding line_in line_of no_cell
  line_is cell =
      rw (key_by_picks c.volume cell, no_zero, (faultless c e).2)
      (picked_line c.sharding (key_of (grid_of c.volume) cell) (in_grid (grid_of c.volume) cell))

  module _ {g : Extents} (p : g ≡ grid_of c.volume) where
    pub bits_most : key_bits_of g ≤ 64
    bits_most = rw p (few_bits (grid_of c.volume) (faultless c e).2)

    module _ (s : List ℕ) where
      text-is : text_by (line_in c.sharding g) s ≡ cells_text c s
      unfolding text_by cells_text
      text-is = rw p (ap (λ (l : List ℕ). l ++ cut_after s) (lines_same (line_in c.sharding (grid_of c.volume)) (line_of c) line_is (length s / 12) s 0))

      pub text-length : {r : ℕ} → r ≡ length (text_by (line_in c.sharding g) s) → r ≡ length (cells_text c s)
      text-length q = q ∙ ap length text-is

      pub text-put : (d : List ℕ) {f : List ℕ} → f ≡ paste 0 (text_by (line_in c.sharding g) s) d → f ≡ paste 0 (cells_text c s) d
      text-put d q = q ∙ ap (λ (l : List ℕ). paste 0 l d) text-is

pub ruleset judged = (is-allowed, no_zero, bits_most, text-length, text-put, rules)
