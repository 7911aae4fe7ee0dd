-- What the functions that print lines need.
use Prim.Native.Nat.{ℕ, suc, ◌+◌, ◌-◌, ◌*◌, ◌≤◌, ◌<◌}
use mathlib.Core.Path.{◌≡◌, refl, sym, ap, ◌∙◌}
use mathlib.Core.Bool.{Bool, true, false, not}
use mathlib.Core.List.{List, [], ◌∷◌, ◌++◌}
use native.Mathlib.Omega.{arith}
use borrow.Author.Rules.{rules}
use borrow.Author.Tests.{not-true, not-false}
use lib.ListN.{length, length-append}
use mir.Syntax.{w64}
use mir.Val.{Fits}
use Rattle.endian.specs.Little.{le, le_at}
use Rattle.endian.specs.Place.{paste}
use Rattle.endian.proofs.Paste.{paste-nil, paste-on, paste-then}
use Rattle.morton.specs.grid.Grid.{in_grid}
use Rattle.morton.specs.Key.{key_of}
use Rattle.morton.specs.declared.grid.Cell.{Cell}
use Rattle.morton.specs.declared.grid.Extents.{Extents}
use Rattle.names.specs.digits.Digits.{decimal}
use Rattle.names.specs.Shards.{shard_name}
use Rattle.names.proofs.digits.Numerals.{decimal_twenty}
use Rattle.names.proofs.Sharded.{name-most}
use Rattle.names.proofs.Texts.{first-room, between-fits, between-room, all-put}
use Rattle.sharding.specs.placement.Place.{place_of}
use Rattle.sharding.specs.Specification.{allowed}
use Rattle.sharding.specs.declared.placement.Place.{Place}
use Rattle.sharding.specs.declared.Sharding.{Sharding}
use Rattle.locate.specs.lines.Lines.{ending, refused_word, refused_line, filed, keyed, line_in, line_room}
use Rattle.locate.specs.lines.Cells.{cell_at, lines_by}

-- ---- a text that a byte ends
module _ (xs : List ℕ) (x at : ℕ) (d : List ℕ) (l : at + length (xs ++ (x ∷ [])) ≤ length d) (m : ℕ) (p : m ≡ at + length xs) where
  pub last_end : m + 1 ≡ at + length (xs ++ (x ∷ []))
  last_end = rw length-append (omega arith)

  pub last-put : (e : List ℕ) → e ≡ paste at xs d → (g : List ℕ) → g ≡ paste m (x ∷ []) e → g ≡ paste at (xs ++ (x ∷ [])) d
  last-put e q g v = all-put xs [] x at d l m e p q g v g (sym (paste-nil (m + 1) g))

pub ruleset ended = (first-room, between-fits, between-room, last_end, last-put, rules)

-- ---- how long a line is
ending-most : (n : ℕ) → Fits w64 n → length (ending n) ≤ 21
unfolding ending
ending-most n f = rw length-append (omega (arith, decimal_twenty n f))

refused-length : (n : ℕ) → length (refused_line n) ≡ 8 + length (ending n)
unfolding refused_line
refused-length n = omega (arith, length-append refused_word (ending n))

keyed-most : (spec : Sharding) (key : ℕ) (p : Place) → allowed spec ≡ true → Fits w64 key → Fits w64 p.minishard → length (keyed spec key p) ≤ 57
unfolding keyed filed
keyed-most spec key p a f g =
    omega (
      arith,
      length-append (decimal key) (32 ∷ (shard_name spec p.shard ++ (32 ∷ ending p.minishard))),
      length-append (shard_name spec p.shard) (32 ∷ ending p.minishard),
      decimal_twenty key f,
      name-most spec p.shard a,
      ending-most p.minishard g,
    )

-- ---- the line of a refusal
module _ (n : ℕ) (f : n < 256) where
  small : Fits w64 n
  small = omega arith

  pub ending-small : length (ending n) ≤ 21
  ending-small = ending-most n small

  module _ (at : ℕ) {r : ℕ} (e : r ≡ at + 8 + length (ending n)) where
    pub refused_end : r ≡ at + length (refused_line n)
    refused_end = omega (arith, refused-length n)

    pub refused-most : r ≤ at + line_room
    refused-most = omega (arith, ending-most n small)

pub refused-put : (n at : ℕ) (d : List ℕ) {e f : List ℕ} → e ≡ paste at (le 8 0x2064657375666572) d → f ≡ paste (at + 8) (ending n) e → at + line_room ≤ length d
    → f ≡ paste at (refused_line n) d
unfolding le refused_line
refused-put n at d u v h = paste-then at (at + 8) refused_word (ending n) d u v refl (omega arith)

pub ruleset refusing = (refused_end, refused-most, refused-put, rules)

-- ---- the line of a cell: b is whether the cell is in the grid
module _ (spec : Sharding) (g : Extents) (cell : Cell) {b : Bool} (eb : b ≡ in_grid g cell) (at : ℕ) where
  module _ (t : not b ≡ true) where
    outside : refused_line 2 ≡ line_in spec g cell
    unfolding line_in
    outside = rw (sym eb ∙ not-true b t)

    pub outside_end : {r : ℕ} → r ≡ at + length (refused_line 2) → r ≡ at + length (line_in spec g cell)
    outside_end p = p ∙ ap (λ (l : List ℕ). at + length l) outside

    pub outside_put : (d : List ℕ) {f : List ℕ} → f ≡ paste at (refused_line 2) d → f ≡ paste at (line_in spec g cell) d
    outside_put d p = p ∙ ap (λ (l : List ℕ). paste at l d) outside

  module _ (t : not b ≡ false) {key : ℕ} (ek : key ≡ key_of g cell) {p : Place} (ep : p ≡ place_of spec key) where
    inside : keyed spec key p ≡ line_in spec g cell
    unfolding line_in
    inside = rw (sym eb ∙ not-false b t, ← ek, ep)

    pub inside-end : {r : ℕ} → r ≡ at + length (keyed spec key p) → r ≡ at + length (line_in spec g cell)
    inside-end e = e ∙ ap (λ (l : List ℕ). at + length l) inside

    pub inside-put : (d : List ℕ) {f : List ℕ} → f ≡ paste at (keyed spec key p) d → f ≡ paste at (line_in spec g cell) d
    inside-put d e = e ∙ ap (λ (l : List ℕ). paste at l d) inside

module _ (spec : Sharding) (key : ℕ) (p : Place) (a : allowed spec ≡ true) (f : Fits w64 key) (g : Fits w64 p.minishard) (at : ℕ) where
  pub keyed-room : (d : List ℕ) → at + line_room ≤ length d → at + length (keyed spec key p) ≤ length d
  keyed-room d h = omega (arith, keyed-most spec key p a f g)

  pub keyed-end : {r : ℕ} → r ≡ at + length (keyed spec key p) → r ≤ at + line_room
  keyed-end e = omega (arith, keyed-most spec key p a f g)

pub ruleset lining = (outside_end, outside_put, inside-end, inside-put, keyed-room, keyed-end, rules)

pub cell-made : (s : List ℕ) (at : ℕ) {x y z : ℕ} → x ≡ le_at 4 s at → y ≡ le_at 4 s (at + 4) → z ≡ le_at 4 s (at + 8)
    → ◌≡◌ {A = Cell} (record { x = x; y = y; z = z }) (cell_at s at)
unfolding cell_at
cell-made s at p q r = λ i. record { x = p i; y = q i; z = r i }

-- ---- the loop over cells: what is left to print, printed now, gives what is to stand there in the end
module _ (f : Cell → List ℕ) (n : ℕ) (s : List ℕ) where
  lines_cons : (i : ℕ) → i < n → lines_by f (n - i) s (12 * i) ≡ f (cell_at s (12 * i)) ++ lines_by f (n - (i + 1)) s (12 * (i + 1))
  unfolding lines_by
  lines_cons i h =
      let e : n - i ≡ suc (n - (i + 1)) = omega arith in
      let g : 12 * i + 12 ≡ 12 * (i + 1) = omega arith in
      rw (e, ← g)

  lines_none : (i : ℕ) → n ≤ i → lines_by f (n - i) s (12 * i) ≡ []
  unfolding lines_by
  lines_none i h = let e : n - i ≡ 0 = omega arith in rw e

  pub lines_first : (d : List ℕ) → paste 0 (lines_by f (n - 0) s (12 * 0)) d ≡ paste 0 (lines_by f n s 0) d
  lines_first d = ap (λ (k : ℕ). paste 0 (lines_by f k s 0) d) (omega arith)

  pub length-first : 0 + length (lines_by f (n - 0) s (12 * 0)) ≡ length (lines_by f n s 0)
  length-first = let e : n - 0 ≡ n = omega arith in rw e (omega arith)

  module _ (i at : ℕ) where
    module _ (h : i < n) {cell : Cell} (ec : cell ≡ cell_at s (12 * i)) {m : ℕ} (em : m ≡ at + length (f cell)) where
      pub length-next : {k : ℕ} → at + length (lines_by f (n - i) s (12 * i)) ≡ k → m + length (lines_by f (n - (i + 1)) s (12 * (i + 1))) ≡ k
      length-next e =
          let p : length (f cell) ≡ length (f (cell_at s (12 * i))) = ap (λ (z : Cell). length (f z)) ec in
          let q : length (lines_by f (n - i) s (12 * i)) ≡ length (f (cell_at s (12 * i))) + length (lines_by f (n - (i + 1)) s (12 * (i + 1))) =
          ap length (lines_cons i h) ∙ length-append (f (cell_at s (12 * i))) (lines_by f (n - (i + 1)) s (12 * (i + 1))) in
          omega arith

      pub lines_next : (d d₀ : List ℕ) {d' e : List ℕ} → d' ≡ paste at (f cell) d → paste at (lines_by f (n - i) s (12 * i)) d ≡ e
          → m ≤ at + line_room → at ≤ line_room * i → length d ≡ length d₀ → line_room * n ≤ length d₀
          → paste m (lines_by f (n - (i + 1)) s (12 * (i + 1))) d' ≡ e
      lines_next d d₀ u w k j q r =
          rw u (paste-on at (f cell) (lines_by f (n - (i + 1)) s (12 * (i + 1))) d m (omega arith) (sym em)
          ∙ ap (λ (z : Cell). paste at (f z ++ lines_by f (n - (i + 1)) s (12 * (i + 1))) d) ec
          ∙ ap (λ (z : List ℕ). paste at z d) (sym (lines_cons i h)) ∙ w)

    module _ (h : n ≤ i) where
      pub length_last : {k : ℕ} → at + length (lines_by f (n - i) s (12 * i)) ≡ k → at ≡ k
      length_last e = let p : length (lines_by f (n - i) s (12 * i)) ≡ 0 = ap length (lines_none i h) in omega arith

      pub lines_last : {d e : List ℕ} → paste at (lines_by f (n - i) s (12 * i)) d ≡ e → d ≡ e
      lines_last {d} w = sym (paste-nil at d) ∙ ap (λ (z : List ℕ). paste at z d) (sym (lines_none i h)) ∙ w

pub ruleset looping = (lines_first, length-first, length-next, lines_next, length_last, lines_last, rules)
