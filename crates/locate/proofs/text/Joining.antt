-- What the program prints, part by part, is what is to be printed: its input may be cut into blocks of whole cells, and the card may be read before the cells.
use Prim.Native.Nat.{ℕ, zero, suc, ◌+◌, ◌*◌, ◌/◌, ◌%◌, ◌≤◌, ◌<◌}
use mathlib.Core.Path.{◌≡◌, refl, sym, ap, ap₂, ◌∙◌}
use mathlib.Core.Bool.{Bool, true, false, ◌||◌}
use mathlib.Core.List.{List, [], ◌++◌, flat_map, append_assoc, append-nil}
use native.Mathlib.Omega.{arith}
use native.Mathlib.Nat.{zero-add}
use borrow.Author.Tests.{ltb-true, ltb-false, eqb-true, eqb-false, lt-ltb, le-ltb, eq-eqb}
use lib.Dec.{ltb, eqb}
use lib.ListN.{length, take, drop, length-append, length-take, length-drop, take-append-drop, drop_of_length-le}
use lib.Seq.{take-append_seam, drop-append_seam, take-nil}
use Rattle.refusal.specs.Choice.{pick}
use Rattle.refusal.proofs.Tests.{neither}
use Rattle.endian.specs.Little.{le_at}
use Rattle.endian.proofs.Little.{le_at-drop, le_at-take}
use Rattle.morton.specs.declared.grid.Cell.{Cell}
use Rattle.card.specs.declared.Card.{Card}
use Rattle.std.specs.Prelude.{Ok, Err}
use Rattle.refusal.specs.Answers.{Answer, refuse}
use Rattle.card.specs.Answers.{read_answer}
use Rattle.card.proofs.Meaning.{never_14}
use Rattle.locate.specs.lines.Lines.{line_of}
use Rattle.locate.specs.lines.Cells.{cell_at, lines_by}
use Rattle.locate.specs.text.Output.{cut_after, text_by, cells_text, framed, printed, output}
use Rattle.locate.specs.text.Blocks.{is_card_length, card_length, block_bytes, cut_into, blocks_of, LastIsShort, printed_blocks, printed_parts, Prints}

-- ---- blocks of whole cells

module _ (a b : List ℕ) where
  left_is : (p : ℕ) → p + 4 ≤ length a → le_at 4 (a ++ b) p ≡ le_at 4 a p
  left_is p h = sym (le_at-take 4 (a ++ b) (length a) p h) ∙ ap (λ (l : List ℕ). le_at 4 l p) (take-append_seam a b)

  right_is : (p q : ℕ) → q ≡ length a + p → le_at 4 (a ++ b) q ≡ le_at 4 b p
  right_is p q e = rw e (sym (le_at-drop 4 (a ++ b) (length a) p) ∙ ap (λ (l : List ℕ). le_at 4 l p) (drop-append_seam a b))

  cell-left : (p : ℕ) → p + 12 ≤ length a → cell_at (a ++ b) p ≡ cell_at a p
  unfolding cell_at
  cell-left p h =
      let x = left_is p (omega arith) in
      let y = left_is (p + 4) (omega arith) in
      let z = left_is (p + 8) (omega arith) in
      λ i. record { x = x i; y = y i; z = z i }

  cell_right : (p : ℕ) → cell_at (a ++ b) (length a + p) ≡ cell_at b p
  unfolding cell_at
  cell_right p =
      let x = right_is p (length a + p) refl in
      let y = right_is (p + 4) (length a + p + 4) (omega arith) in
      let z = right_is (p + 8) (length a + p + 8) (omega arith) in
      λ i. record { x = x i; y = y i; z = z i }

  module _ (f : Cell → List ℕ) where
    lines_right : (n p q : ℕ) → q ≡ length a + p → lines_by f n (a ++ b) q ≡ lines_by f n b p
    unfolding lines_by
    lines_right zero p q e = refl
    lines_right (suc n) p q e =
        ap₂ ◌++◌ (ap (λ (x : ℕ). f (cell_at (a ++ b) x)) e ∙ ap f (cell_right p)) (lines_right n (p + 12) (q + 12) (omega arith))

    lines_left : (k n p : ℕ) → p + 12 * k ≡ length a → lines_by f (k + n) (a ++ b) p ≡ lines_by f k a p ++ lines_by f n b 0
    unfolding lines_by
    lines_left zero n p e = ap (λ (m : ℕ). lines_by f m (a ++ b) p) (zero-add n) ∙ lines_right n 0 p (omega arith)
    lines_left (suc k) n p e =
        let i : suc k + n ≡ suc (k + n) = omega arith in
        rw (i, append_assoc (f (cell_at a p)) (lines_by f k a (p + 12)) (lines_by f n b 0))
        (ap₂ ◌++◌ (ap f (cell-left p (omega arith))) (lines_left k n (p + 12) (omega arith)))

    text_join : (k : ℕ) → length a ≡ 12 * k → text_by f (a ++ b) ≡ text_by f a ++ text_by f b
    unfolding text_by cut_after
    text_join k e =
        let la : length a / 12 ≡ k = omega arith in
        let ra : length a % 12 ≡ 0 = omega arith in
        let l : length (a ++ b) / 12 ≡ k + length b / 12 = rw length-append (omega arith) in
        let r : length (a ++ b) % 12 ≡ length b % 12 = rw length-append (omega arith) in
        rw (l, r, la, eq-eqb (length a % 12) 0 ra, append-nil (lines_by f k a 0), lines_left k (length b / 12) 0 (omega arith))
        (append_assoc (lines_by f k a 0) (lines_by f (length b / 12) b 0) (cut_after b))

-- what is printed for two blocks is what is printed for each
blocks_join : (c : Card) (a b : List ℕ) (k : ℕ) → length a ≡ 12 * k → cells_text c (a ++ b) ≡ cells_text c a ++ cells_text c b
unfolding cells_text
blocks_join c a b k e = text_join a b (line_of c) k e

-- ---- the card's length first

-- bytes that a card can't have as many of
no-card : (t : List ℕ) → is_card_length (length t) ≡ false → read_answer t ≡ refuse 14
unfolding is_card_length
no-card t e =
    let n = length t in
    let a = neither (eqb n 46) (eqb n 61 || (eqb n 50 || eqb n 65)) e in
    let b = neither (eqb n 61) (eqb n 50 || eqb n 65) a.1 in
    let c = neither (eqb n 50) (eqb n 65) b.1 in
    never_14 t (eqb-false n 46 a.0) (eqb-false n 61 b.0) (eqb-false n 50 c.0) (eqb-false n 65 c.1)

framed_by : (b : Bool) (t : List ℕ) → (b ≡ true → is_card_length (length t) ≡ false) → pick b (read_answer t) (refuse 14) ≡ refuse 14
framed_by true t f = no-card t (f refl)
framed_by false t f = refl

framed-never : (n : ℕ) (t : List ℕ) → is_card_length n ≡ false → framed n t ≡ refuse 14
unfolding framed
framed-never n t f = framed_by (eqb (length t) n) t (λ e. ap is_card_length (eqb-true (length t) n e) ∙ f)

framed-empty : (n : ℕ) → framed n [] ≡ refuse 14
unfolding framed is_card_length
framed-empty n = framed_by (eqb 0 n) [] (λ e. refl)

-- a refused card prints one line, whatever follows
printed_14 : {r : Answer Card} → r ≡ refuse 14 → (s t : List ℕ) → printed r s ≡ printed (refuse 14) t
unfolding printed
printed_14 e s t = rw e

module _ (s : List ℕ) where
  read_by : ℕ → List ℕ
  read_by n = printed (framed n (take n (drop 2 s))) (drop (2 + n) s)

  short : length s < 2 → output s ≡ read_by 0
  unfolding output read_by
  short h =
      let d : drop 2 s ≡ [] = drop_of_length-le s {i = 2} (omega arith) in
      let n = le_at 2 s 0 in
      let p : framed n (take n (drop 2 s)) ≡ refuse 14 = rw (d, take-nil n) (framed-empty n) in
      let q : framed 0 (take 0 (drop 2 s)) ≡ refuse 14 = framed-empty 0 in
      printed_14 p (drop (2 + n) s) s ∙ sym (printed_14 q (drop 2 s) s)

  long : (b : Bool) → is_card_length (le_at 2 s 0) ≡ b → output s ≡ read_by (pick b (le_at 2 s 0) 0)
  unfolding output read_by
  long true e = refl
  long false e =
      let n = le_at 2 s 0 in
      printed_14 (framed-never n (take n (drop 2 s)) e) (drop (2 + n) s) s ∙ sym (printed_14 (framed-empty 0) (drop 2 s) s)

  started : (b : Bool) → ltb (length s) 2 ≡ b → output s ≡ read_by (card_length (take 2 s))
  unfolding card_length
  started true e =
      let h : length s < 2 = ltb-true (length s) 2 e in
      let l : length (take 2 s) < 2 = rw length-take (omega arith) in
      rw (lt-ltb (length (take 2 s)) 2 l) (short h)
  started false e =
      let h : 2 ≤ length s = ltb-false (length s) 2 e in
      let l : 2 ≤ length (take 2 s) = rw length-take (omega arith) in
      rw (le-ltb (length (take 2 s)) 2 l, le_at-take 2 s 2 0 (omega arith)) (long (is_card_length (le_at 2 s 0)) refl)

  -- what the program prints is what comes of the length, then of the bytes that `card_length` gives, then of the rest
  output-is : output s ≡ printed (framed (card_length (take 2 s)) (take (card_length (take 2 s)) (drop 2 s))) (drop (2 + card_length (take 2 s)) s)
  unfolding read_by
  output-is = started (ltb (length s) 2) refl

-- ---- blocks

split : (s : List ℕ) → take block_bytes s ++ drop block_bytes s ≡ s
split s = take-append-drop block_bytes s

module _ (c : Card) where
  blocks_text : (n : ℕ) (s : List ℕ) → block_bytes * n ≤ length s → flat_map (cells_text c) (cut_into n s) ≡ cells_text c s
  unfolding flat_map cut_into
  blocks_text zero s h = append-nil (cells_text c s)
  blocks_text (suc n) s h =
      let l : length (take block_bytes s) ≡ 12 * 1000 = rw length-take (omega arith) in
      ap (λ (t : List ℕ). cells_text c (take block_bytes s) ++ t)
      (blocks_text n (drop block_bytes s) (rw length-drop (omega arith)))
      ∙ sym (blocks_join c (take block_bytes s) (drop block_bytes s) 1000 l) ∙ ap (cells_text c) (split s)

printed-blocks : (r : Answer Card) (s : List ℕ) → printed_blocks r (blocks_of s) ≡ printed r s
unfolding printed_blocks printed blocks_of
printed-blocks (Ok c) s = blocks_text c (length s / block_bytes) s (omega arith)
printed-blocks (Err n) s = refl

blocks_whole : (n : ℕ) (s : List ℕ) → flat_map (λ b. b) (cut_into n s) ≡ s
unfolding flat_map cut_into
blocks_whole zero s = append-nil s
blocks_whole (suc n) s = ap (λ (t : List ℕ). take block_bytes s ++ t) (blocks_whole n (drop block_bytes s)) ∙ split s

last-short : (n : ℕ) (s : List ℕ) → block_bytes * n ≤ length s → length s < block_bytes * suc n → LastIsShort (cut_into n s)
unfolding cut_into
last-short zero s h k = omega arith
last-short (suc zero) s h k = (rw length-take (omega arith), last-short zero (drop block_bytes s) (rw length-drop (omega arith)) (rw length-drop (omega arith)))
last-short (suc (suc n)) s h k =
    (rw length-take (omega arith), last-short (suc n) (drop block_bytes s) (rw length-drop (omega arith)) (rw length-drop (omega arith)))

parts-printed : (s : List ℕ) → printed_parts s ≡ output s
unfolding printed_parts
parts-printed s =
    let n = card_length (take 2 s) in
    printed-blocks (framed n (take n (drop 2 s))) (drop (2 + n) s) ∙ sym (output-is s)

pub locate_prints : Prints
locate_prints =
    record {
      parts = parts-printed;
      all = λ s. unfold blocks_of in blocks_whole (length s / block_bytes) s;
      last = λ s. unfold blocks_of in last-short (length s / block_bytes) s (omega arith) (omega arith);
    }
