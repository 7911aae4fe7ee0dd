-- What the functions that read and print need: what stands in a buffer that was handed on.
use Prim.Native.Nat.{ℕ, ◌≤◌}
use mathlib.Core.Path.{◌≡◌, refl, sym, ap, ◌∙◌}
use mathlib.Core.Bool.{Bool, true, false, ◌&&◌}
use mathlib.Core.List.{List, ◌++◌}
use native.Mathlib.Omega.{arith}
use borrow.Author.Rules.{rules}
use borrow.Author.Tests.{eqb-true, eq-eqb, ne_eqb}
use lib.Dec.{eqb}
use lib.ListN.{length, take, drop, length-append}
use lib.Seq.{length-take-le, take-append-le}
use Rattle.refusal.specs.Choice.{pick}
use Rattle.refusal.specs.Buffer.{over}
use Rattle.refusal.proofs.Tests.{both}
use Rattle.endian.specs.Place.{paste}
use Rattle.endian.proofs.Paste.{paste-front}
use Rattle.card.specs.declared.Card.{Card}
use Rattle.std.specs.Prelude.{Ok, Option, Some}
use Rattle.refusal.specs.Answers.{refuse}
use Rattle.card.specs.Answers.{fault, read_answer}
use Rattle.card.proofs.Meaning.{read_faultless}
use Rattle.locate.specs.declared.Came.{Came}
use Rattle.locate.specs.declared.Block.{Block}
use Rattle.locate.specs.text.Output.{cells_text, framed}
use Rattle.locate.specs.text.Blocks.{card_length, block_bytes}
use Rattle.reading.specs.End.{is_end}
use Rattle.locate.specs.text.Ends.{told_bytes}
use Rattle.locate.specs.declared.Start.{Start}
use Rattle.locate.specs.Reading.{Readable, CameInto, Located, Printed, Said, Started}

-- ---- a text at the front of a buffer, and the part of the buffer that it fills
pub front-over : (s d : List ℕ) {e : List ℕ} → e ≡ paste 0 s d → e ≡ over s d
front-over s d q = q ∙ paste-front s d (length s) refl

pub part-long : (n : ℕ) (d : List ℕ) → n ≤ length d → n ≡ length (take n d)
part-long n d h = sym (length-take-le n d h)

-- ---- a block
pub cells-came : (cells : List ℕ) {came got : ℕ} {readable : Bool} → came ≤ length cells → Readable came block_bytes readable → got ≡ told_bytes came readable → got ≤ came
    → CameInto cells (record { got = got; readable = readable })
cells-came cells {came} h r t m = record { came = came; within = h; readable = r; told = t; most = omega arith }

module _ (c : Card) (cells before : List ℕ) where
  pub block-located : {r : Came} {len : ℕ} {after : List ℕ} → CameInto cells r → len ≡ length (cells_text c (take r.got cells))
      → after ≡ paste 0 (cells_text c (take r.got cells)) before → Located c cells before after (record { got = r.got; len = len; readable = r.readable })
  block-located {r} g p q = record { came = g; long = p; text = front-over (cells_text c (take r.got cells)) before q }

  module _ {after : List ℕ} {b : Block} (l : Located c cells before after b) where
    pub text-room : {n : ℕ} → n ≡ b.len → n ≤ length after
    text-room e =
        let t = cells_text c (take b.got cells) in
        omega (arith, l.long, ap length l.text, length-append t (drop (length t) before))

    pub block-printed : (w : Bool) → Printed c cells before after (w && eqb b.got block_bytes)
    block-printed w =
        record {
          block = b;
          located = l;
          whole = λ t. eqb-true b.got block_bytes (both w (eqb b.got block_bytes) t).1;
        }

-- ---- the card
framed_says : (b : Bool) (s : List ℕ) (c : Card) → pick b (read_answer s) (refuse 14) ≡ Ok c → read_answer s ≡ Ok c
framed_says true s c e = e
framed_says false s c e = let z : ◌≡◌ {A = ℕ} 0 1 = cc in absurd (omega arith)

pub started_judged : (head body : List ℕ) {r : Start} {c : Card} → Started head body r → r.card ≡ Ok c → fault c ≡ 0
unfolding framed
started_judged head body {c = c} s e =
    let t = take s.got body in
    read_faultless t c (framed_says (eqb (length t) (card_length (take s.asked head))) t c (sym s.said ∙ e))

-- the card was read into the front of the buffer
pub started_by : (head part rest : List ℕ) {r : Start} {n : ℕ} {b : Bool} (asked : ℕ) → Readable asked 2 b → n ≡ card_length (take asked head) → n ≡ length part → Said part r
    → Started head (part ++ rest) (record { card = r.card; readable = b && r.readable })
started_by head part rest {r} {b = b} asked f p q s =
    let e : length part ≡ card_length (take asked head) = sym q ∙ p in
    record {
      asked = asked;
      got = s.got;
      said = s.said ∙ rw (take-append-le s.got part rest s.within, e);
      head_readable = b;
      body_readable = r.readable;
      first = f;
      second = rw e at s.readable;
      readable = refl;
    }

-- ---- whether the input could be read

pub came-whole : {got asked : ℕ} → got ≡ asked → Readable got asked true
came-whole {got} {asked} e = record { answer = Some 0; made = rw (eq-eqb got asked e) }

pub came-short : {got asked : ℕ} {b : Bool} (answer : Option ℕ) → (got ≡ asked → ⊥) → b ≡ is_end answer → Readable got asked b
came-short {got} {asked} answer n p = record { answer = answer; made = rw (ne_eqb got asked n) p }

pub ruleset handed = (front-over, part-long, cells-came, block-located, text-room, block-printed, started_judged, started_by, came-whole, came-short, rules)
