-- Distinct cells of one volume have distinct chunk names: a number's text ends where its digits do, so a name is read back part by part.
use Prim.Native.Nat.{ℕ, zero, suc, ◌+◌, ◌/◌, ◌%◌, ◌<◌}
use mathlib.Core.Path.{◌≡◌, refl, sym, ap, ◌∙◌}
use mathlib.Core.Bool.{Bool, true, false, ◌&&◌}
use mathlib.Core.List.{List, [], ◌∷◌, ◌++◌, append_assoc}
use native.Mathlib.Omega.{arith}
use borrow.Author.Tests.{le-leb}
use lib.Dec.{leb}
use lib.IntN.{ℤ, pos, negsuc}
use lib.ListN.{length}
use Rattle.refusal.specs.Choice.{pick}
use Rattle.refusal.proofs.Tests.{both, neither}
use Rattle.morton.specs.grid.Answers.{no_cell}
use Rattle.morton.specs.grid.Grid.{zero_extent}
use Rattle.morton.specs.bounds.Bounds.{begin_point, bounds_of}
use Rattle.morton.specs.declared.bounds.Bounds.{Bounds}
use Rattle.morton.specs.declared.grid.Cell.{Cell}
use Rattle.morton.specs.declared.grid.Volume.{Volume}
use Rattle.morton.proofs.bounds.Laws.{same-begin-same-cell}
use Rattle.morton.proofs.grid.Ways.{chunk-some}
use Rattle.names.specs.digits.Digits.{digit_byte, digits, digit_count, decimal}
use Rattle.names.specs.digits.Signs.{negative, sign_parts, signed_text}
use Rattle.names.specs.chunks.Spans.{span_of, span_text, two_text, spans_text}
use Rattle.names.specs.chunks.Chunks.{bounds_name, chunk_name}
use Rattle.names.proofs.digits.Numerals.{digit_low, count-some, decimal-length, same-decimal}

-- ---- bytes that are decimal digits

is_digit : ℕ → Bool
is_digit x = leb 48 x && leb x 57

all_digits : List ℕ → Bool
all_digits [] = true
all_digits (x ∷ xs) = is_digit x && all_digits xs

-- the digits in front, and what follows them
up_to : List ℕ → List ℕ
up_to [] = []
up_to (x ∷ xs) = pick (is_digit x) (x ∷ up_to xs) []

after : List ℕ → List ℕ
after [] = []
after (x ∷ xs) = pick (is_digit x) (after xs) (x ∷ xs)

digit_is : (d : ℕ) → d < 10 → is_digit (digit_byte d) ≡ true
unfolding is_digit
digit_is d h = rw (digit_low d h, le-leb 48 (48 + d) (omega arith), le-leb (48 + d) 57 (omega arith))

more-digits : (xs : List ℕ) (d : ℕ) → all_digits xs ≡ true → d < 10 → all_digits (xs ++ (digit_byte d ∷ [])) ≡ true
unfolding all_digits
more-digits [] d e h = rw (digit_is d h)
more-digits (x ∷ xs) d e h = rw ((both (is_digit x) (all_digits xs) e).0, more-digits xs d (both (is_digit x) (all_digits xs) e).1 h)

digits-all : (k n : ℕ) → all_digits (digits 10 k n) ≡ true
unfolding digits all_digits
digits-all zero n = refl
digits-all (suc k) n = more-digits (digits 10 k (n / 10)) (n % 10) (digits-all k (n / 10)) (omega arith)

all_digits_lem : (n : ℕ) → all_digits (decimal n) ≡ true
unfolding decimal
all_digits_lem n = digits-all (digit_count 10 n) n

-- ---- a number's text and then a byte that is no digit

module _ (c : ℕ) (r : List ℕ) (q : is_digit c ≡ false) where
  up-to : (xs : List ℕ) → all_digits xs ≡ true → up_to (xs ++ (c ∷ r)) ≡ xs
  unfolding up_to all_digits
  up-to [] e = rw q
  up-to (x ∷ xs) e = rw ((both (is_digit x) (all_digits xs) e).0, up-to xs (both (is_digit x) (all_digits xs) e).1)

  rest : (xs : List ℕ) → all_digits xs ≡ true → after (xs ++ (c ∷ r)) ≡ c ∷ r
  unfolding after all_digits
  rest [] e = rw q
  rest (x ∷ xs) e = rw (both (is_digit x) (all_digits xs) e).0 (rest xs (both (is_digit x) (all_digits xs) e).1)

-- no text of digits begins with a minus sign, whatever follows it
no_sign : {X : Type 0} (xs t u : List ℕ) → all_digits xs ≡ true → 0 < length xs → xs ++ t ≡ 45 ∷ u → X
unfolding all_digits is_digit
no_sign [] t u e l h = absurd (omega arith)
no_sign (x ∷ xs) t u e l h =
    let g : x ≡ 45 = cc in
    let w : ◌≡◌ {A = Bool} true false = sym (both (is_digit x) (all_digits xs) e).0 ∙ rw g in
    let z : ◌≡◌ {A = ℕ} 0 1 = cc in
    absurd (omega arith)

no_minus : {X : Type 0} (n : ℕ) (t u : List ℕ) → decimal n ++ t ≡ 45 ∷ u → X
no_minus n t u h = no_sign (decimal n) t u (all_digits_lem n) (omega (arith, decimal-length n, count-some 10 n)) h

module _ (c : ℕ) (q : is_digit c ≡ false) (r s : List ℕ) where
  decimal-apart : (m n : ℕ) → decimal m ++ (c ∷ r) ≡ decimal n ++ (c ∷ s) → (m ≡ n) × (r ≡ s)
  decimal-apart m n e =
      let a : decimal m ≡ decimal n = sym (up-to c r q (decimal m) (all_digits_lem m)) ∙ ap up_to e ∙ up-to c s q (decimal n) (all_digits_lem n) in
      let b : c ∷ r ≡ c ∷ s = sym (rest c r q (decimal m) (all_digits_lem m)) ∙ ap after e ∙ rest c s q (decimal n) (all_digits_lem n) in
      (same-decimal m n a, cc)

  signed_apart : (y z : ℤ) → signed_text (sign_parts y) ++ (c ∷ r) ≡ signed_text (sign_parts z) ++ (c ∷ s) → (y ≡ z) × (r ≡ s)
  unfolding signed_text sign_parts negative
  signed_apart (pos m) (pos n) e = let p = decimal-apart m n e in (ap pos p.0, p.1)
  signed_apart (pos m) (negsuc n) e = no_minus m _ _ e
  signed_apart (negsuc m) (pos n) e = no_minus n _ _ (sym e)
  signed_apart (negsuc m) (negsuc n) e =
      let t : decimal (suc m) ++ (c ∷ r) ≡ decimal (suc n) ++ (c ∷ s) = cc in
      let p = decimal-apart (suc m) (suc n) t in
      let g : m ≡ n = omega (arith, p.0) in
      (ap negsuc g, p.1)

minus-no_digit : is_digit 45 ≡ false
unfolding is_digit
minus-no_digit = refl

line_no_digit : is_digit 95 ≡ false
unfolding is_digit
line_no_digit = refl

-- a signed number's text is its own
pub same_signed : (y z : ℤ) → signed_text (sign_parts y) ≡ signed_text (sign_parts z) → y ≡ z
same_signed y z e = (signed_apart 45 minus-no_digit [] [] y z (ap (λ (t : List ℕ). t ++ (45 ∷ [])) e)).0

-- ---- names of bounds

abbrev text : ℤ → List ℕ
text z = signed_text (sign_parts z)

flat : (b : Bounds) → bounds_name b
    ≡ text b.begin.x ++ (45 ∷ (text b.end.x ++ (95 ∷ (text b.begin.y ++ (45 ∷ (text b.end.y ++ (95 ∷ (text b.begin.z ++ (45 ∷ text b.end.z)))))))))
unfolding bounds_name spans_text two_text span_text span_of
flat b = simp append_assoc

pub same-bounds : (a b : Bounds) → bounds_name a ≡ bounds_name b → a ≡ b
same-bounds a b e =
    let p = signed_apart 45 minus-no_digit _ _ a.begin.x b.begin.x (sym (flat a) ∙ e ∙ flat b) in
    let q = signed_apart 95 line_no_digit _ _ a.end.x b.end.x p.1 in
    let r = signed_apart 45 minus-no_digit _ _ a.begin.y b.begin.y q.1 in
    let s = signed_apart 95 line_no_digit _ _ a.end.y b.end.y r.1 in
    let t = signed_apart 45 minus-no_digit _ _ a.begin.z b.begin.z s.1 in
    let u = same_signed a.end.z b.end.z t.1 in
    λ i. record { begin = record { x = p.0 i; y = r.0 i; z = t.0 i }; end = record { x = q.0 i; y = s.0 i; z = u i } }

-- ---- names of cells

-- cells with one name begin at one place on each axis, so they are one
pub same-cell : (v : Volume) (c d : Cell) → no_cell v c ≡ false → chunk_name v c ≡ chunk_name v d → c ≡ d
unfolding no_cell chunk_name bounds_of begin_point
same-cell v c d f e =
    let s = chunk-some v (neither (zero_extent v) _ f).0 in
    let b = same-bounds (bounds_of v c) (bounds_of v d) e in
    let x = same-begin-same-cell _ _ c.x d.x s.0 (ap (λ (w : Bounds). w.begin.x) b) in
    let y = same-begin-same-cell _ _ c.y d.y s.1 (ap (λ (w : Bounds). w.begin.y) b) in
    let z = same-begin-same-cell _ _ c.z d.z s.2 (ap (λ (w : Bounds). w.begin.z) b) in
    λ i. record { x = x i; y = y i; z = z i }
