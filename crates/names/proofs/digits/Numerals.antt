-- Laws of digits in a base: their bytes, how many there are, and that reading them gives the number back.
use Prim.Native.Nat.{ℕ, zero, suc, ◌+◌, ◌-◌, ◌*◌, ◌/◌, ◌%◌, ◌^◌, ◌≤◌, ◌<◌}
use mathlib.Core.Path.{◌≡◌, refl, sym, ap, ◌∙◌}
use mathlib.Core.List.{List, [], ◌∷◌, ◌++◌, append-nil, append_assoc}
use native.Mathlib.Omega.{arith}
use native.Mathlib.Nat.{div-lt_iff_lt-mul, div-lt_self, div-add-mod', le-div_iff_mul-le, pow-suc, pow-zero, mod-lt, zero-div, zero-mod, add-zero, add-suc, pow-succ', pow-le-pow_right}
use native.Mathlib.Numerals.{add-one}
use native.Mathlib.Decide.{dec_lt}
use borrow.Author.Tests.{lt-ltb, le-ltb}
use lib.Dec.{lit<}
use lib.ListN.{length, set, replicate, length-append}
use mir.Syntax.{w64}
use mir.Val.{Fits}
use Rattle.endian.specs.Place.{paste}
use Rattle.endian.proofs.Paste.{paste-nil, paste-next, paste-apart, store}
use Rattle.names.specs.digits.Digits.{digit_byte, digits, count_to, digit_count, decimal, digit_value, value_from, value}

-- ---- one digit

pub digit_low : (d : ℕ) → d < 10 → digit_byte d ≡ 48 + d
unfolding digit_byte
digit_low d h = rw (lt-ltb d 10 h)

pub digit_high : (d : ℕ) → 10 ≤ d → digit_byte d ≡ 87 + d
unfolding digit_byte
digit_high d h = rw (le-ltb d 10 h)

read_digit_by : (d : ℕ) → Dec (d < 10) → digit_value (digit_byte d) ≡ d
unfolding digit_value
read_digit_by d (yes p) = rw (digit_low d p, lt-ltb (48 + d) 58 (omega arith)) (omega arith)
read_digit_by d (no f) = let p : 10 ≤ d = omega (arith, f) in rw (digit_high d p, le-ltb (87 + d) 58 (omega arith)) (omega arith)

pub read_digit : (d : ℕ) → digit_value (digit_byte d) ≡ d
read_digit d = read_digit_by d (dec_lt d 10)

-- ---- k digits

pub length_digits : (b k n : ℕ) → length (digits b k n) ≡ k
unfolding digits
length_digits b zero n = refl
length_digits b (suc k) n = rw (length-append, length_digits b k (n / b)) (omega arith)

value_snoc : (b a : ℕ) (xs : List ℕ) (x : ℕ) → value_from b a (xs ++ (x ∷ [])) ≡ value_from b a xs * b + digit_value x
unfolding value_from
value_snoc b a [] x = refl
value_snoc b a (y ∷ xs) x = value_snoc b (a * b + digit_value y) xs x

module _ (b : ℕ) (pb : 0 < b) where
  div_below : (k n : ℕ) → n < b ^ suc k → n / b < b ^ k
  div_below k n h = (div-lt_iff_lt-mul pb).1 (rw (pow-suc b k) at h)

  pub read-digits : (k n : ℕ) → n < b ^ k → value b (digits b k n) ≡ n
  unfolding digits value value_from
  read-digits zero n h = let g : n < 1 = rw (pow-zero b) at h in omega arith
  read-digits (suc k) n h = rw (value_snoc b 0 (digits b k (n / b)) (digit_byte (n % b)), read-digits k (n / b) (div_below k n h), read_digit (n % b)) (div-add-mod' n b)

  pub same_digits : (k m n : ℕ) → m < b ^ k → n < b ^ k → digits b k m ≡ digits b k n → m ≡ n
  same_digits k m n p q e = sym (read-digits k m p) ∙ ap (value b) e ∙ read-digits k n q

-- ---- padding: more digits than a number needs are zeros in front of it

zeros_snoc : (j : ℕ) → ◌≡◌ {A = List ℕ} (replicate j 48 ++ (48 ∷ [])) (48 ∷ replicate j 48)
zeros_snoc zero = refl
zeros_snoc (suc j) = ap (λ (l : List ℕ). 48 ∷ l) (zeros_snoc j)

zero-digits : (b j : ℕ) → digits b j 0 ≡ replicate j 48
unfolding digits digit_byte
zero-digits b zero = refl
zero-digits b (suc j) = rw (zero-div b, zero-mod b, zero-digits b j) (zeros_snoc j)

pub padded : (b j k n : ℕ) → 0 < b → n < b ^ k → digits b (j + k) n ≡ replicate j 48 ++ digits b k n
unfolding digits
padded b j zero n p h =
    let g : n < 1 = rw (pow-zero b) at h in
    let e : n ≡ 0 = omega arith in
    rw (add-zero j, e, append-nil (replicate {A = ℕ} j 48)) (zero-digits b j)
padded b j (suc k) n p h =
    rw (add-suc j k, padded b j k (n / b) p (div_below b p k n h)) (append_assoc (replicate j 48) (digits b k (n / b)) (digit_byte (n % b) ∷ []))

-- ---- how many digits a number has

pub count-some : (b n : ℕ) → 0 < digit_count b n
unfolding digit_count count_to
count-some b zero = omega arith
count-some b (suc n) = omega arith

module _ (b : ℕ) (l : 1 < b) where
  enough : (k m n : ℕ) → n ≤ k → n ≤ m → count_to b k n ≡ count_to b m n
  unfolding count_to
  enough zero zero n p q = refl
  enough zero (suc m) zero p q = refl
  enough zero (suc m) (suc n) p q = absurd (omega arith)
  enough (suc k) zero zero p q = refl
  enough (suc k) zero (suc n) p q = absurd (omega arith)
  enough (suc k) (suc m) zero p q = refl
  enough (suc k) (suc m) (suc n) p q =
      let h : suc n / b < suc n = div-lt_self (omega arith) l in
      ap suc (enough k m (suc n / b) (omega arith) (omega arith))

  count-above : (n : ℕ) → 0 < n → digit_count b n ≡ count_to b n n
  unfolding digit_count
  count-above zero h = absurd (omega arith)
  count-above (suc n) h = refl

  pub count-short : (n : ℕ) → n < b → digit_count b n ≡ 1
  unfolding digit_count count_to
  count-short zero h = refl
  count-short (suc n) h =
      let p : 0 < b = omega arith in
      let d : suc n / b < 1 = (div-lt_iff_lt-mul p).1 (omega arith) in
      let e : suc n / b ≡ 0 = omega arith in
      ap suc (rw e (enough n 0 0 (omega arith) (omega arith)))

  pub count_long : (n : ℕ) → b ≤ n → digit_count b n ≡ suc (digit_count b (n / b))
  unfolding count_to
  count_long zero h = absurd (omega arith)
  count_long (suc n) h =
      let d : suc n / b < suc n = div-lt_self (omega arith) l in
      let p : 0 < b = omega arith in
      let e : 1 ≤ suc n / b = (le-div_iff_mul-le p).1 (omega arith) in
      count-above (suc n) (omega arith)
      ∙ ap suc (enough n (suc n / b) (suc n / b) (omega arith) (omega arith) ∙ sym (count-above (suc n / b) e))

  -- a number is below the power of the base that its count of digits gives
  below_next : (n : ℕ) → (b ≤ n → n / b < b ^ digit_count b (n / b)) → Dec (n < b) → n < b ^ digit_count b n
  below_next n i (yes p) = rw (count-short n p, pow-suc b 0, pow-zero b) (omega arith)
  below_next n i (no f) =
      let p : b ≤ n = omega (arith, f) in
      let z : 0 < b = omega arith in
      rw (count_long n p, pow-suc b (digit_count b (n / b))) ((div-lt_iff_lt-mul z).0 (i p))

  below-to : (k n : ℕ) → n ≤ k → n < b ^ digit_count b n
  below-to zero n h = below_next n (λ p. absurd (omega arith)) (dec_lt n b)
  below-to (suc k) n h = below_next n (λ p. let d : n / b < n = div-lt_self (omega arith) l in below-to k (n / b) (omega arith)) (dec_lt n b)

  pub count-holds : (n : ℕ) → n < b ^ digit_count b n
  count-holds n = below-to n n (omega arith)

  -- and no fewer digits would do
  least-next : (n k : ℕ) → digit_count b (n / b) ≤ k → Dec (n < b) → digit_count b n ≤ suc k
  least-next n k h (yes p) = omega (arith, count-short n p)
  least-next n k h (no f) = let p : b ≤ n = omega (arith, f) in omega (arith, count_long n p)

  least-to : (k n : ℕ) → n < b ^ suc k → digit_count b n ≤ suc k
  least-to zero n h =
      let g : n < 1 * b = rw (pow-suc b 0, pow-zero b) at h in
      let e : digit_count b n ≡ 1 = count-short n (omega arith) in
      omega arith
  least-to (suc k) n h =
      let p : 0 < b = omega arith in
      least-next n (suc k) (least-to k (n / b) (div_below b p (suc k) n h)) (dec_lt n b)

  pub count-least : (k n : ℕ) → 0 < k → n < b ^ k → digit_count b n ≤ k
  count-least zero n z h = absurd (omega arith)
  count-least (suc k) n z h = least-to k n h

-- ---- decimal text

pub decimal-length : (n : ℕ) → length (decimal n) ≡ digit_count 10 n
unfolding decimal
decimal-length n = length_digits 10 (digit_count 10 n) n

pub read-decimal : (n : ℕ) → value 10 (decimal n) ≡ n
unfolding decimal
read-decimal n = read-digits 10 (lit< tt) (digit_count 10 n) n (count-holds 10 (lit< tt) n)

pub same-decimal : (m n : ℕ) → decimal m ≡ decimal n → m ≡ n
same-decimal m n e = sym (read-decimal m) ∙ ap (value 10) e ∙ read-decimal n

-- by the logarithm of the number
pub decimal_count : (v k : ℕ) → 10 ^ k ≤ v → v < 10 * 10 ^ k → k + 1 ≡ length (decimal v)
decimal_count v k l h =
    let t : 1 < 10 = lit< tt in
    let most : digit_count 10 v ≤ k + 1 = count-least 10 t (k + 1) v (omega arith) (rw (add-one k, pow-succ') h) in
    let least : (digit_count 10 v ≤ k) → ⊥ =
    λ m. absurd (omega (arith, count-holds 10 t v, pow-le-pow_right {n = 10} (lit< tt) m)) in
    rw (decimal-length v) (omega (arith, least))

pub decimal_zero : {v : ℕ} → v ≡ 0 → 1 ≡ length (decimal v)
decimal_zero {v} e = sym (decimal-length v ∙ count-short 10 (lit< tt) v (omega arith))

pub decimal_twenty : (v : ℕ) → Fits w64 v → length (decimal v) ≤ 20
decimal_twenty v f = rw (decimal-length v) (count-least 10 (lit< tt) 20 v (omega arith) (omega (arith, f.fits)))

-- ---- the loop of `put_digits`: what is left to write, written over what stands there now, gives what is to stand there in the end

paste-last : (at x : ℕ) (xs d : List ℕ) → at + length xs < length d → paste at xs (set d (at + length xs) x) ≡ paste at (xs ++ (x ∷ [])) d
paste-last at x xs d h =
    let e : set d (at + length xs) x ≡ paste (at + length xs) (x ∷ []) d = store (at + length xs) x d h in
    ap (paste at xs) e ∙ paste-apart at xs (at + length xs) (x ∷ []) d (omega arith) (omega arith) ∙ paste-next at xs (x ∷ []) d (omega arith)

pub rem_small : (b w : ℕ) → 0 < b → b ≤ 16 → w % b < 16
rem_small b w p q = let h : w % b < b = mod-lt w p in omega arith

-- the digit at i is written; those before it are left, of which w is made
pub digits_next : (b at i w : ℕ) (d : List ℕ) {e : List ℕ} → paste at (digits b (i - at) w) d ≡ e → at < i → i ≤ length d → {x : ℕ} → x ≡ digit_byte (w % b)
    → paste at (digits b (i - 1 - at) (w / b)) (set d (i - 1) x) ≡ e
unfolding digits
digits_next b at i w d s l r {x} q =
    let k : length (digits b (i - 1 - at) (w / b)) ≡ i - 1 - at = length_digits b (i - 1 - at) (w / b) in
    let p : i - 1 ≡ at + length (digits b (i - 1 - at) (w / b)) = omega arith in
    let n : i - at ≡ suc (i - 1 - at) = omega arith in
    ap (λ (j : ℕ). paste at (digits b (i - 1 - at) (w / b)) (set d j x)) p
    ∙ paste-last at x (digits b (i - 1 - at) (w / b)) d (omega arith)
    ∙ rw q (ap (λ (j : ℕ). paste at (digits b j w) d) (sym n)) ∙ s

pub digits_done : (b at i w : ℕ) (d : List ℕ) → i ≤ at → paste at (digits b (i - at) w) d ≡ d
unfolding digits
digits_done b at i w d h = let n : i - at ≡ 0 = omega arith in ap (λ (j : ℕ). paste at (digits b j w) d) n ∙ paste-nil at d
