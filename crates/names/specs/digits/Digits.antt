-- Numbers as text in a base of at most 16, highest digit first, and how such text is read.
use Rattle.std.specs.Prelude.{ℕ, zero, suc, ◌+◌, ◌-◌, ◌*◌, ◌/◌, ◌%◌, List, [], ◌∷◌, ◌++◌, ltb}
use Rattle.refusal.specs.Choice.{pick}

-- the byte of a digit: `0` is byte 48, and after `9` come the lower-case letters, `a` being byte 97
unfoldable pub digit_byte : ℕ → ℕ
digit_byte d = pick (ltb d 10) (48 + d) (87 + d)

-- the k lowest digits of n in base b; where n has fewer, zeros pad it in front
unfoldable pub digits : ℕ → ℕ → ℕ → List ℕ
digits b zero n = []
digits b (suc k) n = digits b k (n / b) ++ (digit_byte (n % b) ∷ [])

-- how many digits n has in base b, none for 0; they are at most k
unfoldable pub count_to : ℕ → ℕ → ℕ → ℕ
count_to b zero n = 0
count_to b (suc k) zero = 0
count_to b (suc k) (suc n) = suc (count_to b k (suc n / b))

-- how many digits n is written with, without a zero in front: 0 itself has one
unfoldable pub digit_count : ℕ → ℕ → ℕ
digit_count b zero = 1
digit_count b (suc n) = count_to b (suc n) (suc n)

-- "in base 10" (RULES G8)
unfoldable pub decimal : ℕ → List ℕ
decimal n = digits 10 (digit_count 10 n) n

-- ---- reading

unfoldable pub digit_value : ℕ → ℕ
digit_value x = pick (ltb x 58) (x - 48) (x - 87)

-- the number whose digits are those of a and then these
unfoldable pub value_from : ℕ → ℕ → List ℕ → ℕ
value_from b a [] = a
value_from b a (x ∷ xs) = value_from b (a * b + digit_value x) xs

unfoldable pub value : ℕ → List ℕ → ℕ
value b s = value_from b 0 s
