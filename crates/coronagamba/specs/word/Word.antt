-- Numbers of the C interface. The answer word: 0 for success, else the refusal's number, with the minishard and the byte position where the rules give them. The wish to drop unlisted bytes.
use Rattle.std.specs.Prelude.{ℕ, ◌+◌, ◌*◌, ◌^◌, Bool, eqb}
use Rattle.std.proofs.Math.Option.{Option, none, some}
use Rattle.refusal.specs.Answers.{Answer}
use Rattle.refusal.specs.Result.{Result, written_result}

-- a part of the word: 0 where the rules give none, else one more than it, so that 0 is told from none
abbrev pub part : Option ℕ → ℕ
part none = 0
part (some n) = n + 1

-- number + 2^8 × (minishard + 1) + 2^32 × (position + 1), a part that is not there being 0 (RULES R6)
abbrev pub word : ℕ → Option ℕ → Option ℕ → ℕ
word number minishard position = number + 2 ^ 8 * part minishard + 2 ^ 32 * part position

-- the answer word of a call: 0 where it succeeds (RULES R6)
unfoldable pub word_of : {B : Type 0} → Result B → ℕ
word_of r = word r.number r.minishard r.position

-- what lent memory holds after a call: what `make` makes of the values, or, refused, what it held before (RULES R5)
abbrev pub or_before : {A B : Type 0} → (B → A) → Option B → A → A
or_before make none before = before
or_before make (some v) before = make v

abbrev pub after : {A B : Type 0} → (B → A) → Result B → A → A
after make r before = or_before make r.values before

-- the lent length after a writer's call
unfoldable pub length_after : Answer ℕ → ℕ → ℕ
length_after a before = after (λ (n : ℕ). n) (written_result a) before

-- the wish of the caller of settling: 1 asks to drop unlisted bytes, and no other number does (RULES U5)
abbrev pub asks_to_drop : ℕ → Bool
asks_to_drop wish = eqb wish 1
