-- Whatever a part of the grammar skips ends behind where it began: by this the loops of arrays and objects end.
use Prim.Native.Nat.{ℕ, zero, suc, ◌+◌, ◌≤◌}
use mathlib.Core.Path.{◌≡◌, refl}
use mathlib.Core.List.{List}
use mathlib.Core.Bool.{Bool, true, false}
use native.Mathlib.Omega.{arith}
use lib.ListN.{length, get_or}
use Rattle.json_text.specs.tokens.Bytes.{choose, is_digit, is_ws}
use Rattle.json_text.specs.tokens.Parts.{and_then, follow, ws, digits, mark_at, close_at, word_at}
use Rattle.json_text.specs.tokens.Numbers.{is_sign, some_digits, int_at, frac_at, sign_at, exp_at, unsigned_at, number_at}
use Rattle.std.specs.Prelude.{Option, Some, None}
use Rattle.json_text.proofs.tokens.Laws.{le-span, span-on, digit_zero}
use Rattle.json_text.specs.characters.Chars.{char_len}
use Rattle.json_text.specs.strings.Chars.{chars_at, string_at}
use Rattle.json_text.specs.Grammar.{scalar_at, items_at, list_at, member_at, value_at}

-- if r is `Some e`, e is at least k
abbrev pub Ahead : ℕ → Option ℕ → Type 0
Ahead k r = (e : ℕ) → r ≡ Some e → k ≤ e

bad : (k : ℕ) → Ahead k None
bad k e p = let z : ◌≡◌ {A = ℕ} 0 1 = cc in omega arith

after : (k n : ℕ) → k ≤ n → Ahead k (Some n)
after k n h e p = let q : n ≡ e = cc in omega arith

if_ahead : (k : ℕ) (t : Bool) (a b : Option ℕ) → (t ≡ true → Ahead k a) → (t ≡ false → Ahead k b) → Ahead k (choose t a b)
unfolding choose
if_ahead k true a b p q = p refl
if_ahead k false a b p q = q refl

-- a first part that ends at m or later, and a second part that ends at k or later wherever the first ends
then_ahead : (k m : ℕ) (r : Option ℕ) (f : ℕ → Option ℕ) → Ahead m r → ((n : ℕ) → m ≤ n → Ahead k (f n)) → Ahead k (and_then r f)
unfolding and_then
then_ahead k m (Some n) f p q = q n (p n refl)
then_ahead k m None f p q = bad k

follow_ahead : (k m : ℕ) (r : Option ℕ) (f : ℕ → Option ℕ) (o : Option ℕ) → Ahead m r → ((n : ℕ) → m ≤ n → Ahead k (f n)) → Ahead k o → Ahead k (follow r f o)
unfolding follow
follow_ahead k m (Some n) f o p q h = q n (p n refl)
follow_ahead k m None f o p q h = h

less : (k m : ℕ) (r : Option ℕ) → k ≤ m → Ahead m r → Ahead k r
less k m r h p e q = let z : m ≤ e = p e q in omega arith

some_ahead : (s : List ℕ) (i : ℕ) → Ahead (i + 1) (some_digits s i)
unfolding some_digits
some_ahead s i = if_ahead (i + 1) _ _ _ (λ t. after (i + 1) (digits s i) (omega (arith, le-span is_digit s (i + 1), span-on is_digit s i digit_zero t))) (λ t. bad (i + 1))

int_ahead : (s : List ℕ) (i : ℕ) → Ahead (i + 1) (int_at s i)
unfolding int_at
int_ahead s i = if_ahead (i + 1) _ _ _ (λ t. after (i + 1) (i + 1) (omega arith)) (λ t. some_ahead s i)

frac_ahead : (s : List ℕ) (i : ℕ) → Ahead i (frac_at s i)
unfolding frac_at
frac_ahead s i = if_ahead i _ _ _ (λ t. less i (i + 1 + 1) _ (omega arith) (some_ahead s (i + 1))) (λ t. after i i (omega arith))

sign_ahead : (s : List ℕ) (i : ℕ) → i ≤ sign_at s i
unfolding sign_at choose
sign_ahead s i = go (is_sign (get_or s i 0))
  where
    go : (t : Bool) → i ≤ choose t (i + 1) i
    go true = omega arith
    go false = omega arith

exp_ahead : (s : List ℕ) (i : ℕ) → Ahead i (exp_at s i)
unfolding exp_at
exp_ahead s i = if_ahead i _ _ _ (λ t. less i (sign_at s (i + 1) + 1) _ (omega (arith, sign_ahead s (i + 1))) (some_ahead s (sign_at s (i + 1)))) (λ t. after i i (omega arith))

unsigned_ahead : (s : List ℕ) (i : ℕ) → Ahead (i + 1) (unsigned_at s i)
unfolding unsigned_at
unsigned_ahead s i = then_ahead (i + 1) (i + 1) _ _ (int_ahead s i) (λ j p. then_ahead (i + 1) j _ _ (frac_ahead s j) (λ k q. less (i + 1) k _ (omega arith) (exp_ahead s k)))

number_ahead : (s : List ℕ) (i : ℕ) → Ahead (i + 1) (number_at s i)
unfolding number_at
number_ahead s i = if_ahead (i + 1) _ _ _ (λ t. less (i + 1) (i + 1 + 1) _ (omega arith) (unsigned_ahead s (i + 1))) (λ t. unsigned_ahead s i)

chars_ahead : (s : List ℕ) (n i : ℕ) → Ahead i (chars_at s n i)
unfolding chars_at
chars_ahead s zero i = bad i
chars_ahead s (suc n) i = if_ahead i _ _ _ (λ t. after i (i + 1) (omega arith)) (λ t. if_ahead i _ _ _ (λ u. bad i) (λ u. less i (i + char_len s i) _ (omega arith) (chars_ahead s n (i + char_len s i))))

pub string_ahead : (s : List ℕ) (i : ℕ) → Ahead (i + 1) (string_at s i)
unfolding string_at
string_ahead s i = if_ahead (i + 1) _ _ _ (λ t. chars_ahead s (length s) (i + 1)) (λ t. bad (i + 1))

word_ahead : (s : List ℕ) (i a b c d : ℕ) → Ahead (i + 1) (word_at s i a b c d)
unfolding word_at
word_ahead s i a b c d = if_ahead (i + 1) _ _ _ (λ t. after (i + 1) (i + 4) (omega arith)) (λ t. bad (i + 1))

scalar_ahead : (s : List ℕ) (i : ℕ) → Ahead (i + 1) (scalar_at s i)
unfolding scalar_at
scalar_ahead s i =
    if_ahead (i + 1) _ _ _ (λ t. string_ahead s i) (λ t.
    if_ahead (i + 1) _ _ _ (λ t. word_ahead s i 0x74 0x72 0x75 0x65) (λ t.
    if_ahead (i + 1) _ _ _ (λ t. word_ahead s i 0x6E 0x75 0x6C 0x6C) (λ t.
    if_ahead (i + 1) _ _ _ (λ t. less (i + 1) (i + 1 + 1) _ (omega arith) (word_ahead s (i + 1) 0x61 0x6C 0x73 0x65)) (λ t. number_ahead s i))))

pub mark_ahead : (mark : ℕ) (s : List ℕ) (i : ℕ) → Ahead (i + 1) (mark_at mark s i)
unfolding mark_at
mark_ahead mark s i = if_ahead (i + 1) _ _ _ (λ t. after (i + 1) (ws s (ws s i + 1)) (omega (arith, le-span is_ws s i, le-span is_ws s (ws s i + 1)))) (λ t. bad (i + 1))

close_ahead : (mark : ℕ) (s : List ℕ) (i : ℕ) → Ahead (i + 1) (close_at mark s i)
unfolding close_at
close_ahead mark s i = if_ahead (i + 1) _ _ _ (λ t. after (i + 1) (ws s i + 1) (omega (arith, le-span is_ws s i))) (λ t. bad (i + 1))

items_ahead : (item : ℕ → Option ℕ) (close : ℕ) (s : List ℕ) → ((i : ℕ) → Ahead (i + 1) (item i)) → (n i : ℕ) → Ahead i (items_at item close s n i)
unfolding items_at
items_ahead item close s h zero i = bad i
items_ahead item close s h (suc n) i =
    then_ahead i (i + 1) _ _ (h i) (λ e p.
    follow_ahead i (e + 1) _ _ _ (mark_ahead 0x2C s e) (λ j q. less i j _ (omega arith) (items_ahead item close s h n j)) (less i (e + 1) _ (omega arith) (close_ahead close s e)))

list_ahead : (item : ℕ → Option ℕ) (close : ℕ) (s : List ℕ) → ((i : ℕ) → Ahead (i + 1) (item i)) → (i : ℕ) → Ahead i (list_at item close s i)
unfolding list_at
list_ahead item close s h i =
    if_ahead i _ _ _ (λ t. after i (ws s i + 1) (omega (arith, le-span is_ws s i)))
    (λ t. less i (ws s i) _ (le-span is_ws s i) (items_ahead item close s h (length s) (ws s i)))

pub member_ahead : (value : ℕ → Option ℕ) (s : List ℕ) → ((i : ℕ) → Ahead (i + 1) (value i)) → (i : ℕ) → Ahead (i + 1) (member_at value s i)
unfolding member_at
member_ahead value s h i =
    then_ahead (i + 1) (i + 1) _ _ (string_ahead s i) (λ e p.
    then_ahead (i + 1) (e + 1) _ _ (mark_ahead 0x3A s e) (λ j q. less (i + 1) (j + 1) _ (omega arith) (h j)))

pub value_ahead : (d : ℕ) (s : List ℕ) (i : ℕ) → Ahead (i + 1) (value_at d s i)
unfolding value_at
value_ahead zero s i = bad (i + 1)
value_ahead (suc d) s i =
    if_ahead (i + 1) _ _ _ (λ t. list_ahead (member_at (value_at d s) s) 0x7D s (member_ahead (value_at d s) s (value_ahead d s)) (i + 1)) (λ t.
    if_ahead (i + 1) _ _ _ (λ u. list_ahead (value_at d s) 0x5D s (value_ahead d s) (i + 1)) (λ u. scalar_ahead s i))
