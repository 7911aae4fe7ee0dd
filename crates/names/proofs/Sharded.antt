-- Laws of shard names: their length, and that two numbers of one specification never share one.
use Prim.Native.Nat.{ℕ, zero, suc, ◌+◌, ◌-◌, ◌*◌, ◌/◌, ◌^◌, ◌≤◌, ◌<◌, max}
use Rattle.std.specs.Int.{div_ceil}
use mathlib.Core.Path.{◌≡◌, refl, sym, ap, ◌∙◌}
use mathlib.Core.Bool.{true}
use mathlib.Core.List.{List, ◌++◌}
use native.Mathlib.Omega.{arith}
use native.Mathlib.Nat.{pow-le-pow_right}
use borrow.Author.Rules.{rules}
use lib.Dec.{lit<, leb}
use lib.ListN.{length, take, replicate, length-append}
use lib.Seq.{take_at}
use Rattle.sharding.specs.Specification.{shard_bits_of, allowed, no_such_shard, shard_count_of}
use Rattle.sharding.specs.declared.Sharding.{Sharding}
use Rattle.sharding.proofs.Allowed.{allowed-within}
use Rattle.names.specs.digits.Digits.{digits, digit_count}
use Rattle.names.specs.Shards.{shard_digits, suffix_of, file_name, shard_name}
use Rattle.names.specs.declared.FileKind.{FileKind}
use Rattle.names.specs.declared.FileKind.TheVariants.{Shard}
use Rattle.names.proofs.digits.Numerals.{length_digits, same_digits, padded, count-holds, count-least}

-- ---- how long

pub length-file-name : (kind : FileKind) (spec : Sharding) (n : ℕ) → length (file_name kind spec n) ≡ shard_digits spec + length (suffix_of kind)
unfolding file_name
length-file-name kind spec n = rw (length-append, length_digits 16 (shard_digits spec) n)

pub digits_made : (spec : Sharding) → max (div_ceil (shard_bits_of spec) 4) 1 ≡ shard_digits spec
unfolding shard_digits
digits_made spec = omega arith

-- the same by a sum
pub digits_raised : (spec : Sharding) → max ((shard_bits_of spec + 3) / 4) 1 ≡ shard_digits spec
unfolding shard_digits
digits_raised spec = omega arith

pub digits_most : (spec : Sharding) → shard_bits_of spec < 256 → shard_digits spec ≤ 64
unfolding shard_digits
digits_most spec h = omega arith

digits-one : (spec : Sharding) → 0 < shard_digits spec
unfolding shard_digits
digits-one spec = omega arith

-- an allowed specification's names have at most 14 bytes
pub name-most : (spec : Sharding) (n : ℕ) → allowed spec ≡ true → length (shard_name spec n) ≤ 14
unfolding shard_digits
name-most spec n a = let h = (allowed-within a).shard in omega (arith, length-file-name Shard spec n)

-- ---- which numbers

pow_four : (k : ℕ) → 2 ^ (4 * k) ≡ 16 ^ k
pow_four zero = refl
pow_four (suc k) =
    let e : 4 * suc k ≡ suc (suc (suc (suc (4 * k)))) = omega arith in
    rw e (omega (arith, pow_four k))

digits_reach : (spec : Sharding) → shard_bits_of spec ≤ 4 * shard_digits spec
unfolding shard_digits
digits_reach spec = omega arith

-- the digits hold every number of the specification
pub digits_hold : (spec : Sharding) (n : ℕ) → n < shard_count_of spec → n < 16 ^ shard_digits spec
digits_hold spec n h =
    let k : 2 ^ shard_bits_of spec ≤ 2 ^ (4 * shard_digits spec) = pow-le-pow_right (lit< tt) (digits_reach spec) in
    omega (arith, pow_four (shard_digits spec))

pub same-shard : (kind : FileKind) (spec : Sharding) (m n : ℕ) → m < shard_count_of spec → n < shard_count_of spec → file_name kind spec m ≡ file_name kind spec n → m ≡ n
unfolding file_name
same-shard kind spec m n p q e =
    let k = shard_digits spec in
    let f : digits 16 k m ≡ digits 16 k n =
    sym (take_at (digits 16 k m) (suffix_of kind) k (length_digits 16 k m)) ∙ ap (take k) e ∙ take_at (digits 16 k n) (suffix_of kind) k (length_digits 16 k n) in
    same_digits 16 (lit< tt) k m n (digits_hold spec m p) (digits_hold spec n q) f

-- the name is the number's plain hexadecimal text with zeros in front: none of its digits is lost
pub plain_in_name : (spec : Sharding) (n : ℕ) → n < shard_count_of spec
    → shard_name spec n ≡ (replicate (shard_digits spec - digit_count 16 n) 48 ++ digits 16 (digit_count 16 n) n) ++ suffix_of Shard
unfolding file_name
plain_in_name spec n h =
    let c : digit_count 16 n ≤ shard_digits spec = count-least 16 (lit< tt) (shard_digits spec) n (digits-one spec) (digits_hold spec n h) in
    let e : shard_digits spec ≡ (shard_digits spec - digit_count 16 n) + digit_count 16 n = omega arith in
    ap (λ (t : List ℕ). t ++ suffix_of Shard)
    (ap (λ (k : ℕ). digits 16 k n) e ∙ padded 16 (shard_digits spec - digit_count 16 n) (digit_count 16 n) n (lit< tt) (count-holds 16 (lit< tt) n))

-- ---- what the functions need

pub past_all : (spec : Sharding) (n : ℕ) {k : ℕ} → k ≡ shard_count_of spec → leb k n ≡ no_such_shard spec n
past_all spec n e = ap (λ (k : ℕ). leb k n) e

pub ruleset telling = (past_all, rules)
