-- Order 3's promises: the product by halves of any two numbers, and the hash with it.
use Prim.Native.Nat.{ℕ, ◌+◌, ◌*◌, ◌/◌, ◌%◌, ◌^◌}
use mathlib.Core.Path.{◌≡◌, refl, sym, ap, ap₂, ◌∙◌}
use native.Mathlib.Nat.{add-mul, mul_assoc, mul_comm}
use native.Mathlib.Omega.{arith}
use mir.Syntax.{w32}
use mir.Val.{Fits}
use Rattle.murmur3.specs.Murmur.{mul32, fmix32, finished, murmur3, murmur_hash}
use Rattle.murmur3.proofs.Words.{product_fits, product_halves}
use Rattle.theorems.specs.Hash.{by_halves, fmix_by, tail_by, finished_by, hash_by, Order3}

-- a product's low word is that of its factors' low words
low_word : (a b : ℕ) → mul32 a b ≡ mul32 (a % 2 ^ 32) b
low_word a b =
    let h : a ≡ a % 2 ^ 32 + 2 ^ 32 * (a / 2 ^ 32) = omega arith in
    let p : a * b ≡ (a % 2 ^ 32) * b + 2 ^ 32 * ((a / 2 ^ 32) * b) =
    ap (λ (x : ℕ). x * b) h ∙ add-mul (a % 2 ^ 32) (2 ^ 32 * (a / 2 ^ 32)) b ∙ ap (λ (x : ℕ). (a % 2 ^ 32) * b + x) (mul_assoc (2 ^ 32) (a / 2 ^ 32) b) in
    omega arith

low-words : (a b : ℕ) → mul32 a b ≡ mul32 (a % 2 ^ 32) (b % 2 ^ 32)
low-words a b =
    low_word a b ∙ ap (λ (x : ℕ). x % 2 ^ 32) (mul_comm (a % 2 ^ 32) b) ∙ low_word b (a % 2 ^ 32) ∙ ap (λ (x : ℕ). x % 2 ^ 32) (mul_comm (b % 2 ^ 32) (a % 2 ^ 32))

same-product : (a b : ℕ) → by_halves a b ≡ mul32 a b
same-product a b =
    let fits : (x : ℕ) → Fits w32 (x % 2 ^ 32) = λ x. record { fits = omega arith } in
    let low : (x : ℕ) → x % 65536 ≡ x % 2 ^ 32 % 65536 = λ x. omega arith in
    let high : (x : ℕ) → x / 2 ^ 16 % 65536 ≡ x % 2 ^ 32 / 2 ^ 16 = λ x. omega arith in
    product_halves (fits a) (fits b) (ap₂ ◌*◌ (low a) (low b)) (ap₂ ◌*◌ (high a) (low b)) (ap₂ ◌*◌ (low a) (high b)) ∙ sym (low-words a b)

plain-hash : (n : ℕ) → hash_by mul32 n ≡ murmur_hash n
unfolding hash_by finished_by tail_by fmix_by murmur_hash murmur3 finished fmix32
plain-hash n = refl

same_way : by_halves ≡ mul32
same_way = λ i a b. same-product a b i

pub order_3 : Order3
order_3 = record {
  words = λ a b p q. (product_fits p q).fits;
  product = same-product;
  hash = λ n. ap (λ mul. hash_by mul n) same_way ∙ plain-hash n;
}
