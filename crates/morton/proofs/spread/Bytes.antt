-- Spread bits a byte at a time, as the code makes them.
use Prim.Native.Nat.{ℕ, ◌+◌, ◌-◌, ◌*◌, ◌/◌, ◌%◌, ◌^◌, ◌≤◌, ◌<◌}
use mathlib.Core.Path.{◌≡◌, sym, ap, ◌∙◌}
use mathlib.Core.List.{List}
use native.Mathlib.Omega.{arith}
use lib.ListN.{get_or}
use lib.Pow.{pow_mono, shl_exact}
use mir.Syntax.{w64}
use mir.Val.{Fits}
use Rattle.morton.specs.spread.Spread.{spread, Spreads}
use Rattle.morton.proofs.spread.Spreading.{spread-add, spread-mod, spread-low, spread-most}

-- a mask of n ones
pub ones : (n : ℕ) → n ≤ 32 → (1 * 2 ^ n) % 2 ^ 64 ≡ 2 ^ n
ones n h = shl_exact 1 n 64 (omega arith) (omega arith) ∙ omega arith

byte : (w : ℕ) → spread 8 (w % 256) ≡ spread 8 w
byte w = spread-mod 8 0 w

-- a byte, and n bits past it
past_byte : (n w : ℕ) → spread (8 + n) w ≡ spread 8 (w % 256) + 16777216 * spread n (w / 256)
past_byte n w = rw byte (spread-add 8 n w)

cut : (v n m : ℕ) {w : ℕ} → w ≡ v % 2 ^ n → n ≤ m → spread m w ≡ spread n v
cut v n m e h =
    let f : m ≡ n + (m - n) = omega arith in
    rw (f, e) (spread-low n (m - n) v)

pub entry-is : {t : List ℕ} → Spreads t → (b : ℕ) {r : ℕ} → b < 256 → r ≡ get_or t b 0 → r ≡ spread 8 b
entry-is h b l e = e ∙ h.entry b l

pub byte_most : {r : ℕ} (b : ℕ) → r ≡ spread 8 b → r < 16777216
byte_most b e = omega (arith, spread-most 8 b)

pub bits_most : {r : ℕ} (n v : ℕ) → n ≤ 21 → r ≡ spread n v → r < 2 ^ 61
bits_most n v h e =
    let m : 3 * n ≤ 63 = omega arith in
    omega (arith, spread-most n v, pow_mono m)

module _ (v n : ℕ) {w : ℕ} (e : w ≡ v % 2 ^ n) {a : ℕ} (p : a ≡ spread 8 (w % 256)) where
  pub bytes_1 : n ≤ 8 → a ≡ spread n v
  bytes_1 h = p ∙ byte w ∙ cut v n 8 e h

  module _ {b : ℕ} (q : b ≡ spread 8 (w / 256 % 256)) where
    pub bytes_2 : n ≤ 16 → a + 16777216 * b ≡ spread n v
    bytes_2 h = rw (p, q, byte (w / 256)) (sym (past_byte 8 w) ∙ cut v n 16 e h)

    module _ {c : ℕ} (r : c ≡ spread 8 (w / 65536 % 256)) (h : n ≤ 21) where
      pub bytes_3 : a + 16777216 * b + 281474976710656 * c ≡ spread n v
      bytes_3 =
          let f : w / 256 / 256 ≡ w / 65536 = omega arith in
          let k : n ≤ 24 = omega arith in
          let s = past_byte 16 w in
          let t = past_byte 8 (w / 256) in
          let x = cut v n 24 e k in
          let y = byte (w / 65536) in
          let z : spread 8 (w / 256 / 256) ≡ spread 8 (w / 65536) = ap (spread 8) f in
          omega arith

      pub bytes_3_most : a + 16777216 * b + 281474976710656 * c < 2 ^ 61
      bytes_3_most = bits_most n v h bytes_3

      pub bytes_fit : Fits w64 (a + 16777216 * b + 281474976710656 * c)
      bytes_fit = omega (arith, bytes_3_most)

      pub third-fits : Fits w64 (281474976710656 * c)
      third-fits = omega (arith, bytes_3_most)
