-- 15 numbers are a state, a state that went out comes in again, and what a part changes of its numbers. Each law of the first has the shape of a need.
use Prim.Native.Nat.{ℕ, zero, suc, ◌+◌, ◌-◌, ◌<◌}
use mathlib.Core.Path.{◌≡◌, refl, sym, ap, ◌∙◌}
use mathlib.Core.Logic.{⊎_elim}
use mathlib.Core.List.{List, [], ◌∷◌}
use native.Mathlib.Omega.{arith}
use lib.ListN.{length, get_or, set}
use borrow.Author.Rules.{rules}
use Rattle.sharding.specs.declared.Sharding.{Sharding}
use Rattle.sharding.specs.Specification.{minishard_bits_of, shard_bits_of, Within}
use Rattle.sharding.proofs.Allowed.{allowed-within}
use Rattle.intake.specs.declared.state.Intake.{Intake}
use Rattle.intake.proofs.call_tests.Passing.{unusable-parts}
use Rattle.intake.proofs.admission.Passing.{hands}
use Rattle.std.specs.Prelude.{Ok}
use Rattle.intake.specs.steps.Steps.{taken}
use Rattle.intake.specs.Calls.{part_answer}
use Rattle.intake.specs.numbers.Numbers.{narrow, numbers_of, spec_of, state_of}
use Rattle.intake.proofs.Refused.{part-told}

-- ---- the state

module _ (xs : List ℕ) where
  pub spec_told : {a b c d e : ℕ} → a ≡ narrow (get_or xs 0 0) → b ≡ narrow (get_or xs 1 0) → c ≡ narrow (get_or xs 2 0) → d ≡ narrow (get_or xs 3 0) → e ≡ narrow (get_or xs 4 0)
      → record { preshift = a; hash = b; minishard_bits = c; shard_bits = d; kind = e } ≡ spec_of xs
  unfolding spec_of
  spec_told p q r s t = λ i. record { preshift = p i; hash = q i; minishard_bits = r i; shard_bits = s i; kind = t i }

  pub state-told : {s : Sharding} {p : ℕ} → s ≡ spec_of xs → p ≡ narrow (get_or xs 14 0) → record {
    spec = s;
    shard = get_or xs 5 0;
    output = get_or xs 6 0;
    waiting = get_or xs 7 0;
    minishard = get_or xs 8 0;
    count = get_or xs 9 0;
    last = get_or xs 10 0;
    begin = get_or xs 11 0;
    next = get_or xs 12 0;
    owed = get_or xs 13 0;
    phase = p;
  } ≡ state_of xs
  unfolding state_of
  state-told p q = rw (p, q)

pub ruleset stating = (spec_told, state-told, rules)

-- a state that went out comes in again: its specification and its phase have 8 bits
as_narrow : (n : ℕ) → narrow n < 255 → narrow n ≡ n
as_narrow n l = omega arith

pub state_back : (s : Intake) → s.spec.preshift < 256 → s.spec.hash < 256 → minishard_bits_of s.spec < 256 → shard_bits_of s.spec < 256 → s.spec.kind < 256
    → s.phase < 256 → state_of (numbers_of s) ≡ s
unfolding state_of spec_of numbers_of
state_back s a b c d e f =
    let p : (n : ℕ) → n < 256 → narrow n ≡ n = λ n l. omega arith in
    rw (p s.spec.preshift a, p s.spec.hash b, p (minishard_bits_of s.spec) c, p (shard_bits_of s.spec) d, p s.spec.kind e, p s.phase f)

-- ---- what a part changes: of numbers that no test refuses, the next place and what is owed

-- the numbers of a row by their places
row_of : ℕ → (ℕ → ℕ) → List ℕ
row_of zero f = []
row_of (suc n) f = f 0 ∷ row_of n (λ i. f (suc i))

row_is : (n : ℕ) (xs : List ℕ) → length xs ≡ n → xs ≡ row_of n (λ i. get_or xs i 0)
unfolding row_of
row_is zero [] e = refl
row_is zero (x ∷ xs) e = absurd (omega arith)
row_is (suc n) [] e = absurd (omega arith)
row_is (suc n) (x ∷ xs) e = ap (λ l. x ∷ l) (row_is n xs (omega arith))

module _ (xs : List ℕ) where
  -- the numbers of a state that has these, where each has its bits
  numbers-set : (n : ℕ) → narrow (get_or xs 0 0) ≡ get_or xs 0 0 → narrow (get_or xs 1 0) ≡ get_or xs 1 0 → narrow (get_or xs 2 0) ≡ get_or xs 2 0 → narrow (get_or xs 3 0) ≡ get_or xs 3 0
      → narrow (get_or xs 4 0) ≡ get_or xs 4 0 → narrow (get_or xs 14 0) ≡ get_or xs 14 0
      → set (set (row_of 15 (λ i. get_or xs i 0)) 12 (get_or xs 12 0 + n)) 13 (get_or xs 13 0 - n) ≡ numbers_of (taken (state_of xs) n)
  unfolding row_of state_of spec_of numbers_of
  numbers-set n a b c d e f = rw (a, b, c, d, e, f)

  spec_here : Within (state_of xs).spec → Within (spec_of xs)
  unfolding state_of
  spec_here g = g

  -- an allowed specification and an open phase have their bits
  module _ (g : Within (spec_of xs)) where
    preshift-fits : narrow (get_or xs 0 0) ≡ get_or xs 0 0
    unfolding spec_of
    preshift-fits = as_narrow (get_or xs 0 0) (omega (arith, g.preshift))

    hash-fits : narrow (get_or xs 1 0) ≡ get_or xs 1 0
    unfolding spec_of
    hash-fits = as_narrow (get_or xs 1 0) (⊎_elim (λ z. omega (arith, z)) (λ z. omega (arith, z)) g.hash)

    minishards-fit : narrow (get_or xs 2 0) ≡ get_or xs 2 0
    unfolding spec_of
    minishards-fit = as_narrow (get_or xs 2 0) (omega (arith, g.minishard))

    shards-fit : narrow (get_or xs 3 0) ≡ get_or xs 3 0
    unfolding spec_of
    shards-fit = as_narrow (get_or xs 3 0) (omega (arith, g.shard))

    kind_fits : narrow (get_or xs 4 0) ≡ get_or xs 4 0
    unfolding spec_of
    kind_fits = as_narrow (get_or xs 4 0) (⊎_elim (λ z. omega (arith, z)) (λ z. omega (arith, z)) g.kind)

    changed : (state_of xs).phase ≡ 0 → (n : ℕ) → set (set (row_of 15 (λ i. get_or xs i 0)) 12 (taken (state_of xs) n).next) 13 (taken (state_of xs) n).owed ≡ numbers_of (taken (state_of xs) n)
    unfolding state_of
    changed p n = numbers-set n preshift-fits hash-fits minishards-fit shards-fit kind_fits (as_narrow (get_or xs 14 0) (omega (arith, p)))

  pub part-numbers : length xs ≡ 15 → (d o w : List ℕ) {t : Intake} → part_answer (state_of xs) d o w ≡ Ok t → set (set xs 12 t.next) 13 t.owed ≡ numbers_of t
  part-numbers l d o w {t} q =
      let u = part-told (state_of xs) d o w q in
      let h = hands (state_of xs) (length d) (length o) w u.0 in
      let g : Within (state_of xs).spec = allowed-within h.usual.permitted in
      ap (λ (y : List ℕ). set (set y 12 t.next) 13 t.owed) (row_is 15 xs l)
      ∙ ap (λ (s : Intake). set (set (row_of 15 (λ i. get_or xs i 0)) 12 s.next) 13 s.owed) (sym u.1)
      ∙ changed (spec_here g) (unusable-parts (state_of xs) w h.usable).1 (length d)
      ∙ ap numbers_of u.1
