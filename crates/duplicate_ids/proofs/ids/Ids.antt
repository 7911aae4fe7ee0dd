-- Ids as sums modulo 2^64, and entries that repeat one.
use Rattle.std.proofs.Common.{◌≡◌, ℕ, ◌+◌, ◌%◌, ◌^◌, ◌<◌, ◌≤◌, Bool, true, false, eqb, sym, refl, ◌∙◌, add-one, arith, eq-eqb, ne_eqb}
use borrow.Author.Tests.{eqb-false}
use Rattle.endian.specs.Range.{sum_to, any_below}
use Rattle.endian.proofs.Ranges.{any-more, any_hit, any-miss, any-no}
use Rattle.duplicate_ids.specs.ids.Ids.{id_at, repeats}

pub sum-zero : (f : ℕ → ℕ) → 0 ≡ sum_to f 0 % 2 ^ 64
unfolding sum_to
sum-zero f = refl

-- the id of entry i is what the next one adds to
pub id-sum : {r : ℕ} (f : ℕ → ℕ) (i : ℕ) → r ≡ id_at f i → r ≡ sum_to f (i + 1) % 2 ^ 64
unfolding id_at
id-sum f i e = rw add-one e

pub id_next : {r s x : ℕ} (f : ℕ → ℕ) (i : ℕ) → s ≡ sum_to f i % 2 ^ 64 → x ≡ f i → r ≡ (s + x) % 2 ^ 64 → r ≡ id_at f i
unfolding id_at sum_to
id_next f i p q e = omega arith

-- ---- entries that repeat an id

pub repeats_hit : (id : ℕ → ℕ) (i j : ℕ) → j < i → id j ≡ id i → repeats id i ≡ true
unfolding repeats
repeats_hit id i j l e = any_hit (λ j. eqb (id j) (id i)) i j l (eq-eqb _ _ e)

pub repeats-no : (id : ℕ → ℕ) (i : ℕ) → ((j : ℕ) → j < i → id j ≡ id i → ⊥) → repeats id i ≡ false
unfolding repeats
repeats-no id i g = any-no (λ j. eqb (id j) (id i)) i (λ j l. ne_eqb _ _ (g j l))

pub repeats-miss : (id : ℕ → ℕ) (i j : ℕ) → repeats id i ≡ false → j < i → id j ≡ id i → ⊥
unfolding repeats
repeats-miss id i j p l = eqb-false _ _ (any-miss (λ j. eqb (id j) (id i)) i j p l)

pub id-small : (f : ℕ → ℕ) (i : ℕ) → id_at f i < 2 ^ 64
unfolding id_at
id-small f i = omega arith

-- ---- a search for an entry

pub any_found : (f : ℕ → Bool) (n i : ℕ) {r : Bool} → r ≡ f i → r ≡ true → i < n → true ≡ any_below n f
any_found f n i e t h = sym (any_hit f n i h (sym e ∙ t))

pub any-turn : (f : ℕ → Bool) (i : ℕ) {r : Bool} → any_below i f ≡ false → r ≡ f i → r ≡ false → any_below (i + 1) f ≡ false
any-turn f i p e t = any-more f i p (sym e ∙ t)

pub any-end : (f : ℕ → Bool) (n i : ℕ) → any_below i f ≡ false → i ≤ n → n ≤ i → false ≡ any_below n f
any-end f n i p a b = let e : i ≡ n = omega arith in sym (rw e at p)

-- for one that has the id x
pub stands_hit : (id : ℕ → ℕ) (i x j : ℕ) {y : ℕ} → y ≡ id j → y ≡ x → j < i → true ≡ any_below i (λ j. eqb (id j) x)
stands_hit id i x j e f h = sym (any_hit (λ j. eqb (id j) x) i j h (eq-eqb _ _ (sym e ∙ f)))

pub stands-turn : (id : ℕ → ℕ) (x j : ℕ) {y : ℕ} → any_below j (λ j. eqb (id j) x) ≡ false → y ≡ id j → (y ≡ x → ⊥) → any_below (j + 1) (λ j. eqb (id j) x) ≡ false
stands-turn id x j p e f = any-more (λ j. eqb (id j) x) j p (ne_eqb _ _ (λ z. f (e ∙ z)))

-- ---- an entry before entry i that has the id v

pub record Met (id : ℕ → ℕ) (i v : ℕ) : Type 0 where
  pub entry : ℕ
  pub earlier : entry < i
  pub is : id entry ≡ v
