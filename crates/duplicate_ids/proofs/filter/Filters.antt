-- What the filter knows.
use Rattle.std.proofs.Common.{◌≡◌, ℕ, ◌+◌, ◌*◌, ◌/◌, ◌%◌, ◌^◌, ◌<◌, ◌≤◌, max, Bool, true, false, not, eqb, List, length, get_or, set, sym, refl, ap, ◌∙◌, ap₂, ⊎_elim, one-mul, arith, length-set, get_or-set_other, get_or-set_same, shl_exact}
use lib.Arith.{bin_ind}
use lib.Bits.{bit_or, or_step, or_comm, or_self}
use borrow.Author.Tests.{eqb-false, not-true, not-false}
use Rattle.endian.specs.Range.{any_below}
use Rattle.endian.proofs.Ranges.{any_none, any-more, first-none, first_hit}
use Rattle.murmur3.specs.Murmur.{murmur_hash}
use Rattle.duplicate_ids.specs.ids.Ids.{id_at, repeats, first_twice}
use Rattle.duplicate_ids.proofs.ids.Cases.{eq-or-not}
use Rattle.duplicate_ids.proofs.ids.Ids.{repeats-no}
use Rattle.duplicate_ids.specs.filter.Filter.{bit, six_bits, word_of, bits_of, Noting, Sifted}

-- ---- `or`

max_assoc : (x y z : ℕ) → max (max x y) z ≡ max x (max y z)
max_assoc x y z = omega arith

or_half : (a b : ℕ) → bit_or a b / 2 ≡ bit_or (a / 2) (b / 2)
or_half a b = let s = or_step a b in omega arith

or_odd : (a b : ℕ) → bit_or a b % 2 ≡ max (a % 2) (b % 2)
or_odd a b = let s = or_step a b in omega arith

or_assoc : (a b c : ℕ) → bit_or (bit_or a b) c ≡ bit_or a (bit_or b c)
or_assoc a =
    bin_ind (λ (n : ℕ). (b c : ℕ) → bit_or (bit_or n b) c ≡ bit_or n (bit_or b c)) (λ b c. refl)
    (λ n ih b c.
    or_step (bit_or n b) c
    ∙ ap₂ (λ (x y : ℕ). bit_or x (c / 2) * 2 + max y (c % 2)) (or_half n b) (or_odd n b)
    ∙ ap₂ (λ (x y : ℕ). x * 2 + y) (ih (b / 2) (c / 2)) (max_assoc (n % 2) (b % 2) (c % 2))
    ∙ sym (or_step n (bit_or b c) ∙ ap₂ (λ (x y : ℕ). bit_or (n / 2) x * 2 + max (n % 2) y) (or_half b c) (or_odd b c)))
    a

-- bits once set stay set
or-again : (w b : ℕ) → bit_or (bit_or w b) b ≡ bit_or w b
or-again w b = or_assoc w b b ∙ ap (bit_or w) (or_self b)

or-keeps : (w b c : ℕ) → bit_or w c ≡ w → bit_or (bit_or w b) c ≡ bit_or w b
or-keeps w b c e = or_assoc w b c ∙ ap (bit_or w) (or_comm b c) ∙ sym (or_assoc w c b) ∙ ap (λ (x : ℕ). bit_or x b) e

-- ---- an id noted

pub bit_is : (k : ℕ) → (1 * 2 ^ (k % 64)) % 2 ^ 64 ≡ bit k
bit_is k = shl_exact 1 (k % 64) 64 (omega arith) (omega arith) ∙ one-mul (2 ^ (k % 64))

pub word-is : (x : ℕ) {h : ℕ} → h ≡ murmur_hash x → h / 2 ^ 49 ≡ word_of x
unfolding word_of
word-is x e = ap (λ (h : ℕ). h / 2 ^ 49) e

pub bits_is : (x : ℕ) {h b : ℕ} → h ≡ murmur_hash x → b ≡ six_bits h → b ≡ bits_of x
unfolding bits_of
bits_is x e f = f ∙ ap (λ (h : ℕ). six_bits h) e

pub noting : (x : ℕ) {l m : List ℕ} {q b : ℕ} {new : Bool} → q ≡ word_of x → b ≡ bits_of x → q < length l → m ≡ set l q (bit_or (get_or l q 0) b)
    → new ≡ not (eqb (bit_or (get_or l q 0) b) (get_or l q 0)) → Noting x l m new
noting x {l} {m} {q} {b} {new} e f h w t =
    record {
      long = ap length w ∙ simp length-set;
      here = record { set = rw (w, ← e, ← f, get_or-set_same l q (bit_or (get_or l q 0) b) 0 h) (or-again (get_or l q 0) b) };
      kept = λ y k.
          ⊎_elim
          (λ (g : word_of y ≡ q).
          record {
            set =
                let z : bit_or (get_or l q 0) (bits_of y) ≡ get_or l q 0 = rw g at k.set in
                rw (w, g, get_or-set_same l q (bit_or (get_or l q 0) b) 0 h) (or-keeps (get_or l q 0) b (bits_of y) z);
          })
          (λ (g : word_of y ≡ q → ⊥). record { set = rw (w, get_or-set_other l q (word_of y) (bit_or (get_or l q 0) b) 0 g) k.set })
          (eq-or-not (word_of y) q);
      fresh = λ n k.
          let z : bit_or (get_or l q 0) b ≡ get_or l q 0 = rw (← e, ← f) at k.set in
          eqb-false _ _ (not-true _ (sym t ∙ n)) z;
    }

-- ---- the entries so far

pub sift_start : (id : ℕ → ℕ) (l : List ℕ) → Sifted id 0 l
sift_start id l = record { none = any_none _; noted = λ j h. absurd (omega arith) }

module _ {id : ℕ → ℕ} {i x : ℕ} {l m : List ℕ} {new : Bool} (r : Sifted id i l) (e : x ≡ id i) (t : Noting x l m new) where
  turn : repeats id i ≡ false → Sifted id (i + 1) m
  turn n =
      record {
        none = any-more (repeats id) i r.none n;
        noted = λ j h.
            ⊎_elim
            (λ (f : j ≡ i). rw (f, ← e) t.here)
            (λ (f : j ≡ i → ⊥). t.kept (id j) (r.noted j (omega arith)))
            (eq-or-not j i);
      }

  -- an id that is new repeats none
  pub sift_new : not new ≡ false → Sifted id (i + 1) m
  sift_new f = turn (repeats-no id i (λ j h g. t.fresh (not-false _ f) (rw (e, ← g) (r.noted j h))))

  -- one that seems not to be, and is not among those before it
  pub sift_vain : {s : Bool} → s ≡ any_below i (λ j. eqb (id j) x) → s ≡ false → Sifted id (i + 1) m
  unfolding repeats
  sift_vain f g = turn (rw (← e) (sym f ∙ g))

module _ (f : ℕ → ℕ) {i : ℕ} {l : List ℕ} (r : Sifted (id_at f) i l) where
  -- one that is
  pub sift_hit : (n x : ℕ) {s : Bool} → x ≡ id_at f i → s ≡ any_below i (λ j. eqb (id_at f j) x) → s ≡ true → i < n → i ≡ first_twice f n
  unfolding first_twice repeats
  sift_hit n x e p q h = sym (first_hit (repeats (id_at f)) n i r.none h (rw (← e) (sym p ∙ q)))

  pub sift_end : (n : ℕ) → i ≤ n → n ≤ i → n ≡ first_twice f n
  unfolding first_twice
  sift_end n a b = let g : i ≡ n = omega arith in sym (first-none (repeats (id_at f)) n (rw g at r.none))
