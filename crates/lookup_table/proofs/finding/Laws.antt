-- The search: each law has the shape of a need.
use Rattle.std.proofs.Common.{◌≡◌, ℕ, ◌+◌, ◌-◌, ◌*◌, ◌/◌, ◌<◌, ◌≤◌, Bool, true, false, not, ltb, ◌⊎◌, min, List, [], ◌∷◌, length, get_or, sym, refl, inl, inr, arith, w64, Fits, rules, ltb-false, ltb-true, le-ltb, lt-ltb, eq-eqb, ne_eqb}
use Rattle.refusal.specs.Choice.{pick}
use Rattle.refusal.specs.Checks.{check}
use Rattle.refusal.proofs.Picks.{by_picks}
use Rattle.endian.specs.Range.{any_below, first}
use Rattle.endian.proofs.Ranges.{any-no, any_hit, first_hit}
use Rattle.lookup.specs.declared.id_search.LookupAnswer.TheVariants.{Refused}
use Rattle.index_sort.proofs.three_rows.Cases.{below}
use Rattle.lookup_table.specs.sorting.Table.{id_in}
use Rattle.lookup_table.specs.finding.Find.{searched, has_id, chunk_in, table_answer, Rises, Finds}
use Rattle.lookup_table.specs.finding.Halving.{Between}

-- ---- how many are searched

pub counted : (t : List ℕ) (n : ℕ) {r : ℕ} → r ≡ min n (length t / 3) → (r ≡ searched t n) × (3 * r ≤ length t)
unfolding searched
counted t n {r} e = (go (below (length t / 3) n), omega arith)
  where
    go : (length t / 3 < n) ⊎ (n ≤ length t / 3) → r ≡ pick (ltb (length t / 3) n) (length t / 3) n
    go (inl l) = rw (lt-ltb (length t / 3) n l) (omega arith)
    go (inr l) = rw (le-ltb (length t / 3) n l) (omega arith)

pub n_searched : (t : List ℕ) (n : ℕ) → n ≤ length t / 3 → n ≡ searched t n
unfolding searched
n_searched t n l = rw (le-ltb (length t / 3) n l)

-- ---- the halving

pub halving_start : (t : List ℕ) (n id : ℕ) → Between t n id 0 n
halving_start t n id = record { within = omega arith; under = λ r i l. absurd (omega arith); past = λ r i l k. absurd (omega arith) }

module _ {t : List ℕ} {n id at len : ℕ} (b : Between t n id at len) (l : 0 < len) where
  pub step_fits : Fits w64 n → Fits w64 (at + (len - len / 2))
  step_fits f = record { fits = omega (arith, f.fits, b.within) }

  pub step-inside : 3 * n ≤ length t → 3 * (at + (len - len / 2) - 1) < length t
  step-inside h = omega (arith, b.within)

  module _ {s : ℕ} (e : s ≡ pick (ltb (id_in t (at + (len - len / 2) - 1)) id) (len - len / 2) 0) where
    pub halving_fits : Fits w64 n → Fits w64 (at + s)
    halving_fits f = record { fits = go (ltb (id_in t (at + (len - len / 2) - 1)) id) e }
      where
        go : (c : Bool) → s ≡ pick c (len - len / 2) 0 → at + s < 18446744073709551616
        go true p = omega (arith, p, f.fits, b.within)
        go false p = omega (arith, p, f.fits, b.within)

    pub halving_turn : Between t n id (at + s) (len / 2)
    halving_turn = go (ltb (id_in t (at + (len - len / 2) - 1)) id) refl e
      where
        go : (c : Bool) → ltb (id_in t (at + (len - len / 2) - 1)) id ≡ c → s ≡ pick c (len - len / 2) 0 → Between t n id (at + s) (len / 2)
        go true q p =
            let z = ltb-true (id_in t (at + (len - len / 2) - 1)) id q in
            record {
              within = omega (arith, b.within);
              under = λ r i k. omega (arith, z, r.rises i (at + (len - len / 2) - 1) (omega arith) (omega (arith, b.within)));
              past = λ r i k o. b.past r i (omega arith) o;
            }
        go false q p =
            let z = ltb-false (id_in t (at + (len - len / 2) - 1)) id q in
            record {
              within = omega (arith, b.within);
              under = λ r i k. b.under r i (omega arith);
              past = λ r i k o. omega (arith, z, r.rises (at + (len - len / 2) - 1) i (omega arith) o);
            }

pub halving_end : {t : List ℕ} {n id at len : ℕ} → Between t n id at len → len ≤ 0 → Between t n id at 0
halving_end b l = record { within = omega (arith, b.within); under = b.under; past = λ r i k o. b.past r i (omega arith) o }

pub ruleset halving = (halving_start, step_fits, step-inside, halving_fits, halving_turn, halving_end, rules)

-- ---- the answer

table_picks : (t : List ℕ) (n id : ℕ) → table_answer t n id ≡ pick (not (any_below n (has_id t id))) (Refused 12) (chunk_in t (first (has_id t id) n))
unfolding table_answer
table_picks t n id = by_picks Refused (check 12 (not (any_below n (has_id t id))) ∷ []) _ refl

-- the first entry with the id is entry i; none has it
pub table-first : (t : List ℕ) (n id i : ℕ) → i < n → id_in t i ≡ id → ((j : ℕ) → j < i → id_in t j ≡ id → ⊥) → table_answer t n id ≡ chunk_in t i
unfolding has_id
table-first t n id i l e none =
    let has = eq-eqb (id_in t i) id e in
    rw (table_picks t n id, any_hit (has_id t id) n i l has, first_hit (has_id t id) n i (any-no (has_id t id) i (λ j k. ne_eqb (id_in t j) id (none j k))) l has)

pub table_none : (t : List ℕ) (n id : ℕ) → ((j : ℕ) → j < n → id_in t j ≡ id → ⊥) → table_answer t n id ≡ Refused 12
unfolding has_id
table_none t n id none = rw (table_picks t n id, any-no (has_id t id) n (λ j k. ne_eqb (id_in t j) id (none j k)))

module _ (t : List ℕ) (n id : ℕ) {m at : ℕ} (s : m ≡ searched t n) (b : Between t m id at 0) where
  pub ends-all : m ≤ at → Finds t (searched t n) id (Refused 12)
  ends-all l = rw (← s) record { in_order_of = λ r. sym (table_none t m id (λ j k e. omega (arith, b.under r j (omega arith)))); in_any = inr refl }

  pub ends-other : at < m → (get_or t (3 * at) 0 ≡ id → ⊥) → Finds t (searched t n) id (Refused 12)
  ends-other l n = rw (← s) record { in_order_of = λ r. sym (table_none t m id (none r)); in_any = inr refl }
    where
      go : Rises t m → (j : ℕ) → j < m → id_in t j ≡ id → j < at ⊎ at ≤ j → ⊥
      go r j k e (inl h) = omega (arith, b.under r j h)
      go r j k e (inr h) = n (omega (arith, r.rises at j h k, b.past r at (omega arith) l))

      none : Rises t m → (j : ℕ) → j < m → id_in t j ≡ id → ⊥
      none r j k e = go r j k e (below j at)

  pub ends-here : at < m → get_or t (3 * at) 0 ≡ id → Finds t (searched t n) id (chunk_in t at)
  ends-here l e =
      rw (← s)
      record {
        in_order_of = λ r. sym (table-first t m id at l e (λ j k q. omega (arith, b.under r j k)));
        in_any = inl (record { entry = at; among = l; asked = e; told = refl });
      }

pub ruleset ending = (ends-all, ends-other, ends-here, rules)
