-- The entries as they are listed, written one after the other; those that passed have distinct ids.
use Rattle.std.proofs.Common.{◌≡◌, ℕ, ◌+◌, ◌*◌, ◌%◌, ◌^◌, ◌<◌, ◌≤◌, eqb, ◌⊎◌, List, length, set, sym, ap, ◌∙◌, inl, inr, arith, get_or-set_other, get_or-set_same, ext_get_or, w64, Fits, rules}
use borrow.Author.Tests.{eqb-false}
use Rattle.endian.proofs.Ranges.{any-miss}
use Rattle.sharding.specs.declared.Sharding.{Sharding}
use Rattle.shard.specs.index.Index.{id_steps, start_steps, sizes, id_at}
use Rattle.shard.specs.index.Tests.{first_of}
use Rattle.shard.proofs.index.Tests.{none-fails}
use Rattle.shard.proofs.index.Tally.{Tally, tally-start, tally-id, tally-place, tally-turn}
use Rattle.duplicate_ids.specs.Twice.{repeats}
use Rattle.lookup.specs.row_judge.Rows.{row_tests, Passed}
use Rattle.lookup.proofs.row_judge.Laws.{row-place-fits}
use Rattle.settled_form.specs.Sorted.{Distinct}
use Rattle.index_sort.specs.declared.three_rows.Entry.{Entry}
use Rattle.index_sort.specs.three_rows.Rows.{id_of, no_entry, nth}
use Rattle.index_sort.proofs.three_rows.Bytes.{entry-eq}
use Rattle.index_sort.proofs.three_rows.Cases.{Either, is, not, either, apart}
use Rattle.index_sort.proofs.phases.Places.{apart_distinct}
use Rattle.lookup_table.specs.sorting.Table.{each, entries_in, Front}
use Rattle.lookup_table.proofs.sorting.Entries.{length-each, each_at, length-entries, only_none, only_then}
use Rattle.lookup_table.specs.Fill.{listed}

-- ---- distinct ids

module _ (spec : Sharding) (shard m room at n : ℕ) (rows : List ℕ) (z : (first_of at n (row_tests spec shard m room rows n)).number ≡ 0) where
  never-twice : (i j : ℕ) → j < i → i < n → id_at (id_steps rows 0) j ≡ id_at (id_steps rows 0) i → ⊥
  unfolding row_tests repeats
  never-twice i j l k e =
      let p = none-fails at n 11 (row_tests spec shard m room rows n) (omega arith, omega arith, (omega arith, omega arith, (omega arith, omega arith, tt))) z in
      eqb-false _ _ (any-miss (λ a. eqb (id_at (id_steps rows 0) a) (id_at (id_steps rows 0) i)) i j (p.0 i k) l) e

  pub ids-apart : (i j : ℕ) → i < n → j < n → id_at (id_steps rows 0) i ≡ id_at (id_steps rows 0) j → i ≡ j
  ids-apart i j l k e = go (either i j)
    where
      other : (i < j) ⊎ (j < i) → i ≡ j
      other (inl h) = absurd (never-twice j i h k e)
      other (inr h) = absurd (never-twice i j h l (sym e))

      go : Either i j → i ≡ j
      go (is q) = q
      go (not ne) = other (apart i j ne)

  pub listed-distinct : (base : ℕ) → Distinct id_of (each (listed base rows n) 0 n)
  listed-distinct base =
      apart_distinct id_of no_entry (each (listed base rows n) 0 n) (λ i j l k e.
      let h = length-each (listed base rows n) 0 n in
      let a = ap id_of (each_at (listed base rows n) n i (omega arith)) in
      let b = ap id_of (each_at (listed base rows n) n j (omega arith)) in
      ids-apart i j (omega arith) (omega arith) (sym a ∙ e ∙ b))

-- ---- the loop that writes them

pub record Writing (base : ℕ) (rows : List ℕ) (n : ℕ) (d₀ d : List ℕ) (at cur i : ℕ) : Type 0 where
  pub tally : Tally (id_steps rows 0) (start_steps rows 0 n) (sizes rows 0 n) n i cur at
  pub only : Front (3 * n) d₀ d
  pub done : (j : ℕ) → j < i → nth (entries_in d n) j ≡ listed base rows n j

pub writing_start : (base : ℕ) (rows : List ℕ) (n : ℕ) (d : List ℕ) → Writing base rows n d d 0 0 0
writing_start base rows n d = record { tally = tally-start _ _ _ _; only = only_none (3 * n) d; done = λ j l. absurd (omega arith) }

pub writing_room : {base : ℕ} {rows : List ℕ} {n : ℕ} {d₀ d : List ℕ} {at cur i : ℕ} → Writing base rows n d₀ d at cur i → 3 * n ≤ length d₀ → 3 * n ≤ length d
writing_room w l = omega (arith, w.only.long)

module _ {base : ℕ} {rows : List ℕ} {n : ℕ} {d₀ d : List ℕ} {at cur i : ℕ} (w : Writing base rows n d₀ d at cur i) (l : i < n)
    {x y u v : ℕ} (e : x ≡ id_steps rows 0 i) (p : u ≡ (cur + x) % 2 ^ 64) (f : y ≡ start_steps rows 0 n i) (q : v ≡ (at + y) % 2 ^ 64) where
  pub writing_fits : Passed base rows n → Fits w64 (base + v)
  writing_fits s = row-place-fits base s w.tally l f q

  module _ {z : ℕ} (g : z ≡ sizes rows 0 n i) where
    this : ◌≡◌ {A = Entry} (record { id = u; start = base + v; size = z }) (listed base rows n i)
    this = entry-eq (tally-id w.tally e p) (ap (λ (k : ℕ). base + k) (tally-place w.tally f q)) g

    pub writing_turn : {d' : List ℕ} {t : ℕ} → entries_in d' n ≡ set (entries_in d n) i (record { id = u; start = base + v; size = z }) → Front (3 * n) d d' → t ≡ (v + z) % 2 ^ 64
        → Writing base rows n d₀ d' t u (i + 1)
    writing_turn {d'} s o h = record {
      tally = tally-turn w.tally l e p f q g h;
      only = only_then w.only o;
      done = λ j k. ap (λ (es : List Entry). nth es j) s ∙ go j k (either j i);
    }
      where
        go : (j : ℕ) → j < i + 1 → Either j i → nth (set (entries_in d n) i (record { id = u; start = base + v; size = z })) j ≡ listed base rows n j
        go j k (is c) = rw c (get_or-set_same (entries_in d n) i _ no_entry (omega (arith, length-entries d n)) ∙ this)
        go j k (not c) = get_or-set_other (entries_in d n) i j _ no_entry c ∙ w.done j (omega (arith, c))

module _ {base : ℕ} {rows : List ℕ} {n : ℕ} {d₀ d : List ℕ} {at cur i : ℕ} (w : Writing base rows n d₀ d at cur i) (l : n ≤ i) where
  pub written-entries : entries_in d n ≡ each (listed base rows n) 0 n
  written-entries =
      ext_get_or no_entry (entries_in d n) (each (listed base rows n) 0 n) (length-entries d n ∙ sym (length-each (listed base rows n) 0 n))
      (λ j k. let h : j < n = omega (arith, length-entries d n) in w.done j (omega arith) ∙ sym (each_at (listed base rows n) n j h))

  pub written-only : Front (3 * n) d₀ d
  written-only = w.only

pub ruleset writing = (writing_start, writing_room, writing_fits, writing_turn, written-entries, written-only, rules)
