-- The checks of minishards and files: their numbers are in the table, and number and position of the first that holds are those of the first fault.
use Rattle.std.proofs.Common.{◌≡◌, ℕ, zero, suc, ◌+◌, ◌≤◌, Bool, true, false, not, eqb, ltb, List, [], ◌∷◌, length, sym, refl, ◌∙◌, ap₂, arith, ltb-false, le-ltb, ne_eqb}
use mathlib.Core.Option.{Option, some}
use borrow.Author.Tests.{not-false}
use Rattle.refusal.specs.Choice.{pick}
use Rattle.refusal.specs.Table.{last}
use Rattle.refusal.specs.Checks.{first_number, first_position, unless, answered, answered_at}
use Rattle.refusal.proofs.Tests.{neither}
use Rattle.refusal.proofs.Picks.{AllIn, all_in_lem, all_in_both, by_picks}
use Rattle.refusal.proofs.Refusing.{or_else, first-both}
use Rattle.refusal.proofs.Positions.{at_both, at_plain, at-placed}
use Rattle.endian.specs.Range.{any_below}
use Rattle.sharding.specs.declared.Sharding.{Sharding}
use Rattle.sharding.specs.Specification.{allowed, minishard_count_of, no_such_shard}
use Rattle.shard.specs.declared.index.Fault.{Fault}
use Rattle.shard.specs.declared.ShardFault.{ShardFault}
use Rattle.shard.specs.index.Index.{entry_start_of, entry_end_of, entry_count, most_shard_bytes}
use Rattle.shard.specs.index.Tests.{EntryTest, fault, entry_place, test_place, first_of}
use Rattle.shard.specs.Faults.{bad_entry, bad_length, entry_tests, fault_at, fault_of, or_later, first_fault, shard_fault}
use Rattle.shard.specs.Checks.{entry_checks, minishard_checks, minishards_checks}
use Rattle.shard.specs.File.{index_length_of, index_part, data_part, bad_file_length, file_checks, shard_checks}
use Rattle.shard.proofs.index.Tests.{Numbered}
use Rattle.shard.proofs.Meshes.{tests_numbered}

-- ---- 'number or 0' made into an answer

module _ {A : Type 0} (r : ℕ → A) where
  pub unless-some : (k : ℕ) (a : A) → (k ≡ 0 → ⊥) → r k ≡ unless r k a
  unfolding unless
  unless-some zero a n = absurd (n refl)
  unless-some (suc k) a n = refl

  pub unless-none : (k : ℕ) (a : A) → k ≡ 0 → a ≡ unless r k a
  unfolding unless
  unless-none zero a n = refl
  unless-none (suc k) a n = absurd (omega arith)

pub or-none : (a b : ℕ) → or_else a b ≡ 0 → (a ≡ 0) × (b ≡ 0)
unfolding or_else
or-none zero b e = (refl, e)
or-none (suc a) b e = absurd (omega arith)

pub pick-zero : (b : Bool) (k y : ℕ) → pick b (suc k) y ≡ 0 → (b ≡ false) × (y ≡ 0)
pick-zero true k y e = absurd (omega arith)
pick-zero false k y e = (refl, e)

-- ---- a minishard

pick-number : (b : Bool) (f g : Fault) → pick b f.number g.number ≡ (pick b f g).number
pick-number true f g = refl
pick-number false f g = refl

pub entries-in : (p n k : ℕ) (ts : List EntryTest) → k ≤ last → Numbered k ts → AllIn (entry_checks p n ts)
unfolding entry_checks
entries-in p n k [] l h = tt
entries-in p n k (t ∷ ts) l h = ((omega (arith, h.0), omega (arith, h.1)), entries-in p n k ts l h.2)

pub entries-number : (p n : ℕ) (ts : List EntryTest) → first_number (entry_checks p n ts) ≡ (first_of p n ts).number
unfolding entry_checks first_number first_of
entries-number p n [] = refl
entries-number p n (t ∷ ts) =
    rw (entries-number p n ts) (pick-number (any_below n t.fails) (fault t.number (test_place p n t)) (first_of p n ts))

-- the position goes with the number
pick-position : (b : Bool) (f g : Fault) (q : Option ℕ) → ((g.number ≡ 0 → ⊥) → q ≡ some g.position) → ((pick b f g).number ≡ 0 → ⊥)
    → pick b (some f.position) q ≡ some (pick b f g).position
pick-position true f g q h n = refl
pick-position false f g q h n = h n

entries-position : (p n : ℕ) (ts : List EntryTest) → ((first_of p n ts).number ≡ 0 → ⊥) → first_position (entry_checks p n ts) ≡ some (first_of p n ts).position
unfolding entry_checks first_position first_of
entries-position p n [] h = absurd (h refl)
entries-position p n (t ∷ ts) h =
    pick-position (any_below n t.fails) (fault t.number (test_place p n t)) (first_of p n ts) (first_position (entry_checks p n ts)) (entries-position p n ts) h

-- the first fault of several minishards, after that of m
later-answer : {A : Type 0} (at : ℕ → ℕ → A) (m : ℕ) (f : Fault) (later : ShardFault) (a : A)
    → unless (λ k. at k f.position) f.number (unless (λ k. at k later.position) later.number a)
    ≡ unless (λ k. at k (or_later m f later).position) (or_later m f later).number a
unfolding or_later
later-answer at m f later a = go f.number refl
  where
    go : (k : ℕ) → f.number ≡ k → unless (λ k. at k f.position) f.number (unless (λ k. at k later.position) later.number a)
        ≡ unless (λ k. at k (pick (eqb f.number 0) later (record { number = f.number; minishard = m; position = f.position })).position)
        (pick (eqb f.number 0) later (record { number = f.number; minishard = m; position = f.position })).number a
    go zero e = unfold unless in rw e
    go (suc k) e = unfold unless in rw (e, ne_eqb (suc k) 0 (λ z. omega arith))

later-number : (m k p : ℕ) (later : ShardFault) → (or_later m (fault k p) later).number ≡ or_else k later.number
unfolding or_later or_else
later-number m zero p later = refl
later-number m (suc k) p later = rw (ne_eqb (suc k) 0 (λ z. omega arith))

module _ (spec : Sharding) (shard : ℕ) (index d : List ℕ) where
  pub minishard_in : (m : ℕ) → AllIn (minishard_checks spec shard index d m)
  unfolding minishard_checks
  minishard_in m =
      let s = entry_start_of index m in
      let e = entry_end_of index m in
      let n = entry_count s e in (
        (omega arith, omega arith),
        ((omega arith, omega arith), entries-in (length index + s) n 21 (entry_tests spec shard m d s n) (omega arith) (tests_numbered spec d s n shard m)),
      )

  pub minishard-number : (m : ℕ) → first_number (minishard_checks spec shard index d m) ≡ (fault_of spec shard index d m).number
  unfolding minishard_checks first_number fault_of fault_at
  minishard-number m =
      let s = entry_start_of index m in
      let e = entry_end_of index m in
      let n = entry_count s e in
      let tests = entry_tests spec shard m d s n in
      let p = length index + s in
      rw (entries-number p n tests, pick-number (bad_length s e) (fault 8 (entry_place m)) (first_of p n tests)) (pick-number (bad_entry d s e) (fault 7 (entry_place m)) _)

  pub minishard-position : (m : ℕ) → ((fault_of spec shard index d m).number ≡ 0 → ⊥) → first_position (minishard_checks spec shard index d m) ≡ some (fault_of spec shard index d m).position
  unfolding minishard_checks first_position fault_of fault_at
  minishard-position m h =
      let s = entry_start_of index m in
      let e = entry_end_of index m in
      let n = entry_count s e in
      let tests = entry_tests spec shard m d s n in
      let p = length index + s in
      pick-position (bad_entry d s e) (fault 7 (entry_place m)) _ _
      (pick-position (bad_length s e) (fault 8 (entry_place m)) (first_of p n tests) _ (entries-position p n tests))
      h

  -- an answer by these checks is one by the fault
  pub minishard-answer : {A : Type 0} (r : ℕ → A) (at : ℕ → ℕ → A) (m : ℕ) (a : A)
      → answered_at r at (minishard_checks spec shard index d m) a ≡ unless (λ k. at k (fault_of spec shard index d m).position) (fault_of spec shard index d m).number a
  minishard-answer r at m a = at-placed r at (minishard_checks spec shard index d m) _ _ a (minishard-number m) (minishard-position m)

  -- ---- minishards in number order

  minishards_in : (m k : ℕ) → AllIn (minishards_checks spec shard index d m k)
  unfolding minishards_checks
  minishards_in m zero = tt
  minishards_in m (suc k) =
      all_in_both (minishard_checks spec shard index d m) (minishards_checks spec shard index d (suc m) k) (minishard_in m) (minishards_in (suc m) k)

  pub minishards-number : (m k : ℕ) → first_number (minishards_checks spec shard index d m k) ≡ (first_fault (fault_of spec shard index d) m k).number
  unfolding minishards_checks first_fault
  minishards-number m zero = unfold first_number in refl
  minishards-number m (suc k) =
      let f = fault_of spec shard index d m in
      first-both (minishard_checks spec shard index d m) (minishards_checks spec shard index d (suc m) k) (minishard_in m)
      ∙ ap₂ or_else (minishard-number m) (minishards-number (suc m) k)
      ∙ sym (later-number m f.number f.position (first_fault (fault_of spec shard index d) (suc m) k))

  minishards-answer : {A : Type 0} (r : ℕ → A) (at : ℕ → ℕ → A) (m k : ℕ) (a : A)
      → answered_at r at (minishards_checks spec shard index d m k) a
      ≡ unless (λ j. at j (first_fault (fault_of spec shard index d) m k).position) (first_fault (fault_of spec shard index d) m k).number a
  unfolding minishards_checks first_fault
  minishards-answer r at m zero a = unfold first_number first_position unless in refl
  minishards-answer r at m (suc k) a =
      at_both r at (minishard_checks spec shard index d m) (minishards_checks spec shard index d (suc m) k) a (minishard_in m)
      ∙ minishard-answer r at m _
      ∙ rw (minishards-answer r at (suc m) k a) (later-answer at m (fault_of spec shard index d m) (first_fault (fault_of spec shard index d) (suc m) k) a)

-- ---- a file

module _ (spec : Sharding) (five : Bool) (file : List ℕ) where
  pub file_in : AllIn (file_checks spec five file)
  unfolding file_checks
  file_in = all_in_lem (file_checks spec five file) refl

  -- an answer by 1, 5 and 6 as a choice for each
  pub file_picks : {A : Type 0} (r : ℕ → A) (a : A)
      → answered r (file_checks spec five file) a ≡ pick (not (allowed spec)) (r 1) (pick five (r 5) (pick (bad_file_length spec (length file)) (r 6) a))
  unfolding file_checks
  file_picks r a = by_picks r (file_checks spec five file) a refl

  -- they carry no position
  pub file-answer : {A : Type 0} (r : ℕ → A) (at : ℕ → ℕ → A) (a : A) → answered_at r at (file_checks spec five file) a ≡ answered r (file_checks spec five file) a
  unfolding file_checks
  file-answer r at a = at_plain r at (file_checks spec five file) a (refl, (refl, (refl, tt)))

-- what it is where none of them holds
pub record Called (spec : Sharding) (five : Bool) (file : List ℕ) : Type 0 where
  pub permitted : allowed spec ≡ true
  pub other : five ≡ false
  pub held : index_length_of spec ≤ length file
  pub short : length file ≤ most_shard_bytes

pub file-called : (spec : Sharding) (five : Bool) (file : List ℕ) → first_number (file_checks spec five file) ≡ 0 → Called spec five file
unfolding file_checks first_number bad_file_length
file-called spec five file e =
    let q1 = pick-zero (not (allowed spec)) 0 _ e in
    let q5 = pick-zero five 4 _ q1.1 in
    let q6 = pick-zero (bad_file_length spec (length file)) 5 _ q5.1 in
    let o = neither (ltb (length file) (index_length_of spec)) _ q6.0 in
    record { permitted = not-false _ q1.0; other = q5.0; held = ltb-false _ _ o.0; short = ltb-false _ _ o.1 }

pub called-file : {spec : Sharding} {five : Bool} {file : List ℕ} → Called spec five file → first_number (file_checks spec five file) ≡ 0
unfolding file_checks first_number bad_file_length
called-file {spec} {five} {file} c =
    rw (c.permitted, c.other, le-ltb (length file) (index_length_of spec) c.held, le-ltb most_shard_bytes (length file) c.short)

-- ---- a shard

module _ (spec : Sharding) (shard : ℕ) (file : List ℕ) where
  pub shard_in : AllIn (shard_checks spec shard file)
  unfolding shard_checks
  shard_in =
      all_in_both (file_checks spec (no_such_shard spec shard) file) _ (file_in spec (no_such_shard spec shard) file)
      (minishards_in spec shard (index_part spec file) (data_part spec file) 0 (minishard_count_of spec))

  -- an answer by its checks is one by 1, 5 and 6, and then by the first fault
  pub shard-answer : {A : Type 0} (r : ℕ → A) (at : ℕ → ℕ → A) (a : A) → answered_at r at (shard_checks spec shard file) a
      ≡ answered r (file_checks spec (no_such_shard spec shard) file)
      (unless (λ k. at k (shard_fault spec shard (index_part spec file) (data_part spec file)).position) (shard_fault spec shard (index_part spec file) (data_part spec file)).number a)
  unfolding shard_checks shard_fault
  shard-answer r at a =
      at_both r at (file_checks spec (no_such_shard spec shard) file) _ a (file_in spec (no_such_shard spec shard) file)
      ∙ rw (minishards-answer spec shard (index_part spec file) (data_part spec file) r at 0 (minishard_count_of spec) a) (file-answer spec (no_such_shard spec shard) file r at _)
