-- The whole-shard check: its number is that of the first check that holds, it passes exactly the sound shards, and it names the first minishard with a fault.
use Rattle.std.proofs.Common.{◌≡◌, ℕ, zero, suc, ◌+◌, ◌-◌, ◌<◌, ◌≤◌, ◌⊎◌, ◌↔◌, List, sym, refl, ap, ◌∙◌, subst, inl, inr, ⊎_elim, eq-or-lt_of_le, arith, eq-eqb, ne_eqb, leb-false}
use mathlib.Core.Option.{some}
use borrow.Author.Tests.{lt-leb}
use Rattle.refusal.specs.Checks.{first_number, unless}
use Rattle.refusal.specs.Result.{DecidedBy}
use Rattle.refusal.proofs.Results.{told, decided_at}
use Rattle.refusal.proofs.Refusing.{Refuses, refuses}
use Rattle.sharding.specs.declared.Sharding.{Sharding}
use Rattle.sharding.specs.Specification.{minishard_count_of, shard_count_of, no_such_shard}
use Rattle.shard.specs.declared.index.Fault.{Fault}
use Rattle.shard.specs.declared.ShardFault.{ShardFault}
use Rattle.shard.specs.declared.CheckAnswer.{CheckAnswer}
use Rattle.shard.specs.declared.CheckAnswer.TheVariants.{Sound, Refused, Faulty}
use Rattle.shard.specs.Faults.{fault_of, no_fault, or_later, first_fault, shard_fault}
use Rattle.shard.specs.File.{index_part, data_part, file_checks, shard_checks, check_verdict, check_answer, check_result}
use Rattle.shard.specs.Sound.{SoundShard, FirstFaultIs}
use Rattle.shard.proofs.Judged.{passes-minishard, minishard-passes}
use Rattle.shard.proofs.Numbers.{unless-some, shard_in, shard-answer, Called, file-called, called-file, minishard-number, minishard-position}

-- ---- the first fault of k minishards from m on

zero_or : (k : ℕ) → (k ≡ 0) ⊎ (k ≡ 0 → ⊥)
zero_or zero = inl refl
zero_or (suc k) = inr (λ z. omega arith)

later-none : (m : ℕ) (f : Fault) (later : ShardFault) → f.number ≡ 0 → or_later m f later ≡ later
unfolding or_later
later-none m f later e = rw (eq-eqb f.number 0 e)

later-some : (m : ℕ) (f : Fault) (later : ShardFault) → (f.number ≡ 0 → ⊥) → or_later m f later ≡ record { number = f.number; minishard = m; position = f.position }
unfolding or_later
later-some m f later n = rw (ne_eqb f.number 0 n)

-- what is found where it is not nothing: the first of them with a fault
pub record FirstFaulty (f : ℕ → Fault) (m k : ℕ) (r : ShardFault) : Type 0 where
  pub from : m ≤ r.minishard
  pub below : r.minishard < m + k
  pub number : (f r.minishard).number ≡ r.number
  pub position : (f r.minishard).position ≡ r.position
  pub earlier : (j : ℕ) → m ≤ j → j < r.minishard → (f j).number ≡ 0

module _ (f : ℕ → Fault) where
  faultless_each : (m k : ℕ) → (first_fault f m k).number ≡ 0 → (j : ℕ) → m ≤ j → j < m + k → (f j).number ≡ 0
  unfolding first_fault
  faultless_each m zero p j l h = absurd (omega arith)
  faultless_each m (suc k) p j l h = go (faultless_each (suc m) k) (zero_or (f m).number)
    where
      go : ((first_fault f (suc m) k).number ≡ 0 → (i : ℕ) → suc m ≤ i → i < suc m + k → (f i).number ≡ 0) → ((f m).number ≡ 0) ⊎ ((f m).number ≡ 0 → ⊥) → (f j).number ≡ 0
      go ih (inl z) =
          ⊎_elim
          (λ e. subst (λ (i : ℕ). (f i).number ≡ 0) e z)
          (λ o. ih (rw (later-none m (f m) (first_fault f (suc m) k) z) at p) j o (omega arith))
          (eq-or-lt_of_le l)
      go ih (inr n) = absurd (n (rw (later-some m (f m) (first_fault f (suc m) k) n) at p))

  each_faultless : (m k : ℕ) → ((j : ℕ) → m ≤ j → j < m + k → (f j).number ≡ 0) → first_fault f m k ≡ no_fault
  unfolding first_fault
  each_faultless m zero h = refl
  each_faultless m (suc k) h =
      later-none m (f m) _ (h m (omega arith) (omega arith))
      ∙ each_faultless (suc m) k (λ j l o. h j (omega arith) (omega arith))

  pub first-faulty : (m k : ℕ) → ((first_fault f m k).number ≡ 0 → ⊥) → FirstFaulty f m k (first_fault f m k)
  unfolding first_fault
  first-faulty m zero p = absurd (p refl)
  first-faulty m (suc k) p = go (first-faulty (suc m) k) (zero_or (f m).number)
    where
      go : (((first_fault f (suc m) k).number ≡ 0 → ⊥) → FirstFaulty f (suc m) k (first_fault f (suc m) k)) → ((f m).number ≡ 0) ⊎ ((f m).number ≡ 0 → ⊥)
          → FirstFaulty f m (suc k) (or_later m (f m) (first_fault f (suc m) k))
      go ih (inl z) =
          let none = later-none m (f m) (first_fault f (suc m) k) z in
          let r = ih (rw none at p) in
          rw none
          (record {
            from = omega (arith, r.from);
            below = omega (arith, r.below);
            number = r.number;
            position = r.position;
            earlier = λ j l h. ⊎_elim (λ e. subst (λ (i : ℕ). (f i).number ≡ 0) e z) (λ o. r.earlier j o h) (eq-or-lt_of_le l);
          })
      go ih (inr n) =
          rw (later-some m (f m) (first_fault f (suc m) k) n)
          (record { from = omega arith; below = omega arith; number = refl; position = refl; earlier = λ j l h. absurd (omega arith) })

  -- and minishard i is it, where it has a fault and none before it has
  first-is : (m k i : ℕ) → m ≤ i → i < m + k → ((j : ℕ) → m ≤ j → j < i → (f j).number ≡ 0) → ((f i).number ≡ 0 → ⊥)
      → first_fault f m k ≡ record { number = (f i).number; minishard = i; position = (f i).position }
  unfolding first_fault
  first-is m zero i l h p n = absurd (omega arith)
  first-is m (suc k) i l h p n =
      ⊎_elim
      (λ e. subst (λ (j : ℕ). or_later m (f m) (first_fault f (suc m) k) ≡ record { number = (f j).number; minishard = j; position = (f j).position }) e
      (later-some m (f m) (first_fault f (suc m) k) (λ z. n (subst (λ (j : ℕ). (f j).number ≡ 0) e z))))
      (λ o. later-none m (f m) (first_fault f (suc m) k) (p m (omega arith) o)
      ∙ first-is (suc m) k i o (omega arith) (λ j a b. p j (omega arith) b) n)
      (eq-or-lt_of_le l)

  -- over one minishard it is that minishard's own
  one-fault : (m : ℕ) → ((f m).number ≡ 0 → (f m).position ≡ 0) → ((first_fault f m 1).number ≡ (f m).number) × ((first_fault f m 1).position ≡ (f m).position)
  unfolding first_fault
  one-fault m h = go (zero_or (f m).number)
    where
      go : ((f m).number ≡ 0) ⊎ ((f m).number ≡ 0 → ⊥) → ((or_later m (f m) no_fault).number ≡ (f m).number) × ((or_later m (f m) no_fault).position ≡ (f m).position)
      go (inl z) = rw (later-none m (f m) no_fault z) (sym z, sym (h z))
      go (inr n) = rw (later-some m (f m) no_fault n) (refl, refl)

-- the fault of minishard m, told by the judge of m alone
pub own-fault : (spec : Sharding) (shard : ℕ) (x d : List ℕ) (m : ℕ) {r : ShardFault} → r ≡ first_fault (fault_of spec shard x d) m (m + 1 - m) → record { number = r.number; position = r.position } ≡ fault_of spec shard x d m
own-fault spec shard x d m e =
    let one : m + 1 - m ≡ 1 = omega arith in
    let q = one-fault (fault_of spec shard x d) m (λ z. ap (λ (g : Fault). g.position) (minishard-passes spec shard x d m (passes-minishard spec shard x d m z))) in
    rw (e, one) (λ i. record { number = q.0 i; position = q.1 i })

-- ---- its answer: a refusal of the call, with the number a, or else the first fault

given-sound : (a n m p : ℕ) → unless Refused a (unless (λ k. Faulty k m p) n Sound) ≡ Sound → (a ≡ 0) × (n ≡ 0)
unfolding unless
given-sound zero zero m p e = (refl, refl)
given-sound zero (suc n) m p e = let z : ◌≡◌ {A = ℕ} 0 1 = cc in absurd (omega arith)
given-sound (suc a) n m p e = let z : ◌≡◌ {A = ℕ} 0 1 = cc in absurd (omega arith)

given-faulty : (a n i q k m p : ℕ) → unless Refused a (unless (λ j. Faulty j i q) n Sound) ≡ Faulty k m p → (a ≡ 0) × (n ≡ 0 → ⊥) × (n ≡ k) × (i ≡ m) × (q ≡ p)
unfolding unless
given-faulty zero zero i q k m p e = let z : ◌≡◌ {A = ℕ} 0 1 = cc in absurd (omega arith)
given-faulty zero (suc n) i q k m p e = (refl, λ z. omega arith, cc, cc, cc)
given-faulty (suc a) n i q k m p e = let z : ◌≡◌ {A = ℕ} 0 1 = cc in absurd (omega arith)

never-refused : (n i q k : ℕ) → unless (λ j. Faulty j i q) n Sound ≡ Refused k → ◌≡◌ {A = ℕ} 0 1
unfolding unless
never-refused zero i q k e = cc
never-refused (suc n) i q k e = cc

module _ (spec : Sharding) (shard : ℕ) (file : List ℕ) where
  abbrev index : List ℕ
  index = index_part spec file

  abbrev d : List ℕ
  d = data_part spec file

  abbrev f : ℕ → Fault
  f = fault_of spec shard index d

  -- 1, 5 and 6 come alone
  pub check-refuses : Refuses (check_answer spec shard file) Refused (file_checks spec (no_such_shard spec shard) file)
  unfolding check_answer file_checks
  check-refuses = refuses Refused (λ j k e. cc) (file_checks spec (no_such_shard spec shard) file) _ refl (never-refused _ _ _)

  -- all of its checks decide it
  pub check_decided : DecidedBy (shard_checks spec shard file) (check_result (check_answer spec shard file))
  unfolding check_answer
  check_decided =
      let at : ℕ → ℕ → CheckAnswer = λ k p. Faulty k (shard_fault spec shard index d).minishard p in
      rw (sym (shard-answer spec shard file Refused at Sound))
      (decided_at check_result Refused (λ k t. refl) at (λ k p. (refl, refl, refl)) (shard_checks spec shard file) Sound refl (shard_in spec shard file))

  pub check-passes-sound : check_answer spec shard file ≡ Sound → SoundShard spec shard file
  unfolding check_answer shard_fault
  check-passes-sound p =
      let q = given-sound _ _ _ _ p in
      let c = file-called spec (no_such_shard spec shard) file q.0 in
      record {
        permitted = c.permitted;
        numbered = leb-false _ _ c.other;
        held = c.held;
        short = c.short;
        each = λ m l. passes-minishard spec shard index d m (faultless_each f 0 (minishard_count_of spec) q.1 m (omega arith) (omega arith));
      }

  pub sound-passes-check : SoundShard spec shard file → check_answer spec shard file ≡ Sound
  unfolding check_answer shard_fault unless
  sound-passes-check g =
      let c : Called spec (no_such_shard spec shard) file = record { permitted = g.permitted; other = lt-leb (shard_count_of spec) shard g.numbered; held = g.held; short = g.short } in
      rw (
        called-file c,
        each_faultless f 0 (minishard_count_of spec) (λ m o l. ap (λ (x : Fault). x.number) (minishard-passes spec shard index d m (g.each m (omega arith)))),
      )

  -- it names minishard m with k and p exactly where m is the first with a fault, k is the first number that holds of it and p its position
  pub check-names : (k m p : ℕ) → (check_answer spec shard file ≡ Faulty k m p) ↔ FirstFaultIs spec shard file k m p
  unfolding check_answer shard_fault unless
  check-names k m p = ((λ e. told e), (λ g. tells g))
    where
      told : unless Refused (first_number (file_checks spec (no_such_shard spec shard) file)) (check_verdict (first_fault f 0 (minishard_count_of spec))) ≡ Faulty k m p → FirstFaultIs spec shard file k m p
      told t =
          let v = given-faulty _ _ _ _ k m p t in
          let h = first-faulty f 0 (minishard_count_of spec) v.1 in
          let same = v.3 in
          record {
            called = v.0;
            below = omega (arith, h.below, same);
            earlier = λ j l. passes-minishard spec shard index d j (h.earlier j (omega arith) (omega (arith, same)));
            number = minishard-number spec shard index d m ∙ (rw same at h.number) ∙ v.2;
            position = minishard-position spec shard index d m (λ z. v.1 (sym (rw same at h.number) ∙ z)) ∙ ap some ((rw same at h.position) ∙ v.4);
            faulty = λ z. v.1 (v.2 ∙ z);
          }

      tells : FirstFaultIs spec shard file k m p → unless Refused (first_number (file_checks spec (no_such_shard spec shard) file)) (check_verdict (first_fault f 0 (minishard_count_of spec))) ≡ Faulty k m p
      tells g =
          let number : (f m).number ≡ k = sym (minishard-number spec shard index d m) ∙ g.number in
          let same = sym (minishard-position spec shard index d m (λ z. g.faulty (sym number ∙ z))) ∙ g.position in
          let place : (f m).position ≡ p = cc in
          rw (
            g.called,
            first-is f 0 (minishard_count_of spec) m (omega arith) (omega (arith, g.below))
                (λ j a b. ap (λ (x : Fault). x.number) (minishard-passes spec shard index d j (g.earlier j b)))
                (λ z. g.faulty (sym number ∙ z)),
            number,
            place,
          )
          (sym (unless-some (λ j. Faulty j m p) k Sound g.faulty))
