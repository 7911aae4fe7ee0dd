-- What cannot be taken of two copies, minishard by minishard.
use Rattle.std.proofs.Common.{◌≡◌, ℕ, zero, suc, ◌+◌, ◌-◌, ◌*◌, ◌<◌, ◌≤◌, Bool, true, false, not, ◌&&◌, eqb, ◌⊎◌, List, length, sym, refl, ap, ◌∙◌, subst, inl, inr, ⊎_elim, true≢false, eq-or-lt_of_le, add-one, arith, rules, eq-eqb, ne_eqb}
use native.Mathlib.Nat.{sub-zero}
use borrow.Author.Tests.{not-true, not-false, eqb-false}
use Rattle.sharding.specs.declared.Sharding.{Sharding}
use Rattle.sharding.specs.Specification.{allowed, minishard_count_of}
use Rattle.shard.specs.declared.index.Fault.{Fault}
use Rattle.shard.specs.index.Index.{most_shard_bytes}
use Rattle.shard.specs.declared.ShardFault.{ShardFault}
use Rattle.shard.specs.Faults.{fault_of, no_fault, or_later, first_fault}
use Rattle.shard.specs.File.{index_length_of}
use Rattle.settle.specs.length.Settleable.{SettleableIn}
use Rattle.repair.specs.same_listing.Alike.{alike}
use Rattle.repair.specs.form.Chosen.{sound_in}
use Rattle.repair.specs.form.Choosing.{Pair}
use Rattle.repair.proofs.form.OneMinishard.{sound-if, settleable}
use Rattle.repair.specs.Trouble.{trouble_of}

-- ---- one minishard

sound-told : (spec : Sharding) (shard : ℕ) (index d : List ℕ) (m : ℕ) {f : Fault} → f ≡ fault_of spec shard index d m → f.number ≡ 0 → sound_in spec shard index d m ≡ true
unfolding sound_in
sound-told spec shard index d m e z = eq-eqb _ _ (ap (λ (g : Fault). g.number) (sym e) ∙ z)

fault-told : (spec : Sharding) (shard : ℕ) (index d : List ℕ) (m : ℕ) {f : Fault} → f ≡ fault_of spec shard index d m → (f.number ≡ 0 → ⊥) → sound_in spec shard index d m ≡ false
unfolding sound_in
fault-told spec shard index d m e n = ne_eqb _ _ (λ z. n (ap (λ (g : Fault). g.number) e ∙ z))

module _ {spec : Sharding} {ia da ib db : List ℕ} (pair : Pair spec ia da ib db) where
  pub pair-permitted : allowed spec ≡ true
  pair-permitted = pair.permitted

  pub pair-first : length ia ≡ index_length_of spec
  pair-first = pair.first

  pub pair-second : length ib ≡ index_length_of spec
  pair-second = pair.second

  pub pair-short : length da ≤ most_shard_bytes
  pair-short = pair.short

  pub pair_small : length db ≤ most_shard_bytes
  pair_small = pair.small

  module _ {m : ℕ} (l : m < minishard_count_of spec) where
    pub first_entry : 16 * m + 16 ≤ length ia
    first_entry = omega (arith, pair.first)

    pub second-entry : 16 * m + 16 ≤ length ib
    second-entry = omega (arith, pair.second)

module _ (spec : Sharding) (shard : ℕ) (ia da ib db : List ℕ) (m : ℕ) {f : Fault} (e : f ≡ fault_of spec shard ia da m) {c : Bool} (w : c ≡ sound_in spec shard ib db m) where
  module _ (n : f.number ≡ 0 → ⊥) where
    pub second-taken : c ≡ true → record { number = 0; position = 0 } ≡ trouble_of spec shard ia da ib db m
    unfolding trouble_of
    second-taken t = rw (fault-told spec shard ia da m e n, ← w, t)

    pub neither-sound : c ≡ false → f ≡ trouble_of spec shard ia da ib db m
    unfolding trouble_of
    neither-sound t = rw (fault-told spec shard ia da m e n, ← w, t) e

  module _ (z : f.number ≡ 0) where
    pub first_alone : not c ≡ true → record { number = 0; position = 0 } ≡ trouble_of spec shard ia da ib db m
    unfolding trouble_of
    first_alone t = rw (sound-told spec shard ia da m e z, ← w, not-true c t)

    module _ (t : not c ≡ false) where
      module _ {q : Bool} (y : q ≡ alike spec ia da ib db m) where
        pub both-alike : q ≡ true → record { number = 0; position = 0 } ≡ trouble_of spec shard ia da ib db m
        unfolding trouble_of
        both-alike u = rw (sound-told spec shard ia da m e z, ← w, not-false c t, ← y, u)

        pub both-differ : q ≡ false → record { number = 32; position = 16 * m } ≡ trouble_of spec shard ia da ib db m
        unfolding trouble_of
        both-differ u = rw (sound-told spec shard ia da m e z, ← w, not-false c t, ← y, u)

module _ (spec : Sharding) (shard : ℕ) (index d : List ℕ) (m : ℕ) where
  pub first_settleable : {f : Fault} → f ≡ fault_of spec shard index d m → f.number ≡ 0 → SettleableIn spec index d m
  first_settleable e z = settleable (sound-if spec shard index d m (sound-told spec shard index d m e z))

  pub second_settleable : {c : Bool} → c ≡ sound_in spec shard index d m → not c ≡ false → SettleableIn spec index d m
  second_settleable {c} w t = settleable (sound-if spec shard index d m (sym w ∙ not-false c t))

pub ruleset troubling = (pair-permitted, pair-first, pair-second, pair-short, pair_small, first_entry, second-entry, second-taken, neither-sound, first_alone, first_settleable, second_settleable, both-alike, both-differ, rules)

-- where there is none, one of the copies is sound
module _ (spec : Sharding) (shard : ℕ) (ia da ib db : List ℕ) (m : ℕ) where
  fault-there : sound_in spec shard ia da m ≡ false → (fault_of spec shard ia da m).number ≡ 0 → ⊥
  unfolding sound_in
  fault-there e = eqb-false _ _ e

  trouble_there : sound_in spec shard ia da m ≡ false → sound_in spec shard ib db m ≡ false → trouble_of spec shard ia da ib db m ≡ fault_of spec shard ia da m
  unfolding trouble_of
  trouble_there u p = rw (u, p)

  pub no_trouble : (trouble_of spec shard ia da ib db m).number ≡ 0 → sound_in spec shard ia da m ≡ false → sound_in spec shard ib db m ≡ true
  no_trouble z u = go (sound_in spec shard ib db m) refl
    where
      go : (c : Bool) → sound_in spec shard ib db m ≡ c → sound_in spec shard ib db m ≡ true
      go true p = p
      go false p = absurd (fault-there u (sym (ap (λ (f : Fault). f.number) (trouble_there u p)) ∙ z))

-- ---- the first of n

zero_or : (k : ℕ) → (k ≡ 0) ⊎ (k ≡ 0 → ⊥)
zero_or zero = inl refl
zero_or (suc k) = inr (λ z. omega arith)

later-none : (m : ℕ) (f : Fault) (later : ShardFault) → f.number ≡ 0 → or_later m f later ≡ later
unfolding or_later
later-none m f later e = rw (eq-eqb f.number 0 e)

later-some : (m : ℕ) (f : Fault) (later : ShardFault) → (f.number ≡ 0 → ⊥) → or_later m f later ≡ record { number = f.number; minishard = m; position = f.position }
unfolding or_later
later-some m f later n = rw (ne_eqb f.number 0 n)

pub faultless_each : (f : ℕ → Fault) (m k : ℕ) → (first_fault f m k).number ≡ 0 → (j : ℕ) → m ≤ j → j < m + k → (f j).number ≡ 0
unfolding first_fault
faultless_each f m zero p j l h = absurd (omega arith)
faultless_each f m (suc k) p j l h = go (faultless_each f (suc m) k) (zero_or (f m).number)
  where
    go : ((first_fault f (suc m) k).number ≡ 0 → (i : ℕ) → suc m ≤ i → i < suc m + k → (f i).number ≡ 0) → ((f m).number ≡ 0) ⊎ ((f m).number ≡ 0 → ⊥) → (f j).number ≡ 0
    go ih (inl z) =
        ⊎_elim
        (λ e. subst (λ (i : ℕ). (f i).number ≡ 0) e z)
        (λ o. ih (rw (later-none m (f m) (first_fault f (suc m) k) z) at p) j o (omega arith))
        (eq-or-lt_of_le l)
    go ih (inr n) = absurd (n (rw (later-some m (f m) (first_fault f (suc m) k) n) at p))

pub each_faultless : (f : ℕ → Fault) (m k : ℕ) → ((j : ℕ) → m ≤ j → j < m + k → (f j).number ≡ 0) → first_fault f m k ≡ no_fault
unfolding first_fault
each_faultless f m zero h = refl
each_faultless f m (suc k) h =
    later-none m (f m) _ (h m (omega arith) (omega arith))
    ∙ each_faultless f (suc m) k (λ j l o. h j (omega arith) (omega arith))

-- the loop's head
pub record Looking (f : ℕ → Fault) (n m : ℕ) : Type 0 where
  pub below : m ≤ n
  pub left : first_fault f m (n - m) ≡ first_fault f 0 n

pub looking_first : (f : ℕ → Fault) (n : ℕ) → Looking f n 0
looking_first f n = record { below = omega arith; left = rw sub-zero }

fault-cons : (f : ℕ → Fault) (m k : ℕ) → first_fault f m (suc k) ≡ or_later m (f m) (first_fault f (suc m) k)
unfolding first_fault
fault-cons f m k = refl

module _ (f : ℕ → Fault) (n m : ℕ) (h : Looking f n m) where
  module _ (l : m < n) {g : Fault} (e : g ≡ f m) where
    turn : or_later m g (first_fault f (m + 1) (n - (m + 1))) ≡ first_fault f 0 n
    turn =
        let k : n - m ≡ suc (n - (m + 1)) = omega arith in
        rw (e, add-one m) (sym (fault-cons f m (n - suc m)) ∙ ap (first_fault f m) (step k) ∙ h.left)
      where
        step : n - m ≡ suc (n - (m + 1)) → suc (n - suc m) ≡ n - m
        step k = omega arith

    pub looking_next : g.number ≡ 0 → Looking f n (m + 1)
    looking_next z = record { below = omega arith; left = sym (later-none m g (first_fault f (m + 1) (n - (m + 1))) z) ∙ turn }

    pub looking_hit : (g.number ≡ 0 → ⊥) → record { number = g.number; minishard = m; position = g.position } ≡ first_fault f 0 n
    looking_hit z = sym (later-some m g (first_fault f (m + 1) (n - (m + 1))) z) ∙ turn

  pub looking_end : n ≤ m → record { number = 0; minishard = 0; position = 0 } ≡ first_fault f 0 n
  unfolding first_fault
  looking_end l = let k : n - m ≡ 0 = omega (arith, h.below) in rw k at h.left

pub small-turn : (spec : Sharding) {m n : ℕ} → m < n → n ≤ minishard_count_of spec → m < minishard_count_of spec
small-turn spec l h = omega arith

pub ruleset looking = (looking_first, looking_next, looking_hit, looking_end, small-turn, rules)
