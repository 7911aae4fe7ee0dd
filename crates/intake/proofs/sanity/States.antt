-- What the code's tests of a state say, by the way that they are reached: each law has the shape of a need.
use Prim.Native.Nat.{ℕ, ◌+◌, ◌*◌, ◌-◌, ◌/◌, ◌^◌, ◌≤◌, ◌<◌}
use mathlib.Core.Path.{◌≡◌, refl, sym, ◌∙◌}
use mathlib.Core.Bool.{Bool, true, false, not, ◌&&◌, ◌||◌}
use mathlib.Core.List.{List}
use native.Mathlib.Omega.{arith}
use lib.Dec.{ltb, leb, eqb}
use borrow.Author.Rules.{rules}
use borrow.Author.Tests.{leb-true, le-leb, lt-leb, eq-eqb, ne_eqb}
use Rattle.refusal.proofs.Tests.{told-no, told-yes}
use Rattle.sharding.specs.declared.Sharding.{Sharding}
use Rattle.sharding.specs.declared.placement.Place.{Place}
use Rattle.sharding.specs.Specification.{is_mesh, allowed, shard_count_of}
use Rattle.sharding.specs.placement.Place.{place_of}
use Rattle.shard.specs.File.{index_length_of}
use Rattle.intake.specs.declared.state.Intake.{Intake}
use Rattle.intake.specs.state.State.{most, announced_length, not_volume, fresh, belongs, placed, begun, waits, going, sane}
use Rattle.intake.proofs.state.Passing.{volume-allowed, begun-ordered}

-- ---- a specification

pub not-volume-is : (spec : Sharding) {a b : Bool} → a ≡ allowed spec → b ≡ is_mesh spec → not a || b ≡ not_volume spec
unfolding not_volume
not-volume-is spec p q = rw (p, q)

pub told-volume : (spec : Sharding) {b : Bool} → b ≡ not_volume spec → b ≡ false → allowed spec ≡ true
told-volume spec p q = volume-allowed spec (sym p ∙ q)

-- ---- a sum within a limit

module _ (limit base next owed count : ℕ) where
  pub adds_base : limit < base → false ≡ leb (base + (next + (owed + 24 * count))) limit
  adds_base l = sym (lt-leb (base + (next + (owed + 24 * count))) limit (omega arith))

  module _ (k : base ≤ limit) where
    pub adds-next : limit - base < next → false ≡ leb (base + (next + (owed + 24 * count))) limit
    adds-next l = sym (lt-leb (base + (next + (owed + 24 * count))) limit (omega arith))

    module _ (l : next ≤ limit - base) where
      pub adds_owed : limit - base - next < owed → false ≡ leb (base + (next + (owed + 24 * count))) limit
      adds_owed m = sym (lt-leb (base + (next + (owed + 24 * count))) limit (omega arith))

      module _ (m : owed ≤ limit - base - next) where
        pub adds-count : (limit - base - next - owed) / 24 < count → false ≡ leb (base + (next + (owed + 24 * count))) limit
        adds-count n = sym (lt-leb (base + (next + (owed + 24 * count))) limit (omega arith))

        pub adds-all : count ≤ (limit - base - next - owed) / 24 → true ≡ leb (base + (next + (owed + 24 * count))) limit
        adds-all n = sym (le-leb (base + (next + (owed + 24 * count))) limit (omega arith))

pub within_by : (s : Intake) {limit base : ℕ} {r : Bool} → limit ≡ most s.output → base ≡ index_length_of s.spec
    → r ≡ leb (base + (s.next + (s.owed + 24 * s.count))) limit → r ≡ leb (announced_length s) (most s.output)
within_by s e f h = rw (e, f) at h

-- ---- with no chunk, and with some

pub fresh-is : (s : Intake) → eqb s.minishard 0 && (eqb s.last 0 && (eqb s.begin 0 && (eqb s.next 0 && eqb s.owed 0))) ≡ fresh s
unfolding fresh
fresh-is s = refl

pub belongs-is : (s : Intake) (id : ℕ) (at : Place) → at ≡ place_of s.spec id → eqb at.shard s.shard && eqb at.minishard s.minishard ≡ belongs s id
unfolding belongs
belongs-is s id at e = rw e

pub placed-is : (s : Intake) {b : Bool} → b ≡ belongs s s.last → b && leb (s.count - 1) s.last ≡ placed s
unfolding placed
placed-is s e = rw e

pub begun-is : (s : Intake) → leb s.begin s.next && (eqb s.begin 0 || (ltb 0 s.minishard && leb 24 s.begin)) ≡ begun s
unfolding begun
begun-is s = refl

module _ (s : Intake) (w : List ℕ) {a : Bool} (p : a ≡ placed s) where
  pub going_elsewhere : not a ≡ true → false ≡ going s w
  unfolding going
  going_elsewhere q = rw (told-no p q)

  module _ (q : not a ≡ false) {b : Bool} (e : b ≡ begun s) where
    pub going-not-begun : not b ≡ true → false ≡ going s w
    unfolding going
    going-not-begun f = rw (told-yes p q, told-no e f)

    pub going-begun : not b ≡ false → s.begin ≤ s.next
    going-begun f = begun-ordered s (told-yes e f)

    pub going-waits : not b ≡ false → {r : Bool} → r ≡ waits s w → r ≡ going s w
    unfolding going
    going-waits f h = rw (told-yes p q, told-yes e f) h

-- ---- all of it

module _ (s : Intake) (w : List ℕ) {b : Bool} (p : b ≡ not_volume s.spec) where
  pub sane_spec : b ≡ true → false ≡ sane s w
  unfolding sane
  sane_spec q = rw (← p, q)

  module _ (q : b ≡ false) {c : ℕ} (u : c ≡ shard_count_of s.spec) where
    pub sane-shard : c ≤ s.shard → false ≡ sane s w
    unfolding sane
    sane-shard l = rw (← p, q, ← u, le-leb c s.shard l)

    module _ (l : s.shard < c) where
      pub sane-waiting : s.waiting / 16 < s.count → false ≡ sane s w
      unfolding sane
      sane-waiting k = rw (← p, q, ← u, lt-leb c s.shard l, lt-leb (16 * s.count) s.waiting (omega arith))

      module _ (k : s.count ≤ s.waiting / 16) {f : Bool} (e : f ≡ leb (announced_length s) (most s.output)) where
        pub sane-room : not f ≡ true → false ≡ sane s w
        unfolding sane
        sane-room z = rw (← p, q, ← u, lt-leb c s.shard l, le-leb (16 * s.count) s.waiting (omega arith), told-no e z)

        module _ (z : not f ≡ false) where
          pub sane-sum : s.next + s.owed < 2 ^ 64
          sane-sum = omega (arith, leb-true (announced_length s) (most s.output) (told-yes e z))

          module _ {r : Bool} where
            pub sane-fresh : s.count ≡ 0 → r ≡ fresh s → r ≡ sane s w
            unfolding sane
            sane-fresh n h = rw (← p, q, ← u, lt-leb c s.shard l, le-leb (16 * s.count) s.waiting (omega arith), told-yes e z, eq-eqb s.count 0 n) h

            pub sane-going : (s.count ≡ 0 → ⊥) → r ≡ going s w → r ≡ sane s w
            unfolding sane
            sane-going n h = rw (← p, q, ← u, lt-leb c s.shard l, le-leb (16 * s.count) s.waiting (omega arith), told-yes e z, ne_eqb s.count 0 n) h

pub some-chunk : (n : ℕ) → (n ≡ 0 → ⊥) → 0 < n
some-chunk n h = omega arith

pub ruleset testing = (
  not-volume-is,
  told-volume,
  adds_base,
  adds-next,
  adds_owed,
  adds-count,
  adds-all,
  within_by,
  fresh-is,
  belongs-is,
  placed-is,
  begun-is,
  going_elsewhere,
  going-not-begun,
  going-begun,
  going-waits,
  sane_spec,
  sane-shard,
  sane-waiting,
  sane-room,
  sane-sum,
  sane-fresh,
  sane-going,
  some-chunk,
  told-yes,
  rules,
)
