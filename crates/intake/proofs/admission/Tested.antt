-- What the refusals of the calls say, by the way that they are reached: each law has the shape of a need.
use Prim.Native.Nat.{ℕ, ◌≤◌, ◌<◌}
use mathlib.Core.Path.{◌≡◌}
use mathlib.Core.Bool.{Bool, true, false}
use mathlib.Core.List.{List}
use native.Mathlib.Omega.{arith}
use lib.ListN.{length}
use borrow.Author.Rules.{rules}
use borrow.Author.Tests.{lt-ltb, le-ltb, le-leb, lt-leb}
use Rattle.std.specs.Prelude.{Ok}
use Rattle.refusal.specs.Checks.{first_number, unless}
use Rattle.refusal.specs.Answers.{refuse, judged}
use Rattle.refusal.proofs.Tests.{told-yes}
use Rattle.sharding.specs.declared.Sharding.{Sharding}
use Rattle.sharding.specs.Specification.{shard_count_of}
use Rattle.shard.specs.File.{index_length_of}
use Rattle.intake.specs.declared.state.Intake.{Intake}
use Rattle.intake.specs.state.State.{most, not_volume}
use Rattle.intake.specs.call_tests.Tests.{other_lengths, foreign, unusable, out_of_order, forged, forged_turn, no_room}
use Rattle.intake.specs.admission.Refusals.{open_checks, announce_checks, part_checks, close_checks}
use Rattle.intake.proofs.sanity.States.{told-volume}
use Rattle.intake.proofs.call_tests.Tested.{told-length, told-permitted, told-room, told-held, told-sane}

-- ---- the calls

module _ (spec : Sharding) (shard output : ℕ) {b : Bool} (p : b ≡ not_volume spec) where
  pub open_spec : b ≡ true → refuse 1 ≡ judged (first_number (open_checks spec shard output))
  unfolding first_number unless open_checks
  open_spec q = rw (← p, q)

  module _ (q : b ≡ false) {c : ℕ} (u : c ≡ shard_count_of spec) where
    pub open_shard : c ≤ shard → refuse 5 ≡ judged (first_number (open_checks spec shard output))
    unfolding first_number unless open_checks
    open_shard l = rw (← p, q, ← u, le-leb c shard l)

    module _ (l : shard < c) {m n : ℕ} (e : m ≡ most output) (f : n ≡ index_length_of spec) where
      pub open_room : m < n → refuse 13 ≡ judged (first_number (open_checks spec shard output))
      unfolding first_number unless open_checks
      open_room k = rw (← p, q, ← u, lt-leb c shard l, ← e, ← f, lt-ltb m n k)

      pub open_goes : n ≤ m → Ok tt ≡ judged (first_number (open_checks spec shard output))
      unfolding first_number unless open_checks
      open_goes k = rw (← p, q, ← u, lt-leb c shard l, ← e, ← f, le-ltb m n k)

module _ (s : Intake) (output : ℕ) (w : List ℕ) {b : Bool} (p : b ≡ other_lengths s output (length w)) where
  pub part-other : (n : ℕ) → b ≡ true → refuse 30 ≡ judged (first_number (part_checks s n output w))
  unfolding first_number unless part_checks
  part-other n q = rw (← p, q)

  pub close_other : b ≡ true → refuse 30 ≡ judged (first_number (close_checks s output w))
  unfolding first_number unless close_checks
  close_other q = rw (← p, q)

  pub announce_other : (id size : ℕ) → b ≡ true → refuse 30 ≡ judged (first_number (announce_checks s id size output w))
  unfolding first_number unless announce_checks
  announce_other id size q = rw (← p, q)

  module _ (q : b ≡ false) {c : Bool} (u : c ≡ unusable s w) where
    pub part-unusable : (n : ℕ) → c ≡ true → refuse 25 ≡ judged (first_number (part_checks s n output w))
    unfolding first_number unless part_checks
    part-unusable n v = rw (← p, q, ← u, v)

    pub close-unusable : c ≡ true → refuse 25 ≡ judged (first_number (close_checks s output w))
    unfolding first_number unless close_checks
    close-unusable v = rw (← p, q, ← u, v)

    module _ (v : c ≡ false) where
      pub part-more : (n : ℕ) → s.owed < n → refuse 26 ≡ judged (first_number (part_checks s n output w))
      unfolding first_number unless part_checks
      part-more n l = rw (← p, q, ← u, v, lt-ltb s.owed n l)

      pub part_goes : (n : ℕ) → n ≤ s.owed → Ok tt ≡ judged (first_number (part_checks s n output w))
      unfolding first_number unless part_checks
      part_goes n l = rw (← p, q, ← u, v, le-ltb s.owed n l)

      module _ {d : Bool} (g : d ≡ forged s w) where
        pub close-forged : d ≡ true → refuse 25 ≡ judged (first_number (close_checks s output w))
        unfolding first_number unless close_checks
        close-forged h = rw (← p, q, ← u, v, ← g, h)

        module _ (h : d ≡ false) where
          pub close_owed : (s.owed ≡ 0 → ⊥) → refuse 26 ≡ judged (first_number (close_checks s output w))
          unfolding first_number unless close_checks
          close_owed l = rw (← p, q, ← u, v, ← g, h, lt-ltb 0 s.owed (omega arith))

          pub close_goes : s.owed ≡ 0 → Ok tt ≡ judged (first_number (close_checks s output w))
          unfolding first_number unless close_checks
          close_goes l = rw (← p, q, ← u, v, ← g, h, le-ltb 0 s.owed (omega arith))

  module _ (q : b ≡ false) (id size : ℕ) {f : Bool} (e : f ≡ foreign s id) where
    pub announce_foreign : f ≡ true → refuse 10 ≡ judged (first_number (announce_checks s id size output w))
    unfolding first_number unless announce_checks
    announce_foreign z = rw (← p, q, ← e, z)

    module _ (z : f ≡ false) {c : Bool} (u : c ≡ unusable s w) where
      pub announce_unusable : c ≡ true → refuse 25 ≡ judged (first_number (announce_checks s id size output w))
      unfolding first_number unless announce_checks
      announce_unusable v = rw (← p, q, ← e, z, ← u, v)

      module _ (v : c ≡ false) {d : Bool} (g : d ≡ out_of_order s id) where
        pub announce_order : d ≡ true → refuse 25 ≡ judged (first_number (announce_checks s id size output w))
        unfolding first_number unless announce_checks
        announce_order h = rw (← p, q, ← e, z, ← u, v, ← g, h)

        module _ (h : d ≡ false) {t : Bool} (x : t ≡ forged_turn s id w) where
          pub announce_forged : t ≡ true → refuse 25 ≡ judged (first_number (announce_checks s id size output w))
          unfolding first_number unless announce_checks
          announce_forged y = rw (← p, q, ← e, z, ← u, v, ← g, h, ← x, y)

          module _ (y : t ≡ false) where
            pub announce_owed : 0 < s.owed → refuse 26 ≡ judged (first_number (announce_checks s id size output w))
            unfolding first_number unless announce_checks
            announce_owed l = rw (← p, q, ← e, z, ← u, v, ← g, h, ← x, y, lt-ltb 0 s.owed l)

            module _ (l : s.owed ≤ 0) {r : Bool} (i : r ≡ no_room s id size) where
              pub announce_full : r ≡ true → refuse 13 ≡ judged (first_number (announce_checks s id size output w))
              unfolding first_number unless announce_checks
              announce_full k = rw (← p, q, ← e, z, ← u, v, ← g, h, ← x, y, le-ltb 0 s.owed l, ← i, k)

              pub announce_goes : r ≡ false → Ok tt ≡ judged (first_number (announce_checks s id size output w))
              unfolding first_number unless announce_checks
              announce_goes k = rw (← p, q, ← e, z, ← u, v, ← g, h, ← x, y, le-ltb 0 s.owed l, ← i, k)

pub ruleset refusing = (
  open_spec,
  open_shard,
  open_room,
  open_goes,
  part-other,
  part-unusable,
  part-more,
  part_goes,
  close_other,
  close-unusable,
  close-forged,
  close_owed,
  close_goes,
  announce_other,
  announce_foreign,
  announce_unusable,
  announce_order,
  announce_forged,
  announce_owed,
  announce_full,
  announce_goes,
  told-volume,
  told-length,
  told-permitted,
  told-room,
  told-held,
  told-sane,
  told-yes,
  rules,
)
