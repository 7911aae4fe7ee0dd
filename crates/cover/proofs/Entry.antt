-- The ways out of `cover`: the number of the first check that holds, or 0.
use Prim.Native.Nat.{ℕ, ◌*◌, ◌≤◌, ◌<◌}
use mathlib.Core.Path.{◌≡◌, refl, sym, ap, ◌∙◌}
use mathlib.Core.Bool.{Bool, true, false}
use mathlib.Core.List.{List}
use native.Mathlib.Omega.{arith}
use lib.Dec.{ltb}
use lib.ListN.{length}
use borrow.Author.Rules.{rules}
use borrow.Author.Tests.{ltb-false}
use Rattle.refusal.specs.Checks.{first_number}
use Rattle.std.specs.Prelude.{Ok}
use Rattle.refusal.specs.Answers.{refuse}
use Rattle.refusal.proofs.Refusing.{by_number, by_none}
use Rattle.endian.specs.Place.{paste}
use Rattle.endian.proofs.Paste.{paste-front}
use Rattle.morton.specs.declared.bounds.Point.{Point}
use Rattle.morton.specs.declared.grid.Extents.{Extents}
use Rattle.morton.specs.declared.grid.Volume.{Volume}
use Rattle.morton.specs.grid.Grid.{grid_of, zero_extent}
use Rattle.morton.specs.Key.{key_bits_of, too_many_bits}
use Rattle.morton.proofs.Laws.{few-bits_are, many_bits_are}
use Rattle.cover.specs.declared.overlap.Part.{Part}
use Rattle.cover.specs.overlap.Cover.{cover_keys, cover_checks, cover_answer, cover_left}
use Rattle.cover.specs.overlap.Marked.{left_bits, part_keys, marked_width, Framed, Whole}
use Rattle.cover.proofs.descent.Cuts.{marked_cells, keys-count}

module _ (v : Volume) (lower upper : Point) (d : List ℕ) where
  pub cover-refused : (k : ℕ) → 0 < k → first_number (cover_checks v lower upper d) ≡ k → refuse k ≡ cover_answer v lower upper d
  unfolding cover_answer
  cover-refused k h f = sym (by_number refuse (cover_checks v lower upper d) _ k f h)

  pub cover-kept : (k : ℕ) → 0 < k → first_number (cover_checks v lower upper d) ≡ k → d ≡ cover_left v lower upper d
  unfolding cover_left
  cover-kept k h f = sym (by_number (λ j. d) (cover_checks v lower upper d) _ k f h)

module _ (v : Volume) (lower upper : Point) (d : List ℕ) {z : Bool} (ez : z ≡ zero_extent v) where
  pub cover_2 : z ≡ true → first_number (cover_checks v lower upper d) ≡ 2
  unfolding first_number cover_checks
  cover_2 k = rw (← ez, k)

  module _ (nz : z ≡ false) where
    pub tested : zero_extent v ≡ false
    tested = sym ez ∙ nz

    module _ {b : ℕ} (eb : b ≡ key_bits_of (grid_of v)) where
      pub cover_3 : 64 < b → first_number (cover_checks v lower upper d) ≡ 3
      unfolding first_number cover_checks
      cover_3 l = rw (tested, many_bits_are (grid_of v) (omega arith))

      module _ (l : b ≤ 64) {p : Part} (w : Whole v lower upper p) {face deep : ℕ} (ef : face ≡ marked_width p.x * marked_width p.y) (ed : deep ≡ marked_width p.z)
          {t : Bool} (et : t ≡ ltb (length d) (face * deep)) where
        few : too_many_bits (grid_of v) ≡ false
        few = few-bits_are (grid_of v) (omega arith)

        -- as many keys as the product of the widths
        product : face * deep ≡ length (part_keys p 0)
        unfolding marked_cells
        product = rw (ef, ed) (sym (keys-count (left_bits p) p 0 w.sized refl))

        count : face * deep ≡ length (cover_keys v lower upper)
        count = product ∙ ap length w.keys

        test : t ≡ ltb (length d) (length (cover_keys v lower upper))
        test = et ∙ ap (ltb (length d)) count

        pub cover_13 : t ≡ true → first_number (cover_checks v lower upper d) ≡ 13
        unfolding first_number cover_checks
        cover_13 k = rw (tested, few, sym test ∙ k)

        module _ (k : t ≡ false) where
          none : first_number (cover_checks v lower upper d) ≡ 0
          unfolding first_number cover_checks
          none = rw (tested, few, sym test ∙ k)

          module _ {g : Extents} (eg : g ≡ grid_of v) where
            pub whole-few : key_bits_of g ≤ 64
            whole-few = rw eg (omega arith)

            pub whole-framed : Framed g p
            whole-framed = rw eg w.framed

          pub whole_room : length (part_keys p 0) ≤ length d
          whole_room =
              let m : length (cover_keys v lower upper) ≤ length d = ltb-false _ _ (sym test ∙ k) in
              omega (arith, product, count)

          pub cover-yes : {n : ℕ} → n ≡ length (part_keys p 0) → Ok n ≡ cover_answer v lower upper d
          unfolding cover_answer
          cover-yes {n} e =
              let m : n ≡ length (cover_keys v lower upper) = omega (arith, product, count) in
              sym (by_none refuse (cover_checks v lower upper d) _ none ∙ rw m)

          pub left-yes : {e : List ℕ} → e ≡ paste 0 (part_keys p 0) d → e ≡ cover_left v lower upper d
          unfolding cover_left
          left-yes q = q ∙ rw w.keys (paste-front (cover_keys v lower upper) d _ refl) ∙ sym (by_none (λ j. d) (cover_checks v lower upper d) _ none)

pub ruleset entry = (tested, cover_2, cover_3, cover_13, whole-few, whole-framed, whole_room, cover-yes, left-yes, rules)
