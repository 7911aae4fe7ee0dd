-- The reals that cross the C border as patterns: none is a NaN, and a header's and a field's patterns are the file's own items.
use Prim.Native.Nat.{ℕ, ◌<◌}
use mathlib.Core.Path.{◌≡◌, refl, sym, ap, ◌∙◌}
use mathlib.Core.Bool.{Bool, true, false, not}
use mathlib.Core.List.{List, [], ◌∷◌}
use native.Mathlib.Omega.{arith}
use lib.Dec.{T}
use lib.ListN.{get_or}
use lib.Ieee.{binary32, is_nan, to_bits}
use borrow.Author.Tests.{lt-ltb}
use Rattle.refusal.specs.Choice.{pick}
use Rattle.mesh_manifest.specs.layout.Layout.{manifest_item, levels_of, is_real_of, field_count}
use Rattle.mesh_manifest.specs.layout.Bits.{real_at}
use Rattle.mesh_manifest.specs.sound.Verdict.{manifest_verdict}
use Rattle.mesh_manifest.specs.Fields.{header_at, header_answer, field_at, field_answer}
use Rattle.mesh_manifest.specs.declared.Header.{Header}
use Rattle.std.specs.Prelude.{Ok}
use Rattle.refusal.specs.Answers.{Answer}
use Rattle.mesh_manifest.specs.declared.Field.TheVariants as F
use Rattle.mesh_manifest.proofs.sound.Sounds.{sound-ends}
use Rattle.mesh_manifest.proofs.Asked.{header-given, field-given}
use Rattle.mesh_manifest.proofs.Fields.{real-bits, header-number}
use Rattle.coronagamba.specs.Manifests.{header_after, value_after}

module _ (s : List ℕ) {a : Answer Header} {h : Header} (e : a ≡ header_answer s) (g : a ≡ Ok h) where
  pub shape-x : T (not (is_nan h.shape_x))
  unfolding header_at
  shape-x = header-number s e g (λ (h : Header). h.shape_x) 0 refl (omega arith)

  pub shape-y : T (not (is_nan h.shape_y))
  unfolding header_at
  shape-y = header-number s e g (λ (h : Header). h.shape_y) 1 refl (omega arith)

  pub shape-z : T (not (is_nan h.shape_z))
  unfolding header_at
  shape-z = header-number s e g (λ (h : Header). h.shape_z) 2 refl (omega arith)

  pub origin-x : T (not (is_nan h.origin_x))
  unfolding header_at
  origin-x = header-number s e g (λ (h : Header). h.origin_x) 3 refl (omega arith)

  pub origin-y : T (not (is_nan h.origin_y))
  unfolding header_at
  origin-y = header-number s e g (λ (h : Header). h.origin_y) 4 refl (omega arith)

  pub origin-z : T (not (is_nan h.origin_z))
  unfolding header_at
  origin-z = header-number s e g (λ (h : Header). h.origin_z) 5 refl (omega arith)

-- of a sound manifest
module _ (s : List ℕ) (sound : manifest_verdict s ≡ 0) (bytes : (i : ℕ) → get_or s i 0 < 256) where
  -- the header writes the first six items,
  pub header_items : (before : List ℕ) → header_after (header_answer s) before ≡ manifest_item s 0 ∷ manifest_item s 1 ∷ manifest_item s 2 ∷ manifest_item s 3 ∷ manifest_item s 4 ∷ manifest_item s 5 ∷ []
  unfolding header_at is_real_of header_after
  header_items before =
      ap (λ (a : Answer Header). header_after a before) (sym (header-given s sound refl))
      ∙ rw (item 0 (omega arith), item 1 (omega arith), item 2 (omega arith), item 3 (omega arith), item 4 (omega arith), item 5 (omega arith))
    where
      item : (i : ℕ) → i < 6 → to_bits binary32 (real_at s i) ≡ manifest_item s i
      item i l = real-bits s sound bytes i (omega (arith, sound-ends s sound)) (rw (lt-ltb i 6 l))

  -- and a field the item of its number
  pub field-item : (i before : ℕ) → i < field_count s → value_after (field_answer s i) before ≡ manifest_item s i
  unfolding field_at value_after
  field-item i before h =
      ap (λ a. value_after a before) (sym (field-given s sound i refl (omega (arith, sound-ends s sound))))
      ∙ value (is_real_of (levels_of s) i) refl
    where
      value : (b : Bool) → is_real_of (levels_of s) i ≡ b → value_after (Ok (pick b (F.Real (real_at s i)) (F.Whole (manifest_item s i)))) before ≡ manifest_item s i
      value true e = real-bits s sound bytes i h e
      value false e = refl
