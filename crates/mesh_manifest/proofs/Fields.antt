-- The fields of a sound manifest are its bytes' numbers, and there is one for each 4 bytes.
use Prim.Native.Nat.{ℕ, ◌*◌, ◌<◌}
use mathlib.Core.Path.{◌≡◌, refl, sym, ap, ◌∙◌, subst}
use mathlib.Core.Bool.{Bool, true, false, not}
use mathlib.Core.List.{List}
use native.Mathlib.Omega.{arith}
use lib.Dec.{T}
use lib.ListN.{length, get_or, take, drop}
use lib.Ieee.{Float, binary32, is_nan, to_bits}
use borrow.Author.Tests.{lt-ltb}
use Rattle.refusal.specs.Choice.{pick}
use Rattle.endian.specs.Little.{le}
use Rattle.endian.proofs.Little.{le_at-bound, le-le_at}
use Rattle.mesh_manifest.specs.layout.Layout.{manifest_item, levels_of, is_real_of, field_count}
use Rattle.mesh_manifest.specs.layout.Bits.{real_at}
use Rattle.mesh_manifest.specs.sound.Verdict.{manifest_checks, manifest_verdict}
use Rattle.mesh_manifest.specs.Fields.{header_at, header_answer, field_at, field_checks, field_answer}
use Rattle.mesh_manifest.specs.declared.Header.{Header}
use Rattle.std.specs.Prelude.{Ok, Err}
use Rattle.refusal.specs.Answers.{Answer, refuse}
use Rattle.mesh_manifest.specs.declared.Field.{Field}
use Rattle.mesh_manifest.specs.declared.Field.TheVariants as F
use Rattle.mesh_manifest.proofs.layout.Patterns.{bits_back, real-number}
use Rattle.mesh_manifest.proofs.sound.Judged.{unrefused, none-sound}
use Rattle.mesh_manifest.proofs.sound.Sounds.{sound-if, sound-ends}
use Rattle.mesh_manifest.proofs.Asked.{field-given}

-- the 32 bits of a field: a real's pattern, or the number itself
unfoldable pub bits_of : Answer Field → ℕ
bits_of (Ok (F.Real x)) = to_bits binary32 x
bits_of (Ok (F.Whole n)) = n
bits_of (Err r) = 0

module _ (s : List ℕ) (sound : manifest_verdict s ≡ 0) where
  pub field-count : 4 * field_count s ≡ length s
  field-count = sym (sound-ends s sound)

  module _ (bytes : (i : ℕ) → get_or s i 0 < 256) (i : ℕ) (h : i < field_count s) where
    pub real-bits : is_real_of (levels_of s) i ≡ true → to_bits binary32 (real_at s i) ≡ manifest_item s i
    unfolding real_at manifest_item
    real-bits e = bits_back (manifest_item s i) (le_at-bound 4 s (4 * i) bytes) (subst T (sym ((sound-if s sound).reals i e)) tt)

    given : (b : Bool) → is_real_of (levels_of s) i ≡ b → bits_of (Ok (pick b (F.Real (real_at s i)) (F.Whole (manifest_item s i)))) ≡ manifest_item s i
    unfolding bits_of
    given true e = real-bits e
    given false e = refl

    pub field-bits : bits_of (field_answer s i) ≡ manifest_item s i
    unfolding field_at
    field-bits = ap bits_of (sym (field-given s sound i refl (omega (arith, sound-ends s sound)))) ∙ given (is_real_of (levels_of s) i) refl

    -- these bits, lowest byte first, are the file's 4 bytes at that field's place
    pub field-bytes : le 4 (bits_of (field_answer s i)) ≡ take 4 (drop (4 * i) s)
    unfolding manifest_item
    field-bytes = ap (le 4) field-bits ∙ le-le_at 4 s (4 * i) bytes (omega (arith, sound-ends s sound))

-- ---- no real that is given is a NaN

number : (s : List ℕ) → manifest_verdict s ≡ 0 → (i : ℕ) → is_real_of (levels_of s) i ≡ true → T (not (is_nan (real_at s i)))
unfolding real_at
number s sound i e = real-number (manifest_item s i) (subst T (sym ((sound-if s sound).reals i e)) tt)

-- one of the header's: f takes it, and it stands in item i
pub header-number : (s : List ℕ) {a : Answer Header} {h : Header} → a ≡ header_answer s → a ≡ Ok h
    → (f : Header → Float) (i : ℕ) → f (header_at s) ≡ real_at s i → i < 6 → T (not (is_nan (f h)))
unfolding header_answer manifest_verdict is_real_of
header-number s {a} {h} e g f i q l =
    let z = unrefused refuse (manifest_checks s) (Ok (header_at s)) (λ k p. cc) (sym e ∙ g) in
    let w : h ≡ header_at s = cc z.1 in
    subst (λ (x : Float). T (not (is_nan x))) (sym (ap f w ∙ q)) (number s z.0 i (rw (lt-ltb i 6 l)))

is_real : (b : Bool) (x y : Float) (n : ℕ) → F.Real x ≡ pick b (F.Real y) (F.Whole n) → (b ≡ true) × (x ≡ y)
is_real true x y n e = (refl, cc)
is_real false x y n e = let z : ◌≡◌ {A = ℕ} 0 1 = cc in absurd (omega arith)

pub field-number : (s : List ℕ) (i : ℕ) {a : Answer Field} {x : Float} → a ≡ field_answer s i → a ≡ Ok (F.Real x) → T (not (is_nan x))
unfolding field_answer field_checks field_at
field-number s i {a} {x} e g =
    let z = unrefused refuse (field_checks s i) (Ok (field_at s i)) (λ k p. cc) (sym e ∙ g) in
    let r = is_real (is_real_of (levels_of s) i) x (real_at s i) (manifest_item s i) (cc z.1) in
    subst (λ (x : Float). T (not (is_nan x))) (sym r.1) (number s (none-sound s _ z.0).0 i r.0)
