-- The answers to the questions, each by the tests that lead to it; e is what the judge answered.
use Prim.Native.Nat.{ℕ, ◌+◌, ◌*◌, ◌/◌, ◌≤◌, ◌<◌}
use mathlib.Core.Path.{◌≡◌, ap, ◌∙◌}
use mathlib.Core.Bool.{Bool, true, false, not}
use mathlib.Core.List.{List, [], ◌∷◌}
use native.Mathlib.Omega.{arith}
use lib.Dec.{ltb}
use lib.ListN.{length}
use lib.Ieee.{Float}
use borrow.Author.Rules.{rules}
use borrow.Author.Tests.{lt-ltb, le-ltb}
use Rattle.refusal.specs.Checks.{check, answered}
use Rattle.mesh_manifest.specs.layout.Layout.{manifest_item, levels_of, is_real_of, field_count}
use Rattle.mesh_manifest.specs.layout.Bits.{real_at}
use Rattle.mesh_manifest.specs.zorder.Order.{z_before}
use Rattle.mesh_manifest.specs.sound.Verdict.{in_order_of, manifest_verdict, manifest_answer}
use Rattle.mesh_manifest.specs.Fields.{header_at, header_answer, field_at, field_checks, field_answer}
use Rattle.mesh_manifest.specs.declared.Header.{Header}
use Rattle.std.specs.Prelude.{Ok, Err}
use Rattle.refusal.specs.Answers.{Answer, refuse}
use Rattle.refusal.specs.declared.Refusal.{Refusal}
use Rattle.refusal.specs.Answers.{judged}
use Rattle.mesh_manifest.specs.declared.Field.TheVariants as F
use Rattle.mesh_manifest.specs.declared.Field.{Field}
use Rattle.mesh_manifest.proofs.sound.Judged.{fails, passes, passed, refused, given, refused-first, given-first, told-sound}
use Rattle.mesh_manifest.proofs.sound.Sounds.{sound-ends}

-- ---- what is read, item by item

pub in_order-read : (s : List ℕ) (first n i : ℕ) {ax ay az bx by bz : ℕ} {r : Bool} → ax ≡ manifest_item s (first + i) → ay ≡ manifest_item s (first + n + i) → az ≡ manifest_item s (first + 2 * n + i)
    → bx ≡ manifest_item s (first + (i + 1)) → by ≡ manifest_item s (first + n + (i + 1)) → bz ≡ manifest_item s (first + 2 * n + (i + 1))
    → r ≡ z_before ax ay az bx by bz → r ≡ in_order_of s first n i
unfolding in_order_of
in_order-read s first n i e f g h j k q = q ∙ rw (e, f, g, h, j, k)

pub header_read : (s : List ℕ) {a b c d e f : Float} → a ≡ real_at s 0 → b ≡ real_at s 1 → c ≡ real_at s 2 → d ≡ real_at s 3 → e ≡ real_at s 4 → f ≡ real_at s 5
    → ◌≡◌ {A = Header} (record { shape_x = a; shape_y = b; shape_z = c; origin_x = d; origin_y = e; origin_z = f }) (header_at s)
unfolding header_at
header_read s p q r t u v = rw (p, q, r, t, u, v)

-- ---- answers

-- the check is the judge's answer
pub checked : (s : List ℕ) {a : Answer (Unit {0})} → a ≡ judged (manifest_verdict s) → a ≡ manifest_answer s
unfolding manifest_answer manifest_verdict
checked s e = e

module _ (s : List ℕ) {k : Refusal} (e : Err k ≡ judged (manifest_verdict s)) where
  pub header_refused : Err k ≡ header_answer s
  unfolding header_answer
  header_refused = refused s e Err (Ok (header_at s))

  pub field-refused : (i : ℕ) → Err k ≡ field_answer s i
  unfolding field_answer field_checks
  field-refused i = refused-first s e Err _ (Ok (field_at s i))

module _ (s : List ℕ) (z : manifest_verdict s ≡ 0) where
  pub header-given : {h : Header} → h ≡ header_at s → Ok h ≡ header_answer s
  unfolding header_answer
  header-given g = ap Ok g ∙ given s z refuse (Ok (header_at s))

  module _ (i : ℕ) where
    own : answered refuse (check 18 (not (ltb i (field_count s))) ∷ []) (Ok (field_at s i)) ≡ field_answer s i
    unfolding field_answer field_checks
    own = given-first s z refuse _ (Ok (field_at s i))

    pub field-none : length s / 4 ≤ i → refuse 18 ≡ field_answer s i
    field-none h =
        let g : field_count s ≤ i = omega (arith, sound-ends s z) in
        fails refuse (Ok (field_at s i)) 17 (not (ltb i (field_count s))) [] (ap not (le-ltb i (field_count s) g)) ∙ own

    pub field-within : i < length s / 4 → i < field_count s
    field-within h = omega (arith, sound-ends s z)

    pub field-given : {x : Field} → x ≡ field_at s i → i < length s / 4 → Ok x ≡ field_answer s i
    field-given g h =
        ap Ok g ∙ passed refuse (Ok (field_at s i))
        ∙ passes refuse (Ok (field_at s i)) 18 (not (ltb i (field_count s))) [] (ap not (lt-ltb i (field_count s) (field-within h)))
        ∙ own

module _ (s : List ℕ) (i : ℕ) {v : ℕ} {p : Bool} (e : v ≡ levels_of s) (f : p ≡ is_real_of v i) where
  pub field-real : p ≡ true → {x : Float} → x ≡ real_at s i → F.Real x ≡ field_at s i
  unfolding field_at
  field-real t g = let q : is_real_of (levels_of s) i ≡ true = cc in rw q (ap F.Real g)

  pub field-whole : p ≡ false → {w : ℕ} → w ≡ manifest_item s i → F.Whole w ≡ field_at s i
  unfolding field_at
  field-whole t g = let q : is_real_of (levels_of s) i ≡ false = cc in rw q (ap F.Whole g)

pub ruleset asked = (
  checked,
  header-given,
  field-none,
  field-given,
  field-within,
  told-sound,
  field-real,
  field-whole,
  rules,
)
