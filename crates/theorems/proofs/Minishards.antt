-- Which minishard a refusal names, from the laws of the check and of the measure.
use Prim.Native.Nat.{ℕ}
use mathlib.Core.Path.{◌≡◌, refl, sym, ap, ◌∙◌}
use mathlib.Core.Logic.{◌↔◌}
use mathlib.Core.Option.{Option, none, some}
use native.Mathlib.Omega.{arith}
use Rattle.refusal.specs.Result.{Result, faulty_in, written_result, count_result}
use Rattle.std.specs.Prelude.{Ok, Err}
use Rattle.refusal.specs.declared.CountAnswer.TheVariants as N
use Rattle.morton.specs.grid.Answers.{grid_result}
use Rattle.morton.specs.Answers.{key_result, cell_result}
use Rattle.morton.specs.bounds.Answers.{bounds_result}
use Rattle.sharding.specs.placement.Place.{place_result}
use Rattle.shard.specs.declared.CheckAnswer.{CheckAnswer}
use Rattle.shard.specs.declared.CheckAnswer.TheVariants as C
use Rattle.shard.specs.File.{check_result}
use Rattle.shard.proofs.Whole.{check-names}
use Rattle.lookup.specs.declared.id_search.LookupAnswer.TheVariants as A
use Rattle.lookup.specs.Find.{lookup_result}
use Rattle.split_shard.specs.declared.held_range.RangeAnswer.TheVariants as R
use Rattle.split_shard.specs.seam.Range.{range_result}
use Rattle.intake.specs.Calls.{intake_result, close_result}
use Rattle.holdings.specs.declared.measures.MeasureAnswer.{MeasureAnswer}
use Rattle.holdings.specs.declared.measures.MeasureAnswer.TheVariants as M
use Rattle.holdings.specs.measures.Answers.{measure_result}
use Rattle.holdings.specs.Answers.{sheet_result}
use Rattle.card.specs.Answers.{card_result}
use Rattle.mesh_manifest.specs.declared.Field.TheVariants as F
use Rattle.mesh_manifest.specs.sound.Verdict.{manifest_result}
use Rattle.mesh_manifest.specs.Fields.{header_result, field_result}
use Rattle.mesh_manifest.specs.nodes.Nodes.{node_result}
use Rattle.mesh_manifest.specs.corners.Boxes.{corners_result}
use Rattle.compressed_segmentation.specs.Labels.{label_result}
use Rattle.theorems.specs.Minishards.{Minishards, NamesNone, NamesWithPosition}
use Rattle.theorems.proofs.Measures.{measure-names, check-names-pair, measure-names-pair}

-- ---- a fault that is told is the fault that is answered

module _ {A : Type 0} where
  no-position : {r : Result A} {k m p : ℕ} → r.position ≡ none → r ≡ faulty_in k m p → ◌≡◌ {A = ℕ} 0 1
  no-position {p = p} n e = let q : ◌≡◌ {A = Option ℕ} none (some p) = sym n ∙ ap (λ (r : Result A). r.position) e in cc

  same : {j n q k m p : ℕ} → ◌≡◌ {A = Result A} (faulty_in j n q) (faulty_in k m p) → (j ≡ k) × (n ≡ m) × (q ≡ p)
  same {n = n} {q} {m = m} {p} e =
      let y : some n ≡ some m = ap (λ (r : Result A). r.minishard) e in
      let z : some q ≡ some p = ap (λ (r : Result A). r.position) e in
      (ap (λ (r : Result A). r.number) e, cc, cc)

check-told : (a : CheckAnswer) {k m p : ℕ} → check_result a ≡ faulty_in k m p → a ≡ C.Faulty k m p
check-told C.Sound e = let z = no-position refl e in absurd (omega arith)
check-told (C.Refused j) e = let z = no-position refl e in absurd (omega arith)
check-told (C.Faulty j n q) e = let z = same e in rw (z.0, z.1, z.2)

measure-told : (a : MeasureAnswer) {k m p : ℕ} → measure_result a ≡ faulty_in k m p → a ≡ M.Faulty k m p
measure-told (M.Sound counts) e = let z = no-position refl e in absurd (omega arith)
measure-told (M.Refused j) e = let z = no-position refl e in absurd (omega arith)
measure-told (M.Faulty j n q) e = let z = same e in rw (z.0, z.1, z.2)

-- so what is said of the answer is said of what it tells
by_answer : {A B T : Type 0} (f : A → Result B) {a b : A} {r : Result B} → (f a ≡ r → a ≡ b) → f b ≡ r → (a ≡ b) ↔ T → (f a ≡ r) ↔ T
by_answer f back e t = (λ h. t.0 (back h), λ h. let z = t.1 h in rw z e)

-- ---- the minishard comes with the position

some-none : {n p : ℕ} → (some n ≡ none) ↔ (some p ≡ none)
some-none = (λ e. let z : ◌≡◌ {A = ℕ} 0 1 = cc in absurd (omega arith), λ e. let z : ◌≡◌ {A = ℕ} 0 1 = cc in absurd (omega arith))

check_with : NamesWithPosition check_result
check_with C.Sound = (λ e. refl, λ e. refl)
check_with (C.Refused k) = (λ e. refl, λ e. refl)
check_with (C.Faulty k m p) = some-none

measure_with : NamesWithPosition measure_result
measure_with (M.Sound counts) = (λ e. refl, λ e. refl)
measure_with (M.Refused k) = (λ e. refl, λ e. refl)
measure_with (M.Faulty k m p) = some-none

-- ---- the other answers name none

grid-none : NamesNone grid_result
grid-none (Ok g) = refl
grid-none (Err k) = refl

key-none : NamesNone key_result
key-none (Ok n) = refl
key-none (Err k) = refl

cell-none : NamesNone cell_result
cell-none (Ok c) = refl
cell-none (Err k) = refl

bounds-none : NamesNone bounds_result
bounds-none (Ok b) = refl
bounds-none (Err k) = refl

place_none : NamesNone place_result
place_none (Ok p) = refl
place_none (Err k) = refl

written_none : NamesNone written_result
written_none (Ok n) = refl
written_none (Err k) = refl

count_none : NamesNone count_result
count_none (N.Count n) = refl
count_none (N.Refused k) = refl
count_none (N.Faulty k p) = refl

lookup-none : NamesNone lookup_result
lookup-none (A.Found start n) = refl
lookup-none (A.Refused k) = refl
lookup-none (A.Faulty k p) = refl

range_none : NamesNone range_result
range_none (R.InIndex start n) = refl
range_none (R.InData start n) = refl
range_none (R.Refused k) = refl

sheet-none : NamesNone sheet_result
sheet-none (Ok t) = refl
sheet-none (Err k) = refl

intake-none : NamesNone intake_result
intake-none (Ok s) = refl
intake-none (Err k) = refl

close-none : NamesNone close_result
close-none (Ok c) = refl
close-none (Err k) = refl

card-none : NamesNone card_result
card-none (Ok c) = refl
card-none (Err k) = refl

manifest-none : NamesNone manifest_result
manifest-none (Ok v) = refl
manifest-none (Err k) = refl

header-none : NamesNone header_result
header-none (Ok h) = refl
header-none (Err k) = refl

field-none : NamesNone field_result
field-none (Ok (F.Real x)) = refl
field-none (Ok (F.Whole n)) = refl
field-none (Err k) = refl

node-none : NamesNone node_result
node-none (Ok n) = refl
node-none (Err k) = refl

corners-none : NamesNone corners_result
corners-none (Ok c) = refl
corners-none (Err k) = refl

label-none : NamesNone label_result
label-none (Ok n) = refl
label-none (Err k) = refl

pub minishards : Minishards
minishards = record {
  check = λ spec shard file k m p. by_answer check_result (check-told _) refl (check-names spec shard file k m p);
  check_of_pair = λ spec shard index d k m p. by_answer check_result (check-told _) refl (check-names-pair spec shard index d k m p);
  measure = λ spec shard file k m p. by_answer measure_result (measure-told _) refl (measure-names spec shard file k m p);
  measure_of_pair = λ spec shard index d k m p. by_answer measure_result (measure-told _) refl (measure-names-pair spec shard index d k m p);
  check_with_position = check_with;
  measure_with_position = measure_with;
  grid = grid-none;
  key = key-none;
  cell = cell-none;
  bounds = bounds-none;
  place = place_none;
  written = written_none;
  count = count_none;
  lookup = lookup-none;
  range = range_none;
  sheet = sheet-none;
  intake = intake-none;
  close = close-none;
  card = card-none;
  manifest = manifest-none;
  header = header-none;
  field = field-none;
  node = node-none;
  corners = corners-none;
  label = label-none;
}
