-- 13, exactly: an opening or an announcement is refused so where the settled form of all announced so far, this chunk included, would pass the output or 1 GiB, or
-- the second buffer has no 16 bytes left for it.
use Prim.Native.Nat.{ℕ, zero, suc, ◌+◌, ◌≤◌, ◌<◌}
use mathlib.Core.Path.{◌≡◌, sym, ap, ◌∙◌}
use mathlib.Core.Bool.{false, ◌||◌}
use mathlib.Core.List.{List, [], ◌∷◌, ◌++◌}
use native.Mathlib.Omega.{arith}
use native.Mathlib.Nat.{add-zero, add-suc, suc-add, zero-add, not-suc-le-zero}
use lib.ListN.{length, get_or, length-replicate}
use lib.Seq.{get_or_at}
use Rattle.refusal.specs.Checks.{first_number}
use Rattle.sharding.specs.declared.Sharding.{Sharding}
use Rattle.sharding.specs.Specification.{minishard_count_of}
use Rattle.sharding.specs.placement.Place.{minishard_of}
use Rattle.sharding.proofs.placement.Placed.{minishard-below}
use Rattle.shard.specs.File.{index_length_of}
use Rattle.shard.specs.Items.{Item}
use Rattle.settled_form.specs.Form.{parts_length, settled, settled_length}
use Rattle.settled_form.proofs.Measures.{length-settled}
use Rattle.intake.specs.declared.state.Intake.{Intake}
use Rattle.intake.specs.state.State.{announced_length}
use Rattle.intake.specs.call_tests.Tests.{out_of_order, count_in, no_room}
use Rattle.intake.specs.admission.Refusals.{open_checks}
use Rattle.intake.proofs.call_tests.Passing.{not-below}
use Rattle.intake.proofs.steps.Stepped.{turned-count}
use Rattle.delivered.specs.Delivered.{Delivery, as_items, in_minishard, gathered}
use Rattle.delivered.specs.Runs.{Desk, Takes}
use Rattle.delivered.specs.Says.{too_long, no_pair_left, open_says}
use Rattle.delivered.proofs.Appends.{empties, empties_settled}
use Rattle.delivered.proofs.Contents.{arrived_from, arrived, arrived_snoc, arrived_nil, arrived_length, put-length, put-parts, gathered-length}
use Rattle.delivered.proofs.Keeping.{Keeps, turned-keeps, turned-there, keeps-length, takes_keeps}
use Rattle.delivered.proofs.Fitting.{takes_fit}

-- ---- the content, minishard by minishard

arrived_from-at : (spec : Sharding) (xs : List Item) (m k i : ℕ) → i < k → get_or (arrived_from spec xs m k) i [] ≡ in_minishard spec (m + i) xs
unfolding arrived_from
arrived_from-at spec xs m zero i l = absurd (not-suc-le-zero l)
arrived_from-at spec xs m (suc k) zero l = rw (add-zero m)
arrived_from-at spec xs m (suc k) (suc i) l = arrived_from-at spec xs (suc m) k i (omega arith) ∙ rw (suc-add m i, add-suc m i)

pub arrived_at : (spec : Sharding) (xs : List Item) (m : ℕ) → m < minishard_count_of spec → get_or (arrived spec xs) m [] ≡ in_minishard spec m xs
unfolding arrived
arrived_at spec xs m l = arrived_from-at spec xs 0 (minishard_count_of spec) m l ∙ rw (zero-add m)

-- ---- the lengths

-- the settled form with one item more
length_more : (spec : Sharding) (xs : List Item) (x : Item) → x.lead ≡ []
    → length (settled (gathered spec (xs ++ (x ∷ [])))) ≡ length (settled (arrived spec xs)) + (length x.body + 24)
unfolding settled_length
length_more spec xs x e =
    let c = arrived spec xs in
    let m = minishard_of spec x.id in
    let a = length-settled (arrived spec (xs ++ (x ∷ []))) in
    let b = length-settled c in
    let s = arrived_snoc spec xs x in
    let l : length (arrived spec (xs ++ (x ∷ []))) ≡ length c = ap length s ∙ put-length m x c in
    let p : parts_length (arrived spec (xs ++ (x ∷ []))) ≡ parts_length c + (length x.lead + (length x.body + 24)) =
    ap parts_length s ∙ put-parts m x c (omega (arith, minishard-below spec x.id, arrived_length spec xs)) in
    gathered-length spec (xs ++ (x ∷ [])) ∙ omega (arith, ap length e)

-- of a shard with no chunk
length_none : (spec : Sharding) → length (settled (gathered spec [])) ≡ index_length_of spec
length_none spec =
    gathered-length spec [] ∙ ap (λ (c : List (List Item)). length (settled c)) (arrived_nil spec) ∙ ap length (empties_settled (minishard_count_of spec)) ∙ length-replicate _ _

-- how many of its minishard wait in the second buffer
count-is : {spec : Sharding} {out : List ℕ} (xs : List Item) {s : Intake} {o w : List ℕ} → Keeps spec out (arrived spec xs) s o w → (m : ℕ) → m < minishard_count_of spec → s.minishard ≤ m
    → count_in s m ≡ length (in_minishard spec m xs)
count-is {spec} xs {s} h m b l =
    let k = turned-keeps h m b l in
    let e : length k.ended ≡ m = sym k.stands.here ∙ turned-there s m in
    sym (turned-count s m) ∙ k.stands.counted
    ∙ ap length (sym (get_or_at k.ended k.current (empties k.after) [] m e) ∙ ap (λ (c : List (List Item)). get_or c m []) (sym k.split) ∙ arrived_at spec xs m b)

-- ---- the refusals

pub open-says : (spec : Sharding) (shard output : ℕ) → first_number (open_checks spec shard output) ≡ first_number (open_says spec shard output)
unfolding open_checks open_says too_long
open-says spec shard output = rw (length_none spec)

module _ {spec : Sharding} {shard : ℕ} {out waiting : List ℕ} {xs : List Delivery} {d : Desk} (t : Takes spec shard out waiting xs d) (z : d.state.owed ≡ 0) (x : Item) (e : x.lead ≡ []) (o : out_of_order d.state x.id ≡ false) where
  pub room-is : no_room d.state x.id (length x.body) ≡ too_long spec (as_items xs ++ (x ∷ [])) (length out) || no_pair_left spec (as_items xs) x (length waiting)
  unfolding no_room too_long no_pair_left
  room-is =
      let k = takes_keeps t z in
      let f = takes_fit t in
      let s = d.state in
      let m = minishard_of spec x.id in
      let a : announced_length s + (length x.body + 24) ≡ length (settled (gathered spec (as_items xs ++ (x ∷ [])))) =
      omega (arith, keeps-length k z, length_more spec (as_items xs) x e) in
      let p : minishard_of s.spec x.id ≡ m = ap (λ (y : Sharding). minishard_of y x.id) f.of_spec in
      let c : count_in s m ≡ length (in_minishard spec m (as_items xs)) =
      count-is (as_items xs) k m (minishard-below spec x.id) (omega (arith, not-below s x.id o)) in
      rw (a, p, c, f.outputs, f.waits)
