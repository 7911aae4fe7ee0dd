-- The orders' promises, from the crates' laws.
use Prim.Native.Nat.{ℕ, zero, suc, ◌+◌, ◌<◌}
use mathlib.Core.Path.{◌≡◌, refl, sym, ap, ◌∙◌}
use mathlib.Core.Bool.{Bool, true, false, not, false≢true}
use mathlib.Core.Logic.{⊎_elim, inl}
use mathlib.Core.List.{List, [], ◌∷◌, ◌++◌, append_assoc}
use native.Mathlib.Omega.{arith}
use lib.Dec.{eqb}
use lib.ListN.{take, get_or}
use Rattle.refusal.specs.Choice.{pick}
use Rattle.refusal.specs.Checks.{Check, check, first_number, first_position, left, answered_at}
use Rattle.refusal.specs.Buffer.{over, room}
use Rattle.endian.specs.Little.{le}
use Rattle.sharding.specs.declared.Sharding.{Sharding}
use Rattle.sharding.specs.Specification.{mesh, minishard_bits_of, allowed, no_such_shard}
use Rattle.sharding.specs.placement.Place.{hashed_id, minishard_of, shard_of, place_checks}
use Rattle.shard.specs.Sound.{SoundMinishard}
use Rattle.sharding.specs.batch.Batch.{shards_of, minishards_of, places_checks}
use Rattle.sharding.specs.Before.{allowed_before}
use Rattle.sharding.proofs.Allowed.{allowed-within}
use Rattle.sharding.proofs.Before.{same-before}
use Rattle.names.specs.Shards.{file_name_checks, shard_name, shard_name_checks}
use Rattle.shard.specs.File.{index_part, data_part, bad_file_length, file_checks, shard_checks, check_answer}
use Rattle.lookup.specs.Find.{lookup_checks, lookup_answer}
use Rattle.split_shard.specs.Answers.{other_shard}
use Rattle.card.specs.declared.Card.{Card}
use Rattle.std.specs.Prelude.{Ok}
use Rattle.refusal.specs.Answers.{refuse}
use Rattle.card.specs.Layout.{head, field, one_byte, sharding_bytes, volume_bytes, kind_bytes, card_bytes}
use Rattle.card.specs.Answers.{write_left}
use Rattle.card.specs.older_readers.Before.{card_bytes_before_mesh}
use Rattle.card.proofs.older_readers.Before.{same_bytes, same_record, mesh-card-is_14, other-before-mesh, new-card-is_1, other-bytes-same, written-mesh-is_14, written-is-new}
use Rattle.info.proofs.document.Meaning.{meaning}
use Rattle.shard.specs.Faults.{shard_fault}
use Rattle.shard.proofs.Leads.{mesh-leads}
use Rattle.shard.proofs.Earlier.{earlier-sound, earlier-passes}
use Rattle.settled_form.specs.Content.{content_of, form_of, form_length, file_form, file_form_length}
use Rattle.settled_form.proofs.Earlier.{volume-form}
use Rattle.unlisted.specs.ranges.Ranges.{Unlisted}
use Rattle.unlisted.specs.ranges.Covered.{unlisted_bytes, file_unlisted}
use Rattle.unlisted.proofs.ranges.Meaning.{missed-unlisted, none-unlisted}
use Rattle.unlisted.proofs.Counted.{unlisted-sound}
use Rattle.settled_form.proofs.shortest.Listed.{form-listed}
use Rattle.refusal.specs.declared.CountAnswer.TheVariants as S
use Rattle.settle.specs.answers.Answers.{too_long, loses_bytes, unlisted_check, length_check, settled_length_checks, length_answer, settle_check, settle_checks, settle_answer, settle_left}
use Rattle.settle.proofs.answers.Answered.{length_lost, answer_lost, left_lost}
use Rattle.settle.proofs.Demand3.{demand_3_written}
use Rattle.morton.proofs.batch.Each.{keys_of_each}
use Rattle.morton.proofs.scan.Laws as G
use Rattle.cover.proofs.overlap.Laws.{listed-is, cell-listed, keys_rise, reversed-lists-none, outside_lists-none, keys-written}
use Rattle.positions.proofs.Points.{check-points, lookup-points, fragment-points, count-points, listing-points, unlisted-named, length-named, settle-named}
use Rattle.theorems.proofs.Starts.{start-steps}
use Rattle.theorems.proofs.Standing.{form-before}
use Rattle.theorems.proofs.Carried.{check-carries, lookup-carries, fragment-carries, count-carries, listing-carries, unlisted-carries, length-carries, settle-carries, measure-carries, check-pair-carries, lookup-pair-carries, fragment-pair-carries, count-pair-carries, listing-pair-carries, unlisted-pair-carries, length-pair-carries, settle-pair-carries, measure-pair-carries}
use Rattle.theorems.specs.Kept.{file_checks_before, check_before, lookup_before, content_before, settling_before, settle_before, settle_left_before}
use Rattle.theorems.specs.Orders.{as_volume, Manifests, place_in, chunk_in, Order2, Order4, Order5, Order6, Order7, settle_checks_before, length_checks_before, Order8, Order9}

pub order_2 : Order2
order_2 = record {
  passes = earlier-passes;
  form = form-before;
  settles = λ spec shard a out z h g.
      let e = form-before spec shard a z in
      rw e at (demand_3_written (earlier-sound spec shard a z) (inl refl) out (rw e h) (rw e g));
}

-- 22, where it does not hold, is no check
past_22 : (cs : List Check) (c : Check)
    → (first_number (cs ++ (check 22 false ∷ c ∷ [])) ≡ first_number (cs ++ (c ∷ []))) × (first_position (cs ++ (check 22 false ∷ c ∷ [])) ≡ first_position (cs ++ (c ∷ [])))
unfolding first_number first_position
past_22 [] c = (refl, refl)
past_22 (x ∷ cs) c = let e = past_22 cs c in rw (e.0, e.1) (refl, refl)

-- asked to drop unlisted bytes, settling has no 22
asked-to-drop : (spec : Sharding) (shard : ℕ) (a out : List ℕ)
    → (settle_answer spec shard a true out ≡ answered_at S.Refused S.Faulty (settle_checks_before spec shard a out) (S.Count (file_form_length spec a)))
    × (settle_left spec shard a true out ≡ left (settle_checks_before spec shard a out) (over (file_form spec a) out) out)
unfolding settle_answer settle_left settle_checks settle_checks_before unlisted_check loses_bytes
asked-to-drop spec shard a out =
    let e = past_22 (shard_checks spec shard a) (settle_check spec (index_part spec a) (data_part spec a) out) in
    rw (e.0, e.1) (refl, refl)

module _ (spec : Sharding) (e : allowed_before spec ≡ true) where
  same_place : place_checks spec ≡ check 1 (not (allowed_before spec)) ∷ []
  unfolding place_checks
  same_place = rw (same-before spec e)

  same-places : (ids shards minishards : List ℕ)
      → places_checks spec ids shards minishards ≡ check 1 (not (allowed_before spec)) ∷ room (shards_of spec ids) shards ∷ room (minishards_of spec ids) minishards ∷ []
  unfolding places_checks
  same-places ids shards minishards = rw (same-before spec e)

  same_name : (shard : ℕ) (out : List ℕ)
      → shard_name_checks spec shard out ≡ check 1 (not (allowed_before spec)) ∷ check 5 (no_such_shard spec shard) ∷ room (shard_name spec shard) out ∷ []
  unfolding file_name_checks
  same_name shard out = rw (same-before spec e)

  same-file : (five : Bool) (file : List ℕ) → file_checks spec five file ≡ file_checks_before spec five file
  unfolding file_checks file_checks_before bad_file_length
  same-file five file = rw (same-before spec e)

  same_check : (shard : ℕ) (file : List ℕ) → check_answer spec shard file ≡ check_before spec shard file
  unfolding check_answer check_before shard_fault
  same_check shard file = rw (same-file (no_such_shard spec shard) file)

  same-lookup : (shard : ℕ) (file : List ℕ) (id : ℕ) → lookup_answer spec shard file id ≡ lookup_before spec shard file id
  unfolding lookup_answer lookup_before lookup_checks
  same-lookup shard file id = rw (same-file (other_shard spec shard id) file)

  same_checks : (shard : ℕ) (file out : List ℕ) → settle_checks_before spec shard file out ≡ settling_before spec shard file out
  unfolding settle_checks_before settling_before content_before shard_checks settle_check too_long form_length content_of
  same_checks shard file out = rw (same-file (no_such_shard spec shard) file)

  same-settle : (shard : ℕ) (file out : List ℕ) → (settle_answer spec shard file true out ≡ settle_before spec shard file out) × (settle_left spec shard file true out ≡ settle_left_before spec shard file out)
  unfolding settle_before settle_left_before content_before form_length form_of content_of
  same-settle shard file out = rw (← same_checks shard file out) (asked-to-drop spec shard file out)

says_none : (n : ℕ) (c : Card) → refuse n ≡ Ok c → ⊥
says_none n c e = let z : ◌≡◌ {A = ℕ} 0 1 = cc in omega arith

-- tag 3's body
third-field : (c : Card) → get_or (card_bytes c) 11 0 ≡ minishard_bits_of c.sharding
unfolding card_bytes sharding_bytes one_byte field head le
third-field c = refl

pub order_4 : Order4
order_4 = record {
  allows = λ spec e. sym (same-before spec e) ∙ e;
  check_kept = λ spec shard file e. same_check spec e shard file;
  lookup_kept = λ spec shard file id e. same-lookup spec e shard file id;
  settle_kept = λ spec shard file out e. same-settle spec e shard file out;
  places = same_place;
  batches = λ spec ids shards minishards e. same-places spec e ids shards minishards;
  names = λ spec shard out e. same_name spec e shard out;
  files = λ spec five file e. same-file spec e five file;
  records = λ c e. sym (same_record c (same-before c.sharding e));
  field = third-field;
  written = λ c out n r w v h. new-card-is_1 (take n (write_left c out)) (written-is-new c out n r w v h);
  new = new-card-is_1;
  other = other-bytes-same;
  read = λ s c e.
      sym (other-bytes-same s (λ h. says_none 14 c (sym (mesh-card-is_14 s h).1 ∙ e)) (λ h. says_none 1 c (sym (new-card-is_1 s h) ∙ e))) ∙ e;
}

pub order_5 : Order5
order_5 = record {
  listed = listed-is;
  cells = cell-listed;
  rising = keys_rise;
  empty = reversed-lists-none;
  beside = outside_lists-none;
  written = keys-written;
}

pub order_6 : Order6
order_6 = record {
  check = check-points;
  lookup = lookup-points;
  fragment = fragment-points;
  count = count-points;
  listing = listing-points;
  unlisted = unlisted-named;
  form_length = λ spec shard file k p dropping. length-named spec shard file k p dropping;
  settle = settle-named;
  check_carries = check-carries;
  lookup_carries = lookup-carries;
  fragment_carries = fragment-carries;
  count_carries = count-carries;
  listing_carries = listing-carries;
  unlisted_carries = unlisted-carries;
  form_length_carries = length-carries;
  settle_carries = settle-carries;
  measure_carries = measure-carries;
  check_of_pair_carries = check-pair-carries;
  lookup_of_pair_carries = lookup-pair-carries;
  fragment_of_pair_carries = fragment-pair-carries;
  count_of_pair_carries = count-pair-carries;
  listing_of_pair_carries = listing-pair-carries;
  unlisted_of_pair_carries = unlisted-pair-carries;
  form_length_of_pair_carries = length-pair-carries;
  settle_of_pair_carries = settle-pair-carries;
  measure_of_pair_carries = measure-pair-carries;
}

mesh-manifests : (spec : Sharding) (shard : ℕ) (index d : List ℕ) (m : ℕ) → spec.kind ≡ mesh → SoundMinishard spec shard index d m → SoundMinishard (as_volume spec) shard index d m × Manifests index d m
unfolding shard_of minishard_of hashed_id
mesh-manifests spec shard index d m k s = (
  record {
    ordered = s.ordered;
    within = s.within;
    whole = s.whole;
    distinct = s.distinct;
    ours = s.ours;
    here = s.here;
    inside = s.inside;
    manifests = λ e. absurd (false≢true e);
    fragments = λ e. absurd (false≢true e);
  },
  record { sound = s.manifests (rw k refl); behind = s.fragments (rw k refl) },
)

manifests-mesh : (spec : Sharding) (shard : ℕ) (index d : List ℕ) (m : ℕ) → SoundMinishard (as_volume spec) shard index d m × Manifests index d m → SoundMinishard spec shard index d m
unfolding shard_of minishard_of hashed_id
manifests-mesh spec shard index d m h =
    let s = h.0 in
    record {
      ordered = s.ordered;
      within = s.within;
      whole = s.whole;
      distinct = s.distinct;
      ours = s.ours;
      here = s.here;
      inside = s.inside;
      manifests = λ e. h.1.sound;
      fragments = λ e. h.1.behind;
    }

tag_8 : (spec : Sharding) → spec.kind ≡ mesh → kind_bytes spec ≡ 8 ∷ 1 ∷ 0 ∷ 1 ∷ []
unfolding kind_bytes one_byte field head le
tag_8 spec e = rw e

mesh-bytes : (c : Card) → c.sharding.kind ≡ mesh → card_bytes c ≡ card_bytes_before_mesh c ++ (8 ∷ 1 ∷ 0 ∷ 1 ∷ [])
unfolding card_bytes card_bytes_before_mesh
mesh-bytes c e = rw (tag_8 c.sharding e) (sym (append_assoc (sharding_bytes c.sharding) (volume_bytes c.volume) (8 ∷ 1 ∷ 0 ∷ 1 ∷ [])))

no_third : (spec : Sharding) → mesh < spec.kind → allowed spec ≡ false
no_third spec h = go (allowed spec) refl
  where
    go : (b : Bool) → allowed spec ≡ b → allowed spec ≡ false
    go true e = absurd (⊎_elim (λ k. omega (arith, k)) (λ k. omega (arith, k)) (allowed-within e).kind)
    go false e = e

pub order_7 : Order7
order_7 = record {
  manifests = λ spec shard index d m k. (mesh-manifests spec shard index d m k, manifests-mesh spec shard index d m);
  form = volume-form;
  starts = λ spec shard a m i k sound short l h. start-steps spec shard a m i sound short l h ∙ ap (λ (n : ℕ). pick (eqb i 0) (place_in spec a m) 0 + n) (mesh-leads spec k (chunk_in spec (file_form spec a) m i));
  written = written-mesh-is_14;
  cards = mesh-card-is_14;
  other = other-before-mesh;
  bytes = same_bytes;
  mesh_bytes = mesh-bytes;
  kinds = no_third;
  info = meaning.kind;
}

-- where a byte is unlisted their number is not 0
some-unlisted : (spec : Sharding) (a : List ℕ) (p : ℕ) → Unlisted spec (index_part spec a) (data_part spec a) p → 0 < file_unlisted spec a
some-unlisted spec a p u = above (file_unlisted spec a) (λ e. (none-unlisted spec (index_part spec a) (data_part spec a)).0 e p u)
  where
    above : (n : ℕ) → (n ≡ 0 → ⊥) → 0 < n
    above zero f = absurd (f refl)
    above (suc n) f = omega arith

pub order_8 : Order8
order_8 = record {
  counted = unlisted-sound;
  number = λ spec a. unfold unlisted_bytes in refl;
  missed = λ spec a. missed-unlisted spec (index_part spec a) (data_part spec a);
  none = λ spec a. none-unlisted spec (index_part spec a) (data_part spec a);
  refused = λ spec shard a out p s u. (answer_lost s (some-unlisted spec a p u) out, left_lost s (some-unlisted spec a p u) out);
  unmeasured = λ spec shard a p s u. length_lost s (some-unlisted spec a p u);
  asked = asked-to-drop;
  asked_length = λ spec shard a.
      let e = past_22 (shard_checks spec shard a) (length_check spec (index_part spec a) (data_part spec a)) in
      unfold length_answer settled_length_checks length_checks_before unlisted_check loses_bytes in rw (e.0, e.1) refl;
  form = λ spec shard a. form-listed;
}

pub order_9 : Order9
order_9 = record {
  entries = G.entry-placed;
  ends = G.entry-most;
  agrees = G.agreement;
  written = G.keys-written;
  alone = keys_of_each;
  row = G.row-cells;
  count = G.row_count;
}
