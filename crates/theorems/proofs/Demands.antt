-- The demands hold: each from the laws of the crates' definitions.
use mathlib.Core.Path.{◌≡◌, ap, ◌∙◌}
use mathlib.Core.Bool.{Bool, true}
use mathlib.Core.Logic.{◌⊎◌, inl, inr}
use mathlib.Core.List.{List}
use Prim.Native.Nat.{ℕ}
use native.Mathlib.Omega.{arith, by_contra}
use Rattle.morton.specs.Answers.{key_result, cell_result}
use Rattle.morton.proofs.Laws.{keyed, cell_gives_key_gives_cell, accepted_key}
use Rattle.sharding.specs.declared.Sharding.{Sharding}
use Rattle.shard.specs.File.{index_part, data_part}
use Rattle.shard.proofs.Leads.{volume-leads}
use Rattle.shard.proofs.Chunks.{same-listing-is-same-chunks}
use Rattle.shard.proofs.Whole.{check_decided, check-passes-sound, sound-passes-check}
use Rattle.unlisted.specs.ranges.Covered.{file_unlisted}
use Rattle.unlisted.proofs.ranges.Meaning.{none-unlisted}
use Rattle.unlisted.proofs.Counted.{unlisted_decided}
use Rattle.lookup.proofs.Refused.{lookup_decided}
use Rattle.lookup.proofs.Retrieval.{listed-chunk-is_handed_out, twelve_means_not-listed}
use Rattle.lookup.proofs.Depends.{lookup-depends-only-on_these}
use Rattle.lookup.proofs.fragments.Refused.{fragment_decided}
use Rattle.lookup.proofs.fragments.Retrieval.{listed-fragment-is_handed_out, lead-length, fragments_are_the_lead}
use Rattle.lookup.proofs.fragments.Lacking.{eighteen_means_no-fragment, others_are_the_lookups}
use Rattle.lookup.proofs.fragments.Depends.{fragment-depends-only-on_these}
use Rattle.lookup.proofs.listings.Refused.{count_decided, listing_decided, listing-kept, listing-written}
use Rattle.lookup.proofs.listings.Listed.{listing_says_what_is-listed}
use Rattle.settled_form.proofs.Demand3.{file-form-length, demand_3_one-form, demand_3_same, demand_3_form-passes, demand_3_form-lists}
use Rattle.refusal.specs.Result.{count_result}
use Rattle.refusal.specs.declared.CountAnswer.TheVariants.{Count}
use Rattle.settle.proofs.Refused.{length_decided, settle_decided, settle-kept}
use Rattle.settle.proofs.Demand3.{demand_3_form-settles, demand_3_length, demand_3_length-refused, demand_3_refused, demand_3_written}
use Rattle.split_shard.proofs.form.Laws.{listing-kept-pair, settle-kept-pair}
use Rattle.intake.proofs.Refused.{open_decided, open_keeps, announce_decided, announce_keeps, part_decided, part-keeps, close_decided, close-keeps}
use Rattle.card.proofs.Meaning.{one_meaning_one-card}
use Rattle.info.proofs.document.Meaning.{meaning}
use Rattle.mesh_manifest.proofs.node_numbers.Listed.{length-nodes}
use Rattle.mesh_manifest.proofs.level.Each.{node-numbers}
use Rattle.theorems.specs.Demands.{Demand1, Demand2, Ready, Demand3}
use Rattle.theorems.proofs.Entry.{entry_decides}
use Rattle.theorems.proofs.Told.{cell-told, count-told}
use Rattle.theorems.proofs.Writers.{listing-long, counted, level-written, places-written}
use Rattle.theorems.proofs.Published.{published}
use Rattle.theorems.proofs.Measures.{measure_decided, check_decided_pair, measure_decided_pair, add_decided, add-pair_decided, join_decided}
use Rattle.theorems.proofs.FixedOrder.{fixed-order}
use Rattle.theorems.proofs.Minishards.{minishards}
use Rattle.theorems.proofs.PairCalls.{lookup_decided_pair, fragment_decided_pair, count_decided_pair, listing_decided_pair, unlisted_decided_pair, length_decided_pair, settle_decided_pair, range_decided}
use Rattle.theorems.proofs.Calls.{grid_decided, key_decided, keys_decided, keys_kept_lem, cover_decided, cover-kept, cell_decided, bounds_decided, chunk-name_decided, chunk-name-kept, place_decided, places_decided, places-kept, file-name_decided, file-name-kept, card-read_decided, info_decided, card_write_decided, card-kept, manifest_decided, header_decided, field_decided, node_decided, nodes_decided, nodes-kept, corners_decided, label_decided, unpack_decided, unpacked_length_decided, unpack-kept, label_decided_in_c, unpack_decided_in_c, unpacked_length_decided_in_c, unpack-kept_in_c}

pub demand_1 : Demand1
demand_1 =
    record {
      grid = grid_decided;
      key = key_decided;
      keys = keys_decided;
      cover = cover_decided;
      cell = cell_decided;
      bounds = bounds_decided;
      place = place_decided;
      places = places_decided;
      chunk_name = chunk-name_decided;
      file_name = λ kind spec. file-name_decided spec kind;
      lookup = lookup_decided;
      fragment = fragment_decided;
      count = count_decided;
      listing = listing_decided;
      check = check_decided;
      form_length = length_decided;
      settle = settle_decided;
      unlisted = unlisted_decided;
      check_of_pair = check_decided_pair;
      lookup_of_pair = lookup_decided_pair;
      fragment_of_pair = fragment_decided_pair;
      count_of_pair = count_decided_pair;
      listing_of_pair = listing_decided_pair;
      unlisted_of_pair = unlisted_decided_pair;
      form_length_of_pair = length_decided_pair;
      settle_of_pair = settle_decided_pair;
      measure = measure_decided;
      measure_of_pair = measure_decided_pair;
      sheet_add = add_decided;
      sheet_add_pair = add-pair_decided;
      sheet_join = join_decided;
      range = range_decided;
      card_read = card-read_decided;
      card_written = card_write_decided;
      info_read = info_decided;
      intake_open = open_decided;
      intake_announce = announce_decided;
      intake_part = part_decided;
      intake_close = close_decided;
      manifest = manifest_decided;
      header = header_decided;
      field = field_decided;
      node = node_decided;
      nodes = nodes_decided;
      corners = corners_decided;
      label = label_decided;
      unpack = unpack_decided;
      unpacked_length = unpacked_length_decided;
      label_in_c = label_decided_in_c;
      unpack_in_c = unpack_decided_in_c;
      unpacked_length_in_c = unpacked_length_decided_in_c;
      fixed = fixed-order;
      minishards = minishards;
      keys_kept = keys_kept_lem;
      cover_kept = cover-kept;
      places_kept = places-kept;
      chunk_name_kept = chunk-name-kept;
      file_name_kept = λ kind spec. file-name-kept spec kind;
      listing_kept = listing-kept;
      settle_kept = settle-kept;
      listing_of_pair_kept = listing-kept-pair;
      settle_of_pair_kept = settle-kept-pair;
      card_kept = card-kept;
      intake_open_kept = open_keeps;
      intake_announce_kept = announce_keeps;
      intake_part_kept = part-keeps;
      intake_close_kept = close-keeps;
      nodes_kept = nodes-kept;
      unpack_kept = unpack-kept;
      unpack_in_c_kept = unpack-kept_in_c;
    }

pub demand_2 : Demand2
demand_2 =
    record {
      published = published;
      keyed = λ v c u h l. let w = cell_gives_key_gives_cell v c u h l in let e = (keyed v c w.key w.given).is in (ap key_result (rw e at w.given), ap cell_result (rw e at w.back));
      celled = λ v k c e. ap key_result (accepted_key v k c (cell-told _ e));
      found = λ spec shard file id i bytes a. listed-chunk-is_handed_out spec shard file id a;
      found_at = λ spec shard file id i bytes a s l. let h = listed-chunk-is_handed_out spec shard file id a s l in rw (h.found, h.placed, h.counted);
      absent = twelve_means_not-listed;
      depends = λ spec shard id a b. lookup-depends-only-on_these spec shard id a b;
      depends_entry = entry_decides;
      fragment = λ spec shard file item level node mesh asked sound lists has. listed-fragment-is_handed_out spec shard file item level node asked mesh sound lists has;
      fragments = λ spec shard file item mesh sound lists. (fragments_are_the_lead mesh sound lists, lead-length mesh sound lists);
      no_fragment = eighteen_means_no-fragment;
      refused_alike = others_are_the_lookups;
      depends_fragment = fragment-depends-only-on_these;
      listed = listing_says_what_is-listed;
      listing_long = listing-long;
      listing_written = λ spec shard file m out n e. listing-written spec shard file m out n (count-told _ e);
      counted = counted;
      levelled = node-numbers;
      level_long = length-nodes;
      level_written = level-written;
      places_written = places-written;
      card = one_meaning_one-card;
      info = meaning;
    }

-- as the laws of settling take it
ready : (spec : Sharding) (a : List ℕ) {dropping : Bool} → Ready spec a dropping → (dropping ≡ true) ⊎ (file_unlisted spec a ≡ 0)
ready spec a (inl e) = inl e
ready spec a (inr h) = inr ((none-unlisted spec (index_part spec a) (data_part spec a)).1 h)

pub demand_3 : Demand3
demand_3 =
    record {
      sound = λ spec shard a. (check-passes-sound spec shard a, sound-passes-check spec shard a);
      same = λ spec shard a b p q. demand_3_same (check-passes-sound spec shard a p) (check-passes-sound spec shard b q);
      pairs = λ spec a b v. same-listing-is-same-chunks spec (volume-leads spec v) a b;
      one = λ spec shard a b. demand_3_one-form;
      passes = λ spec shard a. demand_3_form-passes;
      lists = λ spec shard a. demand_3_form-lists;
      again = λ spec shard a dropping out f s h. let w = demand_3_form-settles f s dropping out h in (ap count_result w.0, w.1);
      refused = λ spec shard a dropping out f r. demand_3_refused f (ready spec a r) out;
      written = λ spec shard a dropping out f r n. let w = demand_3_written f (ready spec a r) out (by_contra _ _ (λ l. n (inl l))) (by_contra _ _ (λ l. n (inr l))) in (ap count_result w.0, w.1);
      long = file-form-length;
      measured = λ spec shard a dropping f r l. ap count_result (demand_3_length f (ready spec a r) l ∙ ap Count (file-form-length spec a));
      unmeasured = λ spec shard a dropping f r l. ap count_result (demand_3_length-refused f (ready spec a r) (omega (arith, file-form-length spec a)));
    }
