-- What a call that writes has written, where it is not refused.
use Prim.Native.Nat.{ℕ, zero, suc, ◌*◌}
use mathlib.Core.Path.{◌≡◌, sym, ◌∙◌}
use mathlib.Core.List.{List}
use mathlib.Core.Option.{Option, none, some}
use native.Mathlib.Omega.{arith}
use lib.ListN.{length}
use Rattle.refusal.specs.Checks.{first_number, first_position, unless, refusal}
use Rattle.refusal.specs.Result.{success, written_result, count_result}
use Rattle.refusal.specs.Buffer.{over}
use Rattle.std.specs.Prelude.{Ok}
use Rattle.refusal.specs.Answers.{refuse}
use Rattle.refusal.specs.declared.CountAnswer.TheVariants as N
use Rattle.sharding.specs.declared.Sharding.{Sharding}
use Rattle.sharding.specs.batch.Batch.{shards_of, minishards_of, places_checks, places_answer, shards_left, minishards_left}
use Rattle.shard.specs.index.Index.{entry_start_of}
use Rattle.shard.specs.File.{index_part, data_part}
use Rattle.lookup.specs.entries.Entries.{listing_in}
use Rattle.lookup.specs.listings.Listing.{listing_of, listed_count, count_checks, count_answer}
use Rattle.lookup.proofs.entries.Entries.{length-entries}
use Rattle.mesh_manifest.specs.node_numbers.Numbers.{nodes_of}
use Rattle.mesh_manifest.specs.level.Level.{nodes_answer, nodes_left}
use Rattle.mesh_manifest.proofs.sound.Judged.{unrefused}
use Rattle.mesh_manifest.proofs.node_numbers.Listed.{length-nodes}
use Rattle.mesh_manifest.proofs.level.Each.{nodes-count, nodes-written}
use Rattle.theorems.proofs.Told.{written-told, count-told}

module _ (spec : Sharding) where
  pub listing-long : (file : List ℕ) (m : ℕ) → length (listing_of spec file m) ≡ 3 * listed_count spec file m
  unfolding listing_in
  listing-long file m =
      let n = listed_count spec file m in
      length-entries (length (index_part spec file)) (data_part spec file) (entry_start_of (index_part spec file) m) n 0 n

  pub counted : (shard : ℕ) (file : List ℕ) (m n : ℕ) → count_result (count_answer spec shard file m) ≡ success n → n ≡ listed_count spec file m
  counted shard file m n e = go (first_number (count_checks spec shard file m)) (first_position (count_checks spec shard file m)) (unfold count_answer in count-told _ e)
    where
      go : (k : ℕ) (p : Option ℕ) → unless (λ j. refusal N.Refused N.Faulty j p) k (N.Count (listed_count spec file m)) ≡ N.Count n → n ≡ listed_count spec file m
      go zero p e = unfold unless in cc
      go (suc k) none e = unfold unless in (let z : ◌≡◌ {A = ℕ} 0 1 = cc in absurd (omega arith))
      go (suc k) (some p) e = unfold unless in (let z : ◌≡◌ {A = ℕ} 0 1 = cc in absurd (omega arith))

  pub places-written : (ids shards minishards : List ℕ) (n : ℕ) → written_result (places_answer spec ids shards minishards) ≡ success n
      → (n ≡ length ids) × (shards_left spec ids shards minishards ≡ over (shards_of spec ids) shards) × (minishards_left spec ids shards minishards ≡ over (minishards_of spec ids) minishards)
  unfolding places_answer shards_left minishards_left unless
  places-written ids shards minishards n e =
      let z = unrefused refuse (places_checks spec ids shards minishards) (Ok (length ids)) (λ k p. cc) (written-told _ e) in
      (cc z.1, rw z.0, rw z.0)

pub level-written : (s : List ℕ) (l : ℕ) (out : List ℕ) (n : ℕ) → written_result (nodes_answer s l out) ≡ success n → (n ≡ length (nodes_of s l)) × (nodes_left s l out ≡ over (nodes_of s l) out)
level-written s l out n e = let a = written-told _ e in (nodes-count s l out n a ∙ sym (length-nodes s l), nodes-written s l out n a)
