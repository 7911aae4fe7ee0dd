-- What each way out of a lookup over two parts shows.
use Rattle.std.proofs.Common.{◌≡◌, ℕ, List, [], ◌∷◌, length, sym, refl, ◌∙◌, subst, not-suc-le-zero}
use native.Mathlib.Nat.{sub_self}
use Rattle.refusal.specs.Checks.{unless}
use Rattle.refusal.proofs.Positions.{at_both, at_plain}
use Rattle.sharding.specs.declared.Sharding.{Sharding}
use Rattle.sharding.specs.placement.Place.{minishard_of}
use Rattle.shard.specs.declared.index.Fault.{Fault}
use Rattle.shard.specs.index.Index.{entry_start_of, entry_end_of, entry_count}
use Rattle.shard.specs.Faults.{fault_of}
use Rattle.shard.specs.Checks.{minishard_checks}
use Rattle.shard.proofs.Numbers.{unless-some, unless-none, minishard_in, minishard-answer}
use Rattle.lookup.specs.declared.id_search.LookupAnswer.{LookupAnswer}
use Rattle.lookup.specs.declared.id_search.LookupAnswer.TheVariants.{Refused, Faulty}
use Rattle.lookup.specs.id_search.Search.{not_listed, chunk_of, found_in}
use Rattle.lookup.specs.chosen_minishard.Chosen.{chosen_checks, chosen_chunk, lookup_in}
use Rattle.lookup.proofs.id_search.Seek.{found_none}

-- the minishard's fault refuses, with its number and position; without one it is searched
pub in_parts : (spec : Sharding) (shard : ℕ) (x d : List ℕ) (id : ℕ) → lookup_in spec shard x d id
    ≡ unless (λ k. Faulty k (fault_of spec shard x d (minishard_of spec id)).position) (fault_of spec shard x d (minishard_of spec id)).number
    (found_in (length x) d (entry_start_of x (minishard_of spec id)) (entry_count (entry_start_of x (minishard_of spec id)) (entry_end_of x (minishard_of spec id))) id)
unfolding lookup_in chosen_checks chosen_chunk found_in
in_parts spec shard x d id =
    let m = minishard_of spec id in
    let s = entry_start_of x m in
    let last = not_listed d s (entry_count s (entry_end_of x m)) id in
    at_both Refused Faulty (minishard_checks spec shard x d m) (last ∷ []) _ (minishard_in spec shard x d m)
    ∙ minishard-answer spec shard x d Refused Faulty m _
    ∙ rw (at_plain Refused Faulty (last ∷ []) (chunk_of (length x) d s (entry_count s (entry_end_of x m)) id) (refl, tt))

module _ (spec : Sharding) (shard id : ℕ) (x d : List ℕ) {m : ℕ} {r : Fault} (o : m ≡ minishard_of spec id) (p : r ≡ fault_of spec shard x d m) where
  pub in_fault : (r.number ≡ 0 → ⊥) → Faulty r.number r.position ≡ lookup_in spec shard x d id
  in_fault n = rw (in_parts spec shard x d id, ← o, ← p) (unless-some (λ k. Faulty k r.position) _ _ n)

  pub in_found : {a : LookupAnswer} {s e : ℕ} → s ≡ entry_start_of x m → e ≡ entry_end_of x m → r.number ≡ 0 → a ≡ found_in (length x) d s (entry_count s e) id → a ≡ lookup_in spec shard x d id
  in_found u v z f = rw (in_parts spec shard x d id, ← o, ← p, ← u, ← v) (f ∙ unless-none (λ k. Faulty k r.position) _ _ z)

  pub in_empty : {s e : ℕ} → s ≡ entry_start_of x m → e ≡ entry_end_of x m → r.number ≡ 0 → s ≡ e → Refused 12 ≡ lookup_in spec shard x d id
  in_empty {s} {e} u v z q =
      let none = sym (found_none (length x) d s 0 id (λ i l k. absurd (not-suc-le-zero l))) in
      in_found u v z (subst (λ (k : ℕ). Refused 12 ≡ found_in (length x) d s (entry_count s k) id) q (rw (sub_self s) none))
