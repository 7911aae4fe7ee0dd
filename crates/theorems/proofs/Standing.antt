-- The settled form of a shard that passed before order 2, without a sort: its ids rose.
use Prim.Native.Nat.{ℕ, zero, suc, ◌+◌, ◌≤◌, ◌<◌}
use mathlib.Core.Path.{◌≡◌, refl, ap, ◌∙◌}
use mathlib.Core.Logic.{⊎_elim}
use mathlib.Core.List.Memᴰ
use mathlib.Core.List.{List}
use native.Mathlib.Omega.{arith}
use Rattle.sharding.specs.declared.Sharding.{Sharding}
use Rattle.sharding.specs.Specification.{minishard_count_of}
use Rattle.shard.specs.index.Index.{entry_start_of, entry_end_of, entry_count}
use Rattle.shard.specs.File.{index_part, data_part}
use Rattle.shard.specs.Before.{PassedBefore}
use Rattle.shard.proofs.Earlier.{EarlierFrom, earlier-each}
use Rattle.settled_form.specs.Sorted.{Member, Rising}
use Rattle.settled_form.specs.Content.{file_form}
use Rattle.settled_form.specs.Before.{Pair, settled_before, pairs_from, id_of_pair, pairs_of, pair_before, file_form_before}
use Rattle.settled_form.proofs.Sorting.{sort_rising}
use Rattle.settled_form.proofs.Earlier.{earlier-form}
use Rattle.theorems.specs.Orders.{listed_before, form_before}

-- where each id is above the one before, the pairs rise
module _ (f : ℕ → Pair) (n : ℕ) (up : (i : ℕ) → suc i < n → (f i).id < (f (suc i)).id) where
  all_above : (i k a : ℕ) → i + k ≤ n → (0 < k → a < (f i).id) → (y : Pair) → Member y (pairs_from f i k) → a < y.id
  unfolding pairs_from
  all_above i zero a l h y m = absurd (Memᴰ.not-nil m)
  all_above i (suc k) a l h y m =
      let first = h (omega arith) in
      let later = all_above (suc i) k a (omega arith) (λ z. let u = up i (omega arith) in omega arith) y in
      ⊎_elim (λ e. rw e first) later (Memᴰ.cases_cons m)

  rising : (i k : ℕ) → i + k ≤ n → Rising id_of_pair (pairs_from f i k)
  unfolding pairs_from Rising
  rising i zero l = tt
  rising i (suc k) l = (all_above (suc i) k (f i).id (omega arith) (λ z. up i (omega arith)), rising (suc i) k (omega arith))

standing : (d : List ℕ) (s e i : ℕ) → EarlierFrom d s e → suc i < entry_count s e → (pair_before d s (entry_count s e) i).id < (pair_before d s (entry_count s e) (suc i)).id
unfolding pair_before
standing d s e i g l = let u = g.rising i l in let p = g.ids i (omega arith) in let q = g.ids (suc i) l in omega arith

same-listed : (index d : List ℕ) (m k : ℕ) → ((j : ℕ) → j < m + k → EarlierFrom d (entry_start_of index j) (entry_end_of index j)) → pairs_of pair_before index d m k ≡ listed_before index d m k
unfolding pairs_of listed_before
same-listed index d m zero g = refl
same-listed index d m (suc k) g =
    let s = entry_start_of index m in
    let e = entry_end_of index m in
    let n = entry_count s e in
    rw (
      sort_rising id_of_pair (pairs_from (pair_before d s n) 0 n) (rising (pair_before d s n) n (λ i. standing d s e i (g m (omega arith))) 0 n (omega arith)),
      same-listed index d (suc m) k (λ j l. g j (omega arith)),
    )

pub form-before : (spec : Sharding) (shard : ℕ) (file : List ℕ) → PassedBefore spec shard file → file_form spec file ≡ form_before spec file
unfolding file_form_before form_before
form-before spec shard file z =
    earlier-form spec shard file z
    ∙ ap settled_before (same-listed (index_part spec file) (data_part spec file) 0 (minishard_count_of spec) (λ j l. earlier-each spec shard file z j (omega arith)))
