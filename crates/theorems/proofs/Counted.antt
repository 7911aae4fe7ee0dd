-- Chunks and their bytes, counted over the minishards, are those of what a sound shard lists.
use Prim.Native.Nat.{ℕ, zero, suc, ◌+◌, ◌≤◌, ◌<◌}
use mathlib.Core.Path.{◌≡◌, refl, sym, ap, ◌∙◌}
use mathlib.Core.Bool.{Bool, true, false}
use mathlib.Core.Logic.{⊎_elim}
use mathlib.Core.List.Memᴰ
use mathlib.Core.List.{List, [], ◌∷◌, ◌++◌}
use native.Mathlib.Nat.{eq-or-lt_of_le}
use native.Mathlib.Omega.{arith}
use lib.ListN.{length, drop, length-append, length-drop}
use lib.Seq.{length-take-le}
use Rattle.refusal.specs.Choice.{pick}
use Rattle.endian.specs.Range.{sum_to}
use Rattle.sharding.specs.declared.Sharding.{Sharding}
use Rattle.sharding.specs.Specification.{minishard_count_of}
use Rattle.sharding.specs.placement.Place.{minishard_of}
use Rattle.shard.specs.index.Index.{entry_start_of, start_steps, sizes, start_at, end_at}
use Rattle.shard.specs.File.{index_part, data_part}
use Rattle.shard.specs.Items.{Item, item_of, item_at}
use Rattle.shard.specs.Lists.{ListsItem}
use Rattle.shard.specs.Sound.{SoundMinishard, SoundShard}
use Rattle.unlisted.specs.ranges.Ranges.{count_in}
use Rattle.settled_form.specs.Sorted.{not_above, insert_by, sort_by, Member, Distinct}
use Rattle.settled_form.specs.Content.{items_from, items_at, items_of, id_of}
use Rattle.settled_form.proofs.Sorting.{length_sort, sort_same}
use Rattle.settled_form.proofs.Measures.{length_items}
use Rattle.settled_form.proofs.Stored.{item-member, member-item}
use Rattle.settled_form.proofs.SoundContent.{sound-listed}
use Rattle.holdings.specs.chunk_sums.Totals.{sizes_in}
use Rattle.holdings.specs.measures.Measures.{chunk_count, chunk_bytes, measure_of, file_measure}
use Rattle.theorems.specs.Holdings.{ListsThese, body_bytes}

-- ---- sums from the left

sum_from : (ℕ → ℕ) → ℕ → ℕ → ℕ
sum_from f i zero = 0
sum_from f i (suc k) = f i + sum_from f (suc i) k

sum-from : (f : ℕ → ℕ) (i k : ℕ) → sum_to f (i + k) ≡ sum_to f i + sum_from f i k
unfolding sum_from
sum-from f i zero = let g : sum_to f (i + 0) ≡ sum_to f i = ap (sum_to f) (omega arith) in omega arith
sum-from f i (suc k) =
    let h = sum-from f (suc i) k in
    let e : sum_to f (suc i) ≡ sum_to f i + f i = unfold sum_to in refl in
    let g : sum_to f (i + suc k) ≡ sum_to f (suc i + k) = ap (sum_to f) (omega arith) in
    omega arith

sum-all : (f : ℕ → ℕ) (k : ℕ) → sum_to f k ≡ sum_from f 0 k
sum-all f k = let h = sum-from f 0 k in let e : sum_to f 0 ≡ 0 = unfold sum_to in refl in let g : sum_to f k ≡ sum_to f (0 + k) = ap (sum_to f) (omega arith) in omega arith

-- ---- bytes of lists

bytes-both : (xs ys : List Item) → body_bytes (xs ++ ys) ≡ body_bytes xs + body_bytes ys
unfolding body_bytes
bytes-both [] ys = omega arith
bytes-both (x ∷ xs) ys = let h = bytes-both xs ys in omega arith

bytes_insert : (x : Item) (xs : List Item) → body_bytes (insert_by id_of x xs) ≡ body_bytes (x ∷ xs)
unfolding insert_by body_bytes
bytes_insert x [] = refl
bytes_insert x (y ∷ ys) = either (not_above id_of x y) (bytes_insert x ys)
  where
    either : (b : Bool) → body_bytes (insert_by id_of x ys) ≡ body_bytes (x ∷ ys) → body_bytes (pick b (x ∷ y ∷ ys) (y ∷ insert_by id_of x ys)) ≡ body_bytes (x ∷ y ∷ ys)
    either true h = refl
    either false h = omega arith

bytes_sort : (xs : List Item) → body_bytes (sort_by id_of xs) ≡ body_bytes xs
unfolding sort_by body_bytes
bytes_sort [] = refl
bytes_sort (x ∷ xs) = let h = bytes_sort xs in bytes_insert x (sort_by id_of xs) ∙ omega arith

distinct-both : (xs ys : List Item) → Distinct id_of xs → Distinct id_of ys → ((x y : Item) → Member x xs → Member y ys → x.id ≡ y.id → ⊥) → Distinct id_of (xs ++ ys)
unfolding Distinct
distinct-both [] ys h g f = g
distinct-both (x ∷ xs) ys h g f = (
  λ y m e. ⊎_elim (λ k. h.0 y k e) (λ k. f x y (Memᴰ.head refl) k e) (Memᴰ.append_cases xs m),
  distinct-both xs ys h.1 g (λ z y m. f z y (Memᴰ.tail m)),
)

-- ---- the items of a minishard

chunk-length : (spec : Sharding) (d : List ℕ) (s n i : ℕ) → end_at (start_steps d s n) (sizes d s n) i ≤ length d → length (item_at spec d s n i).body ≡ sizes d s n i
unfolding item_at item_of
chunk-length spec d s n i l =
    let a = start_at (start_steps d s n) (sizes d s n) i in
    length-take-le (sizes d s n i) (drop a d) (omega (arith, length-drop a d))

items_bytes : (spec : Sharding) (d : List ℕ) (s n i k : ℕ) → ((j : ℕ) → j < i + k → end_at (start_steps d s n) (sizes d s n) j ≤ length d) → body_bytes (items_from spec d s n i k) ≡ sum_from (sizes d s n) i k
unfolding items_from body_bytes sum_from
items_bytes spec d s n i zero g = refl
items_bytes spec d s n i (suc k) g =
    let h = items_bytes spec d s n (suc i) k (λ j l. g j (omega arith)) in
    let c = chunk-length spec d s n i (g i (omega arith)) in
    omega arith

-- ---- the items of k minishards from minishard m on

module _ (spec : Sharding) (shard : ℕ) (index d : List ℕ) where
  all_from : ℕ → ℕ → List Item
  all_from m zero = []
  all_from m (suc k) = items_of spec index d m ++ all_from (suc m) k

  all-count : (m k : ℕ) → length (all_from m k) ≡ sum_from (count_in index) m k
  unfolding all_from sum_from
  all-count m zero = refl
  all-count m (suc k) =
      let h = all-count (suc m) k in
      let a = length-append (items_of spec index d m) (all_from (suc m) k) in
      let b = length_items spec d (entry_start_of index m) (count_in index m) in
      omega arith

  Sounds : ℕ → ℕ → Type 0
  Sounds m k = (j : ℕ) → j < m + k → SoundMinishard spec shard index d j

  all-bytes : (m k : ℕ) → Sounds m k → body_bytes (all_from m k) ≡ sum_from (sizes_in index d) m k
  unfolding all_from sum_from Sounds
  all-bytes m zero g = unfold body_bytes in refl
  all-bytes m (suc k) g =
      let s = entry_start_of index m in
      let n = count_in index m in
      let h = all-bytes (suc m) k (λ j l. g j (omega arith)) in
      let a = bytes-both (items_of spec index d m) (all_from (suc m) k) in
      let b : body_bytes (items_of spec index d m) ≡ sizes_in index d m = unfold items_at sizes_in in (items_bytes spec d s n 0 n (λ j l. (g m (omega arith)).inside j (omega arith)) ∙ sym (sum-all (sizes d s n) n)) in
      omega arith

  -- each is one that a minishard lists
  record Among (m k : ℕ) (x : Item) : Type 0 where
    at : ℕ
    from : m ≤ at
    below : at < m + k
    lists : ListsItem spec index d at x

  among : (m k : ℕ) (x : Item) → Member x (all_from m k) → Among m k x
  unfolding all_from
  among m zero x h = absurd (Memᴰ.not-nil h)
  among m (suc k) x h =
      let ih = among (suc m) k x in
      ⊎_elim
      (λ i. let r = member-item spec d (entry_start_of index m) (count_in index m) i in record { at = m; from = omega arith; below = omega arith; lists = record { entry = r.entry; among = r.before; listed = r.is } })
      (λ i. let r = ih i in record { at = r.at; from = omega (arith, r.from); below = omega (arith, r.below); lists = r.lists })
      (Memᴰ.append_cases (items_of spec index d m) h)

  lists-member : (j : ℕ) (x : Item) → ListsItem spec index d j x → Member x (items_of spec index d j)
  lists-member j x i = Memᴰ.cast (sym i.listed) (item-member spec d (entry_start_of index j) (count_in index j) i.entry i.among)

  among-all : (m k j : ℕ) (x : Item) → m ≤ j → j < m + k → ListsItem spec index d j x → Member x (all_from m k)
  unfolding all_from
  among-all m zero j x l h i = absurd (omega arith)
  among-all m (suc k) j x l h i =
      let ih = among-all (suc m) k j x in
      ⊎_elim
      (λ (e : m ≡ j). let here : Member x (items_of spec index d m) = rw e (lists-member j x i) in Memᴰ.append_left (all_from (suc m) k) here)
      (λ o. Memᴰ.append_right (items_of spec index d m) (ih o (omega arith) i))
      (eq-or-lt_of_le l)

  all_once : (m k : ℕ) → Sounds m k → Distinct id_of (all_from m k)
  unfolding all_from Sounds
  all_once m zero g = unfold Distinct in tt
  all_once m (suc k) g =
      let here = sound-listed (g m (omega arith)) in
      distinct-both (items_of spec index d m) (all_from (suc m) k) here.distinct (all_once (suc m) k (λ j l. g j (omega arith)))
      (λ x y a b e.
      let r = among (suc m) k y b in
      let p = here.here x a in
      let q = (sound-listed (g r.at (omega (arith, r.below)))).here y (lists-member r.at y r.lists) in
      let z : m ≡ r.at = sym p ∙ ap (minishard_of spec) e ∙ q in
      omega (arith, r.from))

-- ---- a sound shard

module _ (spec : Sharding) (shard : ℕ) (a : List ℕ) (sound : SoundShard spec shard a) where
  abbrev items : List Item
  items = all_from spec shard (index_part spec a) (data_part spec a) 0 (minishard_count_of spec)

  sounds : Sounds spec shard (index_part spec a) (data_part spec a) 0 (minishard_count_of spec)
  unfolding Sounds
  sounds j l = sound.each j (omega arith)

  these : ListsThese spec a items
  these = record {
    each = λ x. (
      λ h. let r = among spec shard (index_part spec a) (data_part spec a) 0 (minishard_count_of spec) x h in record { minishard = r.at; below = omega (arith, r.below); lists = r.lists },
      λ g. among-all spec shard (index_part spec a) (data_part spec a) 0 (minishard_count_of spec) g.minishard x (omega arith) (omega (arith, g.below)) g.lists,
    );
    once = all_once spec shard (index_part spec a) (data_part spec a) 0 (minishard_count_of spec) sounds;
  }

  pub listed_these : (items : List Item) × ListsThese spec a items
  listed_these = (items, these)

  -- any two such lists are one, sorted
  sorted : (xs : List Item) → ListsThese spec a xs → sort_by id_of items ≡ sort_by id_of xs
  sorted xs g = sort_same id_of items xs these.once g.once (λ x. (λ h. (g.each x).1 ((these.each x).0 h), λ h. (these.each x).1 ((g.each x).0 h)))

  pub chunks-listed : (xs : List Item) → ListsThese spec a xs → (file_measure spec a).chunks ≡ length xs
  unfolding measure_of chunk_count
  chunks-listed xs g =
      sum-all (count_in (index_part spec a)) (minishard_count_of spec) ∙ sym (all-count spec shard (index_part spec a) (data_part spec a) 0 (minishard_count_of spec))
      ∙ sym (length_sort id_of items) ∙ ap length (sorted xs g) ∙ length_sort id_of xs

  pub bytes-listed : (xs : List Item) → ListsThese spec a xs → (file_measure spec a).bytes ≡ body_bytes xs
  unfolding measure_of chunk_bytes
  bytes-listed xs g =
      sum-all (sizes_in (index_part spec a) (data_part spec a)) (minishard_count_of spec) ∙ sym (all-bytes spec shard (index_part spec a) (data_part spec a) 0 (minishard_count_of spec) sounds)
      ∙ sym (bytes_sort items) ∙ ap body_bytes (sorted xs g) ∙ bytes_sort xs
