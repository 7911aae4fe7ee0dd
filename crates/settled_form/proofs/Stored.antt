-- The items of a minishard as they stand: each is that of an entry, distinct ids make distinct items, and where the stored ids rise, sorting changes nothing.
use Prim.Native.Nat.{ℕ, zero, suc, ◌+◌, ◌^◌, ◌≤◌, ◌<◌}
use mathlib.Core.Path.{◌≡◌, refl, sym, subst, ap, ◌∙◌}
use mathlib.Core.Logic.{⊎_elim}
use mathlib.Core.List.Memᴰ
use mathlib.Core.List.{List}
use native.Mathlib.Omega.{arith}
use native.Mathlib.Nat.{not-suc-le-zero, eq-or-lt_of_le}
use Rattle.sharding.specs.declared.Sharding.{Sharding}
use Rattle.shard.specs.index.Index.{id_steps, id_at}
use Rattle.shard.specs.Items.{Item, item_of, item_at}
use Rattle.settled_form.specs.Sorted.{Member, Distinct, Rising}
use Rattle.settled_form.specs.Content.{items_from, items_at, id_of, by_id}
use Rattle.settled_form.proofs.ReadBack.{by_id-rising}

-- ---- the items of a minishard

module _ (spec : Sharding) (d : List ℕ) (s n : ℕ) where
  member-from : (i k j : ℕ) → j < k → Member (item_at spec d s n (i + j)) (items_from spec d s n i k)
  unfolding items_from
  member-from i zero j l = absurd (not-suc-le-zero l)
  member-from i (suc k) zero l =
      let e : item_at spec d s n (i + 0) ≡ item_at spec d s n i = ap (item_at spec d s n) (omega arith) in
      Memᴰ.head e
  member-from i (suc k) (suc j) l =
      let e : item_at spec d s n (i + suc j) ≡ item_at spec d s n (suc i + j) = ap (item_at spec d s n) (omega arith) in
      Memᴰ.tail (Memᴰ.cast e (member-from (suc i) k j (omega arith)))

  pub item-member : (i : ℕ) → i < n → Member (item_at spec d s n i) (items_at spec d s n)
  unfolding items_at
  item-member i l =
      let e : item_at spec d s n i ≡ item_at spec d s n (0 + i) = ap (item_at spec d s n) (omega arith) in
      Memᴰ.cast e (member-from 0 n i l)

-- an entry that is the item x, from entry i on and before entry e
pub record Stands (spec : Sharding) (d : List ℕ) (s n i e : ℕ) (x : Item) : Type 0 where
  pub entry : ℕ
  pub from : i ≤ entry
  pub before : entry < e
  pub is : item_at spec d s n entry ≡ x

module _ (spec : Sharding) (d : List ℕ) (s n : ℕ) where
  from_member : {x : Item} (i k e : ℕ) → i + k ≡ e → Member x (items_from spec d s n i k) → Stands spec d s n i e x
  unfolding items_from
  from_member i zero e q h = absurd (Memᴰ.not-nil h)
  from_member {x = x} i (suc k) e q h =
      ⊎_elim
      (λ p. record { entry = i; from = omega arith; before = omega arith; is = sym p })
      (λ m.
      let on : suc i + k ≡ e = omega (arith, q) in
      let r : Stands spec d s n (suc i) e x = from_member {x = x} (suc i) k e on m in
      record { entry = r.entry; from = omega (arith, r.from); before = omega (arith, r.before); is = r.is })
      (Memᴰ.cases_cons h)

  pub member-item : {x : Item} → Member x (items_at spec d s n) → Stands spec d s n 0 n x
  unfolding items_at
  member-item h = from_member 0 n n (omega arith) h

-- what each entry has, each item has
pub each_item : (spec : Sharding) (d : List ℕ) (s n : ℕ) (P : Item → Type 0) → ((i : ℕ) → i < n → P (item_at spec d s n i)) → (x : Item) → Member x (items_at spec d s n) → P x
each_item spec d s n P h x m =
    let r = member-item spec d s n m in
    subst P r.is (h r.entry r.before)

-- an id is a u64
pub id-fits : (steps : ℕ → ℕ) (i : ℕ) → id_at steps i < 2 ^ 64
unfolding id_at
id-fits steps i = omega arith

-- ---- stored in any order

distinct_from : (spec : Sharding) (d : List ℕ) (s n : ℕ) → ((i j : ℕ) → i < j → j < n → id_at (id_steps d s) i ≡ id_at (id_steps d s) j → ⊥)
    → (i k : ℕ) → i + k ≤ n → Distinct id_of (items_from spec d s n i k)
unfolding Distinct items_from item_at item_of
distinct_from spec d s n apart i zero l = tt
distinct_from spec d s n apart i (suc k) l = (later, distinct_from spec d s n apart (suc i) k (omega arith))
  where
    later : (y : Item) → Member y (items_from spec d s n (suc i) k) → (item_at spec d s n i).id ≡ y.id → ⊥
    later y m q =
        let r = from_member spec d s n (suc i) k (suc i + k) refl m in
        apart i r.entry r.from (omega (arith, r.before)) (q ∙ sym (ap (λ (x : Item). x.id) r.is))

pub distinct_items : (spec : Sharding) (d : List ℕ) (s n : ℕ) → ((i j : ℕ) → i < j → j < n → id_at (id_steps d s) i ≡ id_at (id_steps d s) j → ⊥) → Distinct id_of (items_at spec d s n)
unfolding items_at
distinct_items spec d s n apart = distinct_from spec d s n apart 0 n (omega arith)

-- ---- stored in rising order

module _ (spec : Sharding) (d : List ℕ) (s n : ℕ) (up : (i : ℕ) → suc i < n → id_at (id_steps d s) i < id_at (id_steps d s) (suc i)) where
  id_below : (i j : ℕ) → i < j → j < n → id_at (id_steps d s) i < id_at (id_steps d s) j
  id_below i zero l h = absurd (not-suc-le-zero l)
  id_below i (suc j) l h =
      let u = up j h in
      let t = id_below i j in
      ⊎_elim (λ e. rw e u) (λ k. omega (arith, t k (omega arith))) (eq-or-lt_of_le (below l))
    where
      below : i < suc j → i ≤ j
      below q = omega arith

  rising-from : (i k : ℕ) → i + k ≤ n → Rising id_of (items_from spec d s n i k)
  unfolding Rising items_from item_at item_of
  rising-from i zero l = tt
  rising-from i (suc k) l = (later, rising-from (suc i) k (omega arith))
    where
      later : (y : Item) → Member y (items_from spec d s n (suc i) k) → (item_at spec d s n i).id < y.id
      later y m =
          let r = from_member spec d s n (suc i) k (suc i + k) refl m in
          let e = ap (λ (x : Item). x.id) r.is in
          omega (arith, id_below i r.entry r.from (omega (arith, r.before)))

  pub rising_items : Rising id_of (items_at spec d s n)
  unfolding items_at
  rising_items = rising-from 0 n (omega arith)

  -- sorting changes nothing
  pub by_id-stored : by_id (items_at spec d s n) ≡ items_at spec d s n
  by_id-stored = by_id-rising (items_at spec d s n) rising_items
