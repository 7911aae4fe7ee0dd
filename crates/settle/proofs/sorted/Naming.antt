-- The entries with absolute numbers are the items that the minishard lists, and sorted they are the sorted items.
use Rattle.std.proofs.Common.{◌≡◌, ℕ, zero, suc, ◌+◌, ◌<◌, ◌≤◌, Bool, true, false, leb, List, [], ◌∷◌, map, length, sym, refl, ap, ◌∙◌, subst, ⊎_elim, arith}
use Rattle.refusal.specs.Choice.{pick}
use Rattle.sharding.specs.declared.Sharding.{Sharding}
use Rattle.shard.specs.index.Index.{id_steps, id_at}
use Rattle.shard.specs.Items.{Item, item_of, item_at, Led}
use Rattle.settled_form.specs.Sorted.{not_above, insert_by, sort_by, Member, Distinct}
use Rattle.settled_form.specs.Content.{items_from, items_at, by_id}
use Rattle.settled_form.proofs.Sorting.{sort_mem, length_sort}
use Rattle.index_sort.specs.declared.three_rows.Entry.{Entry}
use Rattle.index_sort.specs.three_rows.Rows.{id_of, no_entry}
use Rattle.index_sort.specs.phases.Rows.{sort_by_id}
use Rattle.index_sort.proofs.three_rows.Cases.{Either, is, not, either, apart}
use Rattle.index_sort.proofs.phases.Places.{at_mem, apart_distinct}
use Rattle.settle.specs.minishard_length.Writing.{ReadableIndex, LeadsIn, Apart}
use Rattle.settle.specs.item_runs.Named.{item_from, named, InData}
use Rattle.settle.specs.sorted.Reordered.{stored_at, stored_from, stored_entries}
use Rattle.settle.proofs.sorted.Filling.{length-stored, nth-stored}

-- ---- the entries are the items

module _ (spec : Sharding) (d : List ℕ) (s n : ℕ) where
  named-from : (i k : ℕ) → map (item_from spec d) (stored_from d s n i k) ≡ items_from spec d s n i k
  unfolding stored_from items_from stored_at item_at
  named-from i zero = refl
  named-from i (suc k) = rw (named-from (suc i) k)

  named-stored : map (item_from spec d) (stored_entries d s n) ≡ items_at spec d s n
  unfolding stored_entries items_at
  named-stored = named-from 0 n

-- sorting and naming may change places
module _ {A B : Type 0} (key : A → ℕ) (key' : B → ℕ) (f : A → B) (same : (x : A) → key' (f x) ≡ key x) where
  map-pick : (b : Bool) (xs ys : List A) → map f (pick b xs ys) ≡ pick b (map f xs) (map f ys)
  map-pick true xs ys = refl
  map-pick false xs ys = refl

  insert_map : (a : A) (xs : List A) → insert_by key' (f a) (map f xs) ≡ map f (insert_by key a xs)
  unfolding insert_by not_above
  insert_map a [] = refl
  insert_map a (x ∷ xs) =
      rw (same a, same x, insert_map a xs, map-pick (leb (key a) (key x)) (a ∷ x ∷ xs) (x ∷ insert_by key a xs))

  sort_map : (xs : List A) → sort_by key' (map f xs) ≡ map f (sort_by key xs)
  unfolding sort_by
  sort_map [] = refl
  sort_map (x ∷ xs) = rw (sort_map xs) (insert_map x (sort_by key xs))

same_id : (spec : Sharding) (d : List ℕ) (e : Entry) → (item_from spec d e).id ≡ e.id
unfolding item_of
same_id spec d e = refl

-- the sorted items are those of the sorted entries
pub named-sorted : (spec : Sharding) (d : List ℕ) (s n : ℕ) → named spec d (sort_by_id (stored_entries d s n)) ≡ by_id (items_at spec d s n)
unfolding by_id named
named-sorted spec d s n = rw (← named-stored spec d s n) (sym (sort_map id_of (λ (x : Item). x.id) (item_from spec d) (same_id spec d) (stored_entries d s n)))

-- ---- what they have

pub length-sorted : (d : List ℕ) (s n : ℕ) → length (sort_by_id (stored_entries d s n)) ≡ n
length-sorted d s n = length_sort id_of (stored_entries d s n) ∙ length-stored d s n

module _ (d : List ℕ) (s n : ℕ) where
  pub distinct-stored : Apart d s n → Distinct id_of (stored_entries d s n)
  unfolding stored_at
  distinct-stored a =
      apart_distinct id_of no_entry (stored_entries d s n) (λ i j l k e.
      let x : i < n = omega (arith, length-stored d s n) in
      let y : j < n = omega (arith, length-stored d s n) in
      let u : id_at (id_steps d s) i ≡ id_at (id_steps d s) j = sym (ap id_of (nth-stored d s n i x)) ∙ e ∙ ap id_of (nth-stored d s n j y) in
      go i j x y u (either i j))
    where
      go : (i j : ℕ) → i < n → j < n → id_at (id_steps d s) i ≡ id_at (id_steps d s) j → Either i j → i ≡ j
      go i j x y u (is e) = e
      go i j x y u (not ne) = absurd (⊎_elim (λ l. a.ids i j l y u) (λ l. a.ids j i l x (sym u)) (apart i j ne))

  -- an entry that stands there
  stored-at : {e : Entry} → Member e (stored_entries d s n) → (P : Entry → Type 0) → ((i : ℕ) → i < n → P (stored_at d s n i)) → P e
  stored-at m P h =
      let t = at_mem no_entry m in
      let l : t.0 < n = omega (arith, t.1, length-stored d s n) in
      subst P (sym (t.2 ∙ nth-stored d s n t.0 l)) (h t.0 l)

  pub inside-sorted : {spec : Sharding} → ReadableIndex d s n → LeadsIn spec d s n → InData spec d (sort_by_id (stored_entries d s n))
  unfolding stored_at
  inside-sorted {spec} r g = record {
    inside = λ e m. stored-at (sort_mem id_of (stored_entries d s n) m) (λ (x : Entry). x.start + x.size ≤ length d) r.inside;
    led = λ e m. stored-at (sort_mem id_of (stored_entries d s n) m) (λ (x : Entry). Led spec d x.start x.size) g.led;
  }
