-- Minishards that list the same, and the test that says so.
use Rattle.std.proofs.Common.{◌≡◌, ℕ, zero, suc, ◌+◌, ◌-◌, ◌*◌, ◌/◌, ◌<◌, ◌≤◌, Bool, true, false, not, eqb, List, [], ◌∷◌, length, sym, refl, ap, ◌∙◌, true≢false, arith, rules, eq-eqb, ne_eqb, eqb-true}
use mathlib.Core.Bool.{false≢true}
use borrow.Author.Tests.{not-true, not-false, eqb-false}
use Rattle.refusal.proofs.Tests.{both}
use Rattle.sharding.specs.declared.Sharding.{Sharding}
use Rattle.shard.specs.index.Index.{entry_start_of, entry_end_of, entry_count}
use Rattle.shard.specs.Items.{Item}
use Rattle.settled_form.specs.Sorted.{Member, sort_by}
use Rattle.settled_form.specs.Content.{items_from, items_at, items_of, id_of, by_id}
use Rattle.settled_form.proofs.Sorting.{mem_sort, sort_mem, sort_same}
use Rattle.settled_form.proofs.Measures.{length_items, length_by_id}
use Rattle.settled_form.proofs.Stored.{item-member, each_item, distinct_items}
use Rattle.settle.specs.minishard_length.Writing.{ReadableIndex, LeadsIn, Apart}
use Rattle.settle.specs.length.Settleable.{SettleableIn}
use Rattle.settle.proofs.length.Lengths.{none_items, ordered-read, readable-read, leads-read}
use Rattle.repair.specs.same_listing.Alike.{same_bytes_of, same_item_of, same_items, alike, Tells, AllIn, InStep}
use Rattle.repair.proofs.same_listing.Items.{tells-yes, tells-no, tells_as}

-- ---- entries

items_same : (spec : Sharding) (a : List ℕ) (p : ℕ) (b : List ℕ) (s n i k : ℕ) → i + k ≤ n → InStep spec a p b s n → items_from spec a p n i k ≡ items_from spec b s n i k
unfolding items_from
items_same spec a p b s n i zero l h = refl
items_same spec a p b s n i (suc k) l h = rw (h i (omega arith), items_same spec a p b s n (suc i) k (omega arith) h)

module _ (spec : Sharding) (a : List ℕ) (p n : ℕ) (b : List ℕ) (s k : ℕ) where
  abbrev Same : Type 0
  Same = by_id (items_at spec a p n) ≡ by_id (items_at spec b s k)

  pub counts-differ : (n ≡ k → ⊥) → Tells (by_id (items_at spec a p n) ≡ by_id (items_at spec b s k)) false
  counts-differ ne =
      tells-no (λ e. ne (sym (length_items spec a p n) ∙ sym (length_by_id (items_at spec a p n)) ∙ ap length e ∙ length_by_id (items_at spec b s k) ∙ length_items spec b s k))

  pub stepped : n ≡ k → {r : Bool} → Tells (InStep spec a p b s n) r → r ≡ true → Tells (by_id (items_at spec a p n) ≡ by_id (items_at spec b s k)) true
  unfolding items_at
  stepped z t y = tells-yes (ap by_id (rw (← z) (items_same spec a p b s n 0 n (omega arith) (t.yes y))))

  all_of : by_id (items_at spec a p n) ≡ by_id (items_at spec b s k) → AllIn spec a p n b s k
  unfolding by_id
  all_of e i l = sort_mem id_of (items_at spec b s k) (rw e at (mem_sort id_of (items_at spec a p n) (item-member spec a p n i l)))

  pub some-missing : {r : Bool} → Tells (AllIn spec a p n b s k) r → not r ≡ true → Tells (by_id (items_at spec a p n) ≡ by_id (items_at spec b s k)) false
  some-missing {r} t q = tells-no (λ e. t.no (not-true r q) (all_of e))

module _ (spec : Sharding) (a : List ℕ) (p n : ℕ) (b : List ℕ) (s k : ℕ) where
  members : AllIn spec a p n b s k → (x : Item) → Member x (items_at spec a p n) → Member x (items_at spec b s k)
  members h = each_item spec a p n (λ (x : Item). Member x (items_at spec b s k)) h

module _ (spec : Sharding) (a : List ℕ) (p n : ℕ) (b : List ℕ) (s k : ℕ) where
  same_of : Apart a p n → Apart b s k → AllIn spec a p n b s k → AllIn spec b s k a p n → by_id (items_at spec a p n) ≡ by_id (items_at spec b s k)
  unfolding by_id
  same_of u v f g =
      sort_same id_of _ _ (distinct_items spec a p n u.ids) (distinct_items spec b s k v.ids) (λ x. (members spec a p n b s k f x, members spec b s k a p n g x))

  pub both_ways : Apart a p n → Apart b s k → {r : Bool} → Tells (AllIn spec a p n b s k) r → not r ≡ false → {q : Bool} → Tells (AllIn spec b s k a p n) q
      → Tells (by_id (items_at spec a p n) ≡ by_id (items_at spec b s k)) q
  both_ways u v {r} t y w = tells_as (λ g. same_of u v (t.yes (not-false r y)) g) (λ e. all_of spec b s k a p n (sym e)) w

pub other-readable : {d : List ℕ} {s n k : ℕ} → n ≡ k → ReadableIndex d s k → ReadableIndex d s n
other-readable e r = rw e r

pub other-leads : {spec : Sharding} {d : List ℕ} {s n k : ℕ} → n ≡ k → LeadsIn spec d s k → LeadsIn spec d s n
other-leads e r = rw e r

pub ruleset matching = (other-readable, other-leads, counts-differ, stepped, some-missing, both_ways, rules)

-- ---- the test

bytes_same : (xs ys : List ℕ) → same_bytes_of xs ys ≡ true → xs ≡ ys
unfolding same_bytes_of
bytes_same [] [] e = refl
bytes_same [] (y ∷ ys) e = absurd (false≢true e)
bytes_same (x ∷ xs) [] e = absurd (false≢true e)
bytes_same (x ∷ xs) (y ∷ ys) e =
    let t = both (eqb x y) (same_bytes_of xs ys) e in
    let p = eqb-true x y t.0 in
    let q = bytes_same xs ys t.1 in
    cc

bytes_self : (xs : List ℕ) → same_bytes_of xs xs ≡ true
unfolding same_bytes_of
bytes_self [] = refl
bytes_self (x ∷ xs) = rw (eq-eqb x x refl) (bytes_self xs)

item-same : (x y : Item) → same_item_of x y ≡ true → x ≡ y
unfolding same_item_of
item-same x y e =
    let t = both (eqb x.id y.id) _ e in
    let u = both (same_bytes_of x.lead y.lead) _ t.1 in
    let p = eqb-true x.id y.id t.0 in
    let q = bytes_same x.lead y.lead u.0 in
    let r = bytes_same x.body y.body u.1 in
    λ i. record { id = p i; lead = q i; body = r i }

item_self : (x : Item) → same_item_of x x ≡ true
unfolding same_item_of
item_self x = rw (eq-eqb x.id x.id refl, bytes_self x.lead, bytes_self x.body)

pub items_alike : (xs ys : List Item) → same_items xs ys ≡ true → xs ≡ ys
unfolding same_items
items_alike [] [] e = refl
items_alike [] (y ∷ ys) e = absurd (false≢true e)
items_alike (x ∷ xs) [] e = absurd (false≢true e)
items_alike (x ∷ xs) (y ∷ ys) e =
    let t = both (same_item_of x y) (same_items xs ys) e in
    let p = item-same x y t.0 in
    let q = items_alike xs ys t.1 in
    cc

pub items_self : (xs : List Item) → same_items xs xs ≡ true
unfolding same_items
items_self [] = refl
items_self (x ∷ xs) = rw (item_self x, items_self xs)

told_same : (xs ys : List Item) {r : Bool} → Tells (xs ≡ ys) r → r ≡ same_items xs ys
told_same xs ys {r} t = go r (same_items xs ys) refl refl
  where
    go : (b c : Bool) → r ≡ b → same_items xs ys ≡ c → r ≡ same_items xs ys
    go true c p q = p ∙ sym (ap (same_items xs) (sym (t.yes p)) ∙ items_self xs)
    go false true p q = absurd (t.no p (items_alike xs ys q))
    go false false p q = p ∙ sym q

-- ---- a minishard of two shards, whose entries were read

module _ (spec : Sharding) (ia da ib db : List ℕ) (m : ℕ) where
  pub alike_same : alike spec ia da ib db m ≡ true → by_id (items_of spec ia da m) ≡ by_id (items_of spec ib db m)
  unfolding alike
  alike_same e = items_alike _ _ e

  pub same_alike : by_id (items_of spec ia da m) ≡ by_id (items_of spec ib db m) → alike spec ia da ib db m ≡ true
  unfolding alike
  same_alike e = rw e (items_self (by_id (items_of spec ib db m)))

  alike-told : {r : Bool} → Tells (by_id (items_of spec ia da m) ≡ by_id (items_of spec ib db m)) r → r ≡ alike spec ia da ib db m
  unfolding alike
  alike-told t = told_same _ _ t

none-sorted : (spec : Sharding) (d : List ℕ) (s e : ℕ) → s ≡ e → by_id (items_at spec d s (entry_count s e)) ≡ []
unfolding by_id sort_by
none-sorted spec d s e q = rw (none_items spec d s e q)

some-sorted : (spec : Sharding) (d : List ℕ) (s n : ℕ) → 0 < n → by_id (items_at spec d s n) ≡ [] → ⊥
some-sorted spec d s n l e = let z : length (by_id (items_at spec d s n)) ≡ 0 = ap length e in omega (arith, length_by_id (items_at spec d s n), length_items spec d s n)

module _ (spec : Sharding) (ia da ib db : List ℕ) (m : ℕ) {p e s f : ℕ} (ep : p ≡ entry_start_of ia m) (ee : e ≡ entry_end_of ia m) (es : s ≡ entry_start_of ib m) (ef : f ≡ entry_end_of ib m) where
  pub apart-first : SettleableIn spec ia da m → Apart da p ((e - p) / 24)
  apart-first t = record { ids = rw (ep, ee) t.distinct }

  pub apart-second : SettleableIn spec ib db m → Apart db s ((f - s) / 24)
  apart-second t = record { ids = rw (es, ef) t.distinct }

  told : {r : Bool} → Tells (by_id (items_at spec da p (entry_count p e)) ≡ by_id (items_at spec db s (entry_count s f))) r → r ≡ alike spec ia da ib db m
  told t = alike-told spec ia da ib db m (rw (ep, ee, es, ef) at t)

  pub both_told : {r : Bool} → Tells (by_id (items_at spec da p ((e - p) / 24)) ≡ by_id (items_at spec db s ((f - s) / 24))) r → r ≡ alike spec ia da ib db m
  both_told t = told t

  pub second_none : SettleableIn spec ia da m → (p ≡ e → ⊥) → s ≡ f → false ≡ alike spec ia da ib db m
  second_none g ne q = told (tells-no (λ w. some-sorted spec da p (entry_count p e) (readable-read spec ia da m ep ee g ne).some (w ∙ none-sorted spec db s f q)))

  pub first-none : SettleableIn spec ib db m → p ≡ e → eqb s f ≡ alike spec ia da ib db m
  first-none g q = go (eqb s f) refl
    where
      go : (b : Bool) → eqb s f ≡ b → b ≡ alike spec ia da ib db m
      go true t = told (tells-yes (none-sorted spec da p e q ∙ sym (none-sorted spec db s f (eqb-true s f t))))
      go false t = told (tells-no (λ w. some-sorted spec db s (entry_count s f) (readable-read spec ib db m es ef g (eqb-false s f t)).some (sym w ∙ none-sorted spec da p e q)))

pub ruleset deciding = (ordered-read, readable-read, leads-read, apart-first, apart-second, first-none, second_none, both_told, rules)
