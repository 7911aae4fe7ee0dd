-- Walks over the entries of minishards: an item sought, all sought, two walks in step.
use Rattle.std.proofs.Common.{◌≡◌, ℕ, suc, ◌+◌, ◌%◌, ◌^◌, ◌<◌, ◌≤◌, Bool, true, false, not, List, length, sym, refl, ap, ◌∙◌, subst, ⊎_elim, not-suc-le-zero, eq-or-lt_of_le, arith, rules}
use mathlib.Core.List.Memᴰ
use borrow.Author.Tests.{not-true, not-false}
use Rattle.sharding.specs.declared.Sharding.{Sharding}
use Rattle.shard.specs.index.Index.{id_steps, start_steps, sizes}
use Rattle.shard.proofs.index.Tally.{Tally, tally-start, tally-id, tally-place, tally-turn}
use Rattle.shard.specs.Items.{Item, item_of, item_at, Led}
use Rattle.settled_form.specs.Sorted.{Member}
use Rattle.settled_form.specs.Content.{items_at}
use Rattle.settled_form.proofs.Stored.{item-member, member-item}
use Rattle.settle.specs.minishard_length.Writing.{ReadableIndex, LeadsIn}
use Rattle.repair.specs.same_listing.Alike.{Tells, AllIn, InStep}
use Rattle.repair.specs.same_listing.Walk.{Walked, EntryRead}
use Rattle.repair.proofs.same_listing.Items.{tells-yes, tells-no}

-- ---- the entry that is read: its id step u, start step v and size w, the sums o and f

walked_tally : {d : List ℕ} {s n i id at : ℕ} → Walked d s n i id at → Tally (id_steps d s) (start_steps d s n) (sizes d s n) n i id at
walked_tally h = record { within = h.below; ids = h.ids; place = h.places }

tally_walked : (d : List ℕ) (s n : ℕ) {i id at : ℕ} → Tally (id_steps d s) (start_steps d s n) (sizes d s n) n i id at → Walked d s n i id at
tally_walked d s n h = record { below = h.within; ids = h.ids; places = h.place }

walked_first : (d : List ℕ) (s n : ℕ) → Walked d s n 0 0 0
walked_first d s n = tally_walked d s n (tally-start _ _ _ _)

pub entry_read : {d : List ℕ} {s n i own at : ℕ} → ReadableIndex d s n → Walked d s n i own at → i < n → {u v w o f e : ℕ} → u ≡ id_steps d s i → o ≡ (own + u) % 2 ^ 64
    → v ≡ start_steps d s n i → f ≡ (at + v) % 2 ^ 64 → w ≡ sizes d s n i → e ≡ (f + w) % 2 ^ 64 → EntryRead d s n i o f w e
entry_read {d} {s} {n} {i} r h l eu eo ev ef ew ee =
    let t = walked_tally h in
    record {
      named = tally-id t eu eo;
      placed = tally-place t ev ef;
      sized = ew;
      inside = omega (arith, r.inside i l, tally-place t ev ef);
      next = tally_walked d s n (tally-turn t l eu eo ev ef ew ee);
    }

pub ruleset reading = (entry_read, rules)

module _ {d : List ℕ} {s n i id start size end : ℕ} (r : EntryRead d s n i id start size end) where
  entry-is : (spec : Sharding) → item_at spec d s n i ≡ item_of spec d id start size
  unfolding item_at
  entry-is spec = rw (r.named, r.placed, r.sized)

  pub entry-inside : start + size ≤ length d
  entry-inside = r.inside

  pub entry-led : {spec : Sharding} → LeadsIn spec d s n → i < n → Led spec d start size
  entry-led g l = rw (r.placed, r.sized) (g.led i l)

-- one more, from those before
below_next : (P : ℕ → Type 0) (i : ℕ) → ((j : ℕ) → j < i → P j) → P i → (j : ℕ) → j < i + 1 → P j
below_next P i h p j l = ⊎_elim (λ e. subst P (sym e) p) (λ k. h j k) (eq-or-lt_of_le (less l))
  where
    less : j < i + 1 → j ≤ i
    less q = omega arith

-- ---- an item sought among the n entries at s of d

pub record Seeking (spec : Sharding) (x : Item) (d : List ℕ) (s n i own at : ℕ) : Type 0 where
  pub walk : Walked d s n i own at
  pub none : (j : ℕ) → j < i → x ≡ item_at spec d s n j → ⊥

pub seeking_first : (spec : Sharding) (x : Item) (d : List ℕ) (s n : ℕ) → Seeking spec x d s n 0 0 0
seeking_first spec x d s n = record { walk = walked_first d s n; none = λ j l. absurd (not-suc-le-zero l) }

module _ {spec : Sharding} {x : Item} {d : List ℕ} {s n i own at : ℕ} (h : Seeking spec x d s n i own at) where
  pub seeking_walk : Walked d s n i own at
  seeking_walk = h.walk

  module _ {id start size end : ℕ} (r : EntryRead d s n i id start size end) {c : Bool} (t : Tells (x ≡ item_of spec d id start size) c) where
    pub seeking_hit : i < n → c ≡ true → Tells (Member x (items_at spec d s n)) true
    seeking_hit l q = tells-yes (Memᴰ.cast (t.yes q ∙ sym (entry-is r spec)) (item-member spec d s n i l))

    pub seeking_next : c ≡ false → Seeking spec x d s n (i + 1) id end
    seeking_next q = record {
      walk = r.next;
      none = below_next (λ (j : ℕ). x ≡ item_at spec d s n j → ⊥) i h.none (λ p. t.no q (p ∙ entry-is r spec));
    }

  pub seeking_end : n ≤ i → Tells (Member x (items_at spec d s n)) false
  seeking_end l = tells-no (λ m. let r = member-item spec d s n m in h.none r.entry (omega (arith, r.before)) (sym r.is))

pub ruleset seeking = (seeking_first, seeking_walk, entry-inside, entry-led, seeking_hit, seeking_next, seeking_end, rules)

-- ---- each of the n entries at s of d sought among the k at t of b

pub record Covering (spec : Sharding) (d : List ℕ) (s n : ℕ) (b : List ℕ) (t k i own at : ℕ) : Type 0 where
  pub walk : Walked d s n i own at
  pub all : (j : ℕ) → j < i → Member (item_at spec d s n j) (items_at spec b t k)

pub covering_first : (spec : Sharding) (d : List ℕ) (s n : ℕ) (b : List ℕ) (t k : ℕ) → Covering spec d s n b t k 0 0 0
covering_first spec d s n b t k = record { walk = walked_first d s n; all = λ j l. absurd (not-suc-le-zero l) }

module _ {spec : Sharding} {d : List ℕ} {s n : ℕ} {b : List ℕ} {t k i own at : ℕ} (h : Covering spec d s n b t k i own at) where
  pub covering_walk : Walked d s n i own at
  covering_walk = h.walk

  module _ {id start size end : ℕ} (r : EntryRead d s n i id start size end) {c : Bool} (y : Tells (Member (item_of spec d id start size) (items_at spec b t k)) c) where
    pub covering_miss : i < n → not c ≡ true → Tells (AllIn spec d s n b t k) false
    covering_miss l q = tells-no (λ a. y.no (not-true c q) (Memᴰ.cast (sym (entry-is r spec)) (a i l)))

    pub covering_next : not c ≡ false → Covering spec d s n b t k (i + 1) id end
    covering_next q = record {
      walk = r.next;
      all = below_next (λ (j : ℕ). Member (item_at spec d s n j) (items_at spec b t k)) i h.all (Memᴰ.cast (entry-is r spec) (y.yes (not-false c q)));
    }

  pub covering_end : n ≤ i → Tells (AllIn spec d s n b t k) true
  covering_end l = tells-yes (λ j m. h.all j (omega arith))

pub ruleset covering = (covering_first, covering_walk, entry-inside, entry-led, covering_miss, covering_next, covering_end, rules)

-- ---- the n entries at s of d, and beside them those at t of b

pub record Stepping (spec : Sharding) (d : List ℕ) (s : ℕ) (b : List ℕ) (t n i end at id own : ℕ) : Type 0 where
  pub walk : Walked d s n i id end
  pub beside : Walked b t n i own at
  pub all : (j : ℕ) → j < i → item_at spec d s n j ≡ item_at spec b t n j

pub stepping_first : (spec : Sharding) (d : List ℕ) (s : ℕ) (b : List ℕ) (t n : ℕ) → Stepping spec d s b t n 0 0 0 0 0
stepping_first spec d s b t n = record { walk = walked_first d s n; beside = walked_first b t n; all = λ j l. absurd (not-suc-le-zero l) }

module _ {spec : Sharding} {d : List ℕ} {s : ℕ} {b : List ℕ} {t n i end at id own : ℕ} (h : Stepping spec d s b t n i end at id own) where
  pub stepping_walk : Walked d s n i id end
  stepping_walk = h.walk

  pub stepping_beside : Walked b t n i own at
  stepping_beside = h.beside

  module _ {o f w e o' f' w' e' : ℕ} (r : EntryRead d s n i o f w e) (r' : EntryRead b t n i o' f' w' e') {c : Bool} (y : Tells (item_of spec d o f w ≡ item_of spec b o' f' w') c) where
    pub stepping_miss : i < n → not c ≡ true → Tells (InStep spec d s b t n) false
    stepping_miss l q = tells-no (λ a. y.no (not-true c q) (sym (entry-is r spec) ∙ a i l ∙ entry-is r' spec))

    pub stepping_next : not c ≡ false → Stepping spec d s b t n (i + 1) e e' o o'
    stepping_next q = record {
      walk = r.next;
      beside = r'.next;
      all = below_next (λ (j : ℕ). item_at spec d s n j ≡ item_at spec b t n j) i h.all (entry-is r spec ∙ y.yes (not-false c q) ∙ sym (entry-is r' spec));
    }

  pub stepping_end : n ≤ i → Tells (InStep spec d s b t n) true
  stepping_end l = tells-yes (λ j m. h.all j (omega arith))

pub ruleset stepping = (stepping_first, stepping_walk, stepping_beside, entry-inside, entry-led, stepping_miss, stepping_next, stepping_end, rules)
