-- Whether a minishard may be written as it stands.
use Rattle.std.proofs.Common.{◌≡◌, ℕ, suc, ◌+◌, ◌-◌, ◌*◌, ◌%◌, ◌^◌, ◌<◌, ◌≤◌, Bool, true, false, List, sym, refl, ap, ◌∙◌, arith, rules}
use mathlib.Core.Bool.{false≢true}
use Rattle.endian.specs.Little.{le_at}
use Rattle.endian.specs.Place.{paste}
use Rattle.endian.specs.Range.{sum_to}
use Rattle.sharding.specs.declared.Sharding.{Sharding}
use Rattle.shard.specs.index.Index.{id_steps, sizes, id_at}
use Rattle.shard.specs.Items.{MayLead}
use Rattle.settled_form.specs.Form.{part_of}
use Rattle.settled_form.specs.Content.{items_at, by_id}
use Rattle.settled_form.proofs.Stored.{by_id-stored}
use Rattle.index_sort.proofs.three_rows.Cases.{Either, is, not, either}
use Rattle.settle.specs.minishard_length.Writing.{ReadableIndex, Stored, MayStand, IdsRise, Climbs, minishard_length}
use Rattle.settle.proofs.minishard_length.Lengths.{lengths_alone}

-- ---- whether the ids rise

-- entry i is the next to compare, and id is the one before it
pub record Climbing (steps : ℕ → ℕ) (n i id : ℕ) : Type 0 where
  pub from : 1 ≤ i
  pub before : id ≡ id_at steps (i - 1)
  pub passed : (j : ℕ) → suc j < i → id_at steps j < id_at steps (suc j)

first-id : (steps : ℕ → ℕ) → steps 0 < 2 ^ 64 → id_at steps 0 ≡ steps 0
unfolding id_at sum_to
first-id steps b = omega arith

id-after : (steps : ℕ → ℕ) (i : ℕ) → id_at steps (suc i) ≡ (id_at steps i + steps (suc i)) % 2 ^ 64
unfolding id_at sum_to
id-after steps i = omega arith

pub climb_start : (d : List ℕ) (s n : ℕ) {id : ℕ} → id ≡ le_at 8 d s → id < 2 ^ 64 → Climbing (id_steps d s) n 1 id
climb_start d s n {id} e b =
    let z : s + 8 * 0 ≡ s = omega arith in
    let f : id_steps d s 0 ≡ id = ap (le_at 8 d) z ∙ sym e in
    record { from = omega arith; before = sym (first-id (id_steps d s) (omega arith) ∙ f); passed = λ j l. absurd (omega arith) }

next-id : (d : List ℕ) (s : ℕ) {n i id x next : ℕ} → Climbing (id_steps d s) n i id → x ≡ le_at 8 d (s + 8 * i) → next ≡ (id + x) % 2 ^ 64 → id_at (id_steps d s) i ≡ next
next-id d s {n} {i} h e w =
    let o = h.from in
    let a : suc (i - 1) ≡ i = omega arith in
    let f = id_steps d s in
    ap (id_at f) (sym a) ∙ id-after f (i - 1) ∙ rw (← h.before, a, ← e) (sym w)

pub climb_false : (d : List ℕ) (s : ℕ) {n i id x next : ℕ} → Climbing (id_steps d s) n i id → i < n → x ≡ le_at 8 d (s + 8 * i) → next ≡ (id + x) % 2 ^ 64 → next ≤ id → Climbs (id_steps d s) n false
climb_false d s {n} {i} {id} {x} {next} h l e w down = record { up = λ q. absurd (false≢true q); all = λ g. absurd (falls g) }
  where
    falls : IdsRise (id_steps d s) n → ⊥
    falls g =
        let o = h.from in
        let a : suc (i - 1) ≡ i = omega arith in
        let t = next-id d s h e w in
        let b = h.before in
        let u : id_at (id_steps d s) (suc (i - 1)) ≡ id_at (id_steps d s) i = ap (id_at (id_steps d s)) a in
        omega (arith, g (i - 1) (omega arith))

pub climb_next : (d : List ℕ) (s : ℕ) {n i id x next : ℕ} → Climbing (id_steps d s) n i id → i < n → x ≡ le_at 8 d (s + 8 * i) → next ≡ (id + x) % 2 ^ 64 → id < next → Climbing (id_steps d s) n (i + 1) next
climb_next d s {n} {i} {id} {x} {next} h l e w up =
    let o = h.from in
    let t = next-id d s h e w in
    let z : i + 1 - 1 ≡ i = omega arith in
    record {
      from = omega arith;
      before = sym (ap (id_at (id_steps d s)) z ∙ t);
      passed = λ j k. go j k (either j (i - 1)) t;
    }
  where
    go : (j : ℕ) → suc j < i + 1 → Either j (i - 1) → id_at (id_steps d s) i ≡ next → id_at (id_steps d s) j < id_at (id_steps d s) (suc j)
    go j k (is q) t =
        let o = h.from in
        let a : suc j ≡ i = omega arith in
        rw (a, q, ← h.before, t) up
    go j k (not ne) t = let o = h.from in h.passed j (omega (arith, ne))

pub climb_true : {steps : ℕ → ℕ} {n i id : ℕ} → Climbing steps n i id → n ≤ i → Climbs steps n true
climb_true h l = record { up = λ e j k. h.passed j (omega arith); all = λ g. refl }

pub ruleset climbing = (climb_start, climb_false, climb_next, climb_true, rules)

-- ---- and no chunk has a lead

module _ (spec : Sharding) (d : List ℕ) (s n : ℕ) where
  pub stands-not : {a : Bool} → MayLead spec a → a ≡ true → MayStand spec d s n false
  stands-not m e = record { stored = λ q. absurd (false≢true q); all = λ v g. absurd (false≢true (sym v ∙ sym m.mesh ∙ e)) }

  pub stands : {a b : Bool} → MayLead spec a → a ≡ false → Climbs (id_steps d s) n b → MayStand spec d s n b
  stands m e h = record { stored = λ f. record { alone = m.none e; up = h.up f }; all = λ v g. h.all g }

  -- it is then settled as it stands
  pub stored_is : {b : Bool} → MayStand spec d s n b → b ≡ true → Stored spec d s n
  stored_is h e = h.stored e

  pub stored-written : (p at : ℕ) (o : List ℕ) {o₁ : List ℕ} {b : Bool} → MayStand spec d s n b → b ≡ true → o₁ ≡ paste at (part_of p (items_at spec d s n)) o
      → o₁ ≡ paste at (part_of p (by_id (items_at spec d s n))) o
  stored-written p at o h e w = w ∙ rw (by_id-stored spec d s n (h.stored e).up)

module _ (spec : Sharding) (d : List ℕ) (s n : ℕ) {b : Bool} (r : ReadableIndex d s n) (h : MayStand spec d s n b) (e : b ≡ true) where
  pub stored-room : (at m : ℕ) → at + minishard_length spec d s n ≤ m → at + (sum_to (sizes d s n) n + 24 * n) ≤ m
  stored-room at m l = omega (arith, lengths_alone spec r (h.stored e).alone)

  pub stored-length : {len : ℕ} → len ≡ sum_to (sizes d s n) n + 24 * n → len ≡ minishard_length spec d s n
  stored-length l = omega (arith, lengths_alone spec r (h.stored e).alone)

pub ruleset standing = (stands-not, stands, stored_is, stored-written, stored-room, stored-length, rules)
