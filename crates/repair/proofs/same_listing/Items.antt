-- Bytes, chunks and items that are the same.
use Rattle.std.proofs.Common.{◌≡◌, ℕ, suc, ◌+◌, ◌-◌, ◌<◌, ◌≤◌, Bool, true, false, not, List, [], ◌∷◌, ◌++◌, length, get_or, take, drop, sym, refl, ap, ◌∙◌, subst, true≢false, add-one, arith, length-drop, length-take, get_or-drop, get_or-take, take-suc, rules}
use mathlib.Core.Bool.{false≢true}
use borrow.Author.Tests.{not-true, not-false}
use Rattle.sharding.specs.declared.Sharding.{Sharding}
use Rattle.shard.specs.Items.{Item, lead_length_of, item_of, Led}
use Rattle.shard.proofs.Items.{item-size}
use Rattle.repair.specs.same_listing.Alike.{Tells, SameChunk}

-- ---- what is told

pub tells-yes : {P : Type 0} → P → Tells P true
tells-yes p = record { yes = λ e. p; no = λ e. absurd (true≢false e) }

pub tells-no : {P : Type 0} → (P → ⊥) → Tells P false
tells-no n = record { yes = λ e. absurd (false≢true e); no = λ e. n }

pub tells_as : {P Q : Type 0} {b : Bool} → (P → Q) → (Q → P) → Tells P b → Tells Q b
tells_as f g t = record { yes = λ e. f (t.yes e); no = λ e q. t.no e (g q) }

-- ---- chunks

item-eq : {x y : Item} → x.id ≡ y.id → x.lead ≡ y.lead → x.body ≡ y.body → x ≡ y
item-eq p q r = λ i. record { id = p i; lead = q i; body = r i }

module _ (spec : Sharding) (a : List ℕ) (start size : ℕ) (b : List ℕ) (from len : ℕ) where
  same_body : (id own : ℕ) → item_of spec a id start size ≡ item_of spec b own from len → take size (drop start a) ≡ take len (drop from b)
  unfolding item_of
  same_body id own e = ap (λ (x : Item). x.body) e

  same-lead : (id own : ℕ) → item_of spec a id start size ≡ item_of spec b own from len
      → take (lead_length_of spec (take size (drop start a))) (drop (start - lead_length_of spec (take size (drop start a))) a)
      ≡ take (lead_length_of spec (take len (drop from b))) (drop (from - lead_length_of spec (take len (drop from b))) b)
  unfolding item_of
  same-lead id own e = ap (λ (x : Item). x.lead) e

  same_id : (id own : ℕ) → item_of spec a id start size ≡ item_of spec b own from len → id ≡ own
  unfolding item_of
  same_id id own e = ap (λ (x : Item). x.id) e

  make_item : (id own : ℕ) → id ≡ own → take size (drop start a) ≡ take len (drop from b)
      → take (lead_length_of spec (take size (drop start a))) (drop (start - lead_length_of spec (take size (drop start a))) a)
      ≡ take (lead_length_of spec (take len (drop from b))) (drop (from - lead_length_of spec (take len (drop from b))) b)
      → item_of spec a id start size ≡ item_of spec b own from len
  unfolding item_of
  make_item id own p q r = item-eq p r q

  -- sizes that differ
  pub sizes-differ : start + size ≤ length a → from + len ≤ length b → (size ≡ len → ⊥) → Tells (SameChunk spec a start size b from len) false
  sizes-differ u v n =
      tells-no (λ e. n (sym (item-size spec a 0 start size u) ∙ ap (λ (x : Item). length x.body) e ∙ item-size spec b 0 from len v))

  module _ (z : size ≡ len) where
    pub other-room : from + len ≤ length b → from + size ≤ length b
    other-room v = omega arith

    module _ {r : Bool} (t : Tells (take size (drop start a) ≡ take size (drop from b)) r) where
      -- bytes that differ
      pub bytes-differ : not r ≡ true → Tells (SameChunk spec a start size b from len) false
      bytes-differ n = tells-no (λ e. t.no (not-true r n) (same_body 0 0 e ∙ ap (λ (k : ℕ). take k (drop from b)) (sym z)))

      pub bytes_same : not r ≡ false → take size (drop start a) ≡ take size (drop from b)
      bytes_same n = t.yes (not-false r n)

    pub other-led : Led spec b from len → Led spec b from size
    other-led l = rw z l

    pub size-tells : {r : Bool} → Tells (SameChunk spec a start size b from size) r → Tells (SameChunk spec a start size b from len) r
    size-tells {r} t = subst (λ (k : ℕ). Tells (SameChunk spec a start size b from k) r) z t

  -- ---- with ids

  pub ids-differ : (id own : ℕ) → (id ≡ own → ⊥) → Tells (item_of spec a id start size ≡ item_of spec b own from len) false
  ids-differ id own n = tells-no (λ e. n (same_id id own e))

  pub chunks_tell : (id own : ℕ) → id ≡ own → {r : Bool} → Tells (SameChunk spec a start size b from len) r → Tells (item_of spec a id start size ≡ item_of spec b own from len) r
  chunks_tell id own z t =
      tells_as (λ p. make_item id own z (same_body 0 0 p) (same-lead 0 0 p)) (λ q. make_item 0 0 refl (same_body id own q) (same-lead id own q)) t

pub ruleset comparing = (sizes-differ, other-room, bytes-differ, bytes_same, other-led, size-tells, ids-differ, chunks_tell, rules)

-- ---- leads of chunks of the same bytes

module _ (spec : Sharding) (a : List ℕ) (start size : ℕ) (b : List ℕ) (from : ℕ) {k : ℕ} (e : k ≡ lead_length_of spec (take size (drop start a))) where
  pub lead-before : Led spec a start size → k ≤ start
  lead-before l = omega (arith, l.before)

  pub lead-room : start + size ≤ length a → Led spec a start size → start - k + k ≤ length a
  lead-room u l = omega (arith, lead-before l)

  module _ (bodies : take size (drop start a) ≡ take size (drop from b)) where
    other-lead : k ≡ lead_length_of spec (take size (drop from b))
    other-lead = e ∙ ap (lead_length_of spec) bodies

    pub other-before : Led spec b from size → k ≤ from
    other-before l = omega (arith, l.before, other-lead)

    pub other-lead-room : from + size ≤ length b → Led spec b from size → from - k + k ≤ length b
    other-lead-room u l = omega (arith, other-before l)

    pub leads_tell : {s : Bool} → Tells (take k (drop (start - k) a) ≡ take k (drop (from - k) b)) s → Tells (SameChunk spec a start size b from size) s
    leads_tell w =
        tells_as (λ p. make_item spec a start size b from size 0 0 refl bodies (rw (← e, ← other-lead) p))
        (λ q. rw (← e, ← other-lead) at (same-lead spec a start size b from size 0 0 q)) w

pub ruleset leading = (lead-before, lead-room, other-before, other-lead-room, leads_tell, rules)
