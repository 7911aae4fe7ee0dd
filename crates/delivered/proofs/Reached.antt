-- Each call leaves a state whose numbers contradict neither each other nor the second buffer.
use Prim.Native.Nat.{ℕ, zero, suc, ◌+◌, ◌*◌, ◌-◌, ◌^◌, ◌≤◌, ◌<◌}
use mathlib.Core.Path.{◌≡◌, refl, sym, ap, ◌∙◌}
use mathlib.Core.Bool.{Bool, true, false, ◌&&◌, ◌||◌, or-true}
use mathlib.Core.Logic.{◌⊎◌, inl, inr}
use mathlib.Core.List.{List}
use native.Mathlib.Omega.{arith}
use lib.Dec.{ltb, leb, eqb}
use lib.ListN.{length}
use borrow.Author.Tests.{ltb-true, leb-true, leb-false, lt-ltb, le-leb, eqb-true, eqb-false, eq-eqb, ne_eqb}
use Rattle.refusal.specs.Choice.{pick}
use Rattle.refusal.proofs.Tests.{both, neither}
use Rattle.endian.specs.Place.{paste}
use Rattle.endian.specs.Range.{sum_to, every}
use Rattle.endian.proofs.Ranges.{sum-none, sum_step, every-none, every_more}
use Rattle.sharding.specs.declared.Sharding.{Sharding}
use Rattle.sharding.specs.Specification.{no_such_shard}
use Rattle.sharding.specs.placement.Place.{shard_of, minishard_of}
use Rattle.shard.specs.File.{index_length_of}
use Rattle.intake.specs.waiting.Held.{pair, id_held, size_held}
use Rattle.intake.proofs.waiting.Pairs.{pair-id, pair_size, pair-before}
use Rattle.intake.specs.declared.state.Intake.{Intake}
use Rattle.intake.specs.state.State.{most, announced_length, not_volume, fresh, belongs, placed, begun, spans, waits, going, sane, follows, announceable}
use Rattle.intake.specs.call_tests.Tests.{out_of_order, count_in}
use Rattle.intake.proofs.state.Passing.{Fresh, fresh-parts, going-parts, Sane, sane-parts, announceable-parts}
use Rattle.intake.proofs.call_tests.Passing.{unusable-parts, not-below, foreign-ours}
use Rattle.intake.proofs.admission.Passing.{Opens, Announces}
use Rattle.intake.specs.steps.Steps.{opened, turned, noted, announced, taken}
use Rattle.intake.proofs.steps.Stepped.{turned-count}
use Rattle.delivered.proofs.Keeping.{turned-there}

positive : (k : ℕ) → (k ≡ 0 → ⊥) → 0 < k
positive k h = omega arith

-- ---- a sane state from its parts

fresh-made : {s : Intake} → Fresh s → fresh s ≡ true
unfolding fresh
fresh-made h = rw (h.minishard, h.last, h.begin, h.next, h.owed)

-- where the open minishard began
pub record Begun (s : Intake) : Type 0 where
  pub ordered : s.begin ≤ s.next
  pub behind : (s.begin ≡ 0) ⊎ ((0 < s.minishard) × (24 ≤ s.begin))

begun-parts : (s : Intake) → begun s ≡ true → Begun s
unfolding begun
begun-parts s e = let a = both _ _ e in record { ordered = leb-true _ _ a.0; behind = go (eqb s.begin 0) refl a.1 }
  where
    go : (b : Bool) → eqb s.begin 0 ≡ b → (b || (ltb 0 s.minishard && leb 24 s.begin)) ≡ true → (s.begin ≡ 0) ⊎ ((0 < s.minishard) × (24 ≤ s.begin))
    go true f g = inl (eqb-true _ _ f)
    go false f g = let h = both _ _ g in inr (ltb-true _ _ h.0, leb-true _ _ h.1)

begun-made : (s : Intake) → Begun s → begun s ≡ true
unfolding begun
begun-made s h = rw (le-leb s.begin s.next h.ordered) (go h.behind)
  where
    go : (s.begin ≡ 0) ⊎ ((0 < s.minishard) × (24 ≤ s.begin)) → (eqb s.begin 0 || (ltb 0 s.minishard && leb 24 s.begin)) ≡ true
    go (inl e) = rw (eq-eqb s.begin 0 e)
    go (inr g) = rw (lt-ltb 0 s.minishard g.0, le-leb 24 s.begin g.1) (or-true (eqb s.begin 0))

-- the last pair that waits
record Waits (s : Intake) (w : List ℕ) : Type 0 where
  id : id_held w (s.count - 1) ≡ s.last
  owed : s.owed ≤ size_held w (s.count - 1)
  came : s.begin + size_held w (s.count - 1) ≤ s.next + s.owed
  only : (1 < s.count) ⊎ (s.begin + size_held w (s.count - 1) ≡ s.next + s.owed)

waits-parts : (s : Intake) (w : List ℕ) → waits s w ≡ true → Waits s w
unfolding waits spans
waits-parts s w e =
    let a = both _ _ e in
    let b = both _ _ a.1 in
    let c = both _ _ b.1 in
    record { id = eqb-true _ _ a.0; owed = leb-true _ _ b.0; came = leb-true _ _ c.0; only = go (ltb 1 s.count) refl c.1 }
  where
    go : (b : Bool) → ltb 1 s.count ≡ b → (b || eqb (s.begin + size_held w (s.count - 1)) (s.next + s.owed)) ≡ true
        → (1 < s.count) ⊎ (s.begin + size_held w (s.count - 1) ≡ s.next + s.owed)
    go true f g = inl (ltb-true _ _ f)
    go false f g = inr (eqb-true _ _ g)

waits-made : (s : Intake) (w : List ℕ) → Waits s w → waits s w ≡ true
unfolding waits spans
waits-made s w h =
    rw (eq-eqb _ _ h.id, le-leb s.owed (size_held w (s.count - 1)) h.owed, le-leb (s.begin + size_held w (s.count - 1)) (s.next + s.owed) h.came)
    (go h.only)
  where
    go : (1 < s.count) ⊎ (s.begin + size_held w (s.count - 1) ≡ s.next + s.owed)
        → (ltb 1 s.count || eqb (s.begin + size_held w (s.count - 1)) (s.next + s.owed)) ≡ true
    go (inl l) = rw (lt-ltb 1 s.count l)
    go (inr e) = rw (eq-eqb (s.begin + size_held w (s.count - 1)) (s.next + s.owed) e) (or-true (ltb 1 s.count))

going-made : (s : Intake) (w : List ℕ) → shard_of s.spec s.last ≡ s.shard → minishard_of s.spec s.last ≡ s.minishard → s.count - 1 ≤ s.last
    → Begun s → Waits s w → going s w ≡ true
unfolding going placed belongs
going-made s w a b c d e = rw (eq-eqb _ _ a, eq-eqb _ _ b, le-leb (s.count - 1) s.last c, begun-made s d, waits-made s w e)

sane-made : (s : Intake) (w : List ℕ) → Sane s w → sane s w ≡ true
unfolding sane
sane-made s w h =
    rw (h.volume, h.numbered, le-leb (16 * s.count) s.waiting h.held, le-leb (announced_length s) (most s.output) h.room) h.either

either-begun : (s : Intake) (w : List ℕ) (b : Bool) → pick b (fresh s) (going s w) ≡ true → Begun s
either-begun s w true e = let z = fresh-parts s e in record { ordered = omega arith; behind = inl z.begin }
either-begun s w false e = begun-parts s (going-parts s w e).begun

-- with no chunk in it, it begins where the next byte goes
either-starts : (s : Intake) (w : List ℕ) (b : Bool) → pick b (fresh s) (going s w) ≡ true → eqb s.count 0 ≡ b → s.count ≡ 0 → s.begin ≡ s.next
either-starts s w true e f n = let z = fresh-parts s e in omega (arith, z.begin, z.next)
either-starts s w false e f n = absurd (eqb-false s.count 0 f n)

-- as many ids as chunks are not above the last one
either-ids : (s : Intake) (w : List ℕ) (b : Bool) → pick b (fresh s) (going s w) ≡ true → eqb s.count 0 ≡ b → s.count - 1 ≤ s.last
either-ids s w true e f = let z = eqb-true s.count 0 f in omega arith
either-ids s w false e f = (going-parts s w e).ids

-- ---- each step leaves a sane state

pub opened-sane : (spec : Sharding) (shard output waiting : ℕ) (w : List ℕ) → Opens spec shard output → sane (opened spec shard output waiting) w ≡ true
opened-sane spec shard output waiting w h =
    sane-made (opened spec shard output waiting) w
    (record {
      volume = h.volume;
      numbered = h.numbered;
      held = omega arith;
      room = omega (arith, h.room);
      either = fresh-made {s = opened spec shard output waiting} (record { minishard = refl; last = refl; begin = refl; next = refl; owed = refl });
    })

pub taken-sane : (s : Intake) (n : ℕ) (w : List ℕ) → sane s w ≡ true → n ≤ s.owed → sane (taken s n) w ≡ true
taken-sane s n w e l =
    let h = sane-parts s w e in
    sane-made (taken s n) w
    (record {
      volume = h.volume;
      numbered = h.numbered;
      held = h.held;
      room = omega (arith, h.room);
      either = go (eqb s.count 0) h.either;
    })
  where
    same : {k : ℕ} → (1 < s.count) ⊎ (k ≡ s.next + s.owed) → (1 < s.count) ⊎ (k ≡ s.next + n + (s.owed - n))
    same (inl k) = inl k
    same (inr f) = inr (omega arith)

    go : (b : Bool) → pick b (fresh s) (going s w) ≡ true → pick b (fresh (taken s n)) (going (taken s n) w) ≡ true
    go true f =
        let z = fresh-parts s f in
        fresh-made {s = taken s n} (record { minishard = z.minishard; last = z.last; begin = z.begin; next = omega arith; owed = omega arith })
    go false f =
        let z = going-parts s w f in
        let b = begun-parts s z.begun in
        let v = waits-parts s w z.waits in
        going-made (taken s n) w z.ours z.here z.ids (record { ordered = omega arith; behind = b.behind })
        (record { id = v.id; owed = omega arith; came = omega arith; only = same v.only })

-- what a new minishard changes of the numbers
pub record Turns (s : Intake) (w : List ℕ) (m : ℕ) (t : Intake) : Type 0 where
  pub spec : t.spec ≡ s.spec
  pub shard : t.shard ≡ s.shard
  pub output : t.output ≡ s.output
  pub waiting : t.waiting ≡ s.waiting
  pub owed : t.owed ≡ s.owed
  pub phase : t.phase ≡ s.phase
  pub begun : s.minishard ≤ m → sane s w ≡ true → Begun t
  pub starts : sane s w ≡ true → t.count ≡ 0 → t.begin ≡ t.next
  pub place : t.next + 24 * t.count ≡ s.next + 24 * s.count

pub turns : (s : Intake) (w : List ℕ) (m : ℕ) → Turns s w m (turned s m)
unfolding turned
turns s w m = go (eqb m s.minishard) refl
  where
    -- it begins behind a minishard index, or, where none came before it, where the data does
    new : (b : Bool) → eqb s.count 0 ≡ b → pick b (fresh s) (going s w) ≡ true → s.minishard < m → (s.next + 24 * s.count ≡ 0) ⊎ ((0 < m) × (24 ≤ s.next + 24 * s.count))
    new true f e l = let z = fresh-parts s e in let n = eqb-true s.count 0 f in inl (omega arith)
    new false f e l = let n = positive s.count (eqb-false s.count 0 f) in inr (omega arith, omega arith)

    other : eqb m s.minishard ≡ false → s.minishard ≤ m → s.minishard < m
    other e l = let n = eqb-false m s.minishard e in omega arith

    go : (b : Bool) → eqb m s.minishard ≡ b → Turns s w m (turned s m)
    go true e =
        rw e
        (record {
          spec = refl;
          shard = refl;
          output = refl;
          waiting = refl;
          owed = refl;
          phase = refl;
          begun = λ l h. either-begun s w (eqb s.count 0) (sane-parts s w h).either;
          starts = λ h z. either-starts s w (eqb s.count 0) (sane-parts s w h).either refl z;
          place = refl;
        })
    go false e =
        rw e
        (record {
          spec = refl;
          shard = refl;
          output = refl;
          waiting = refl;
          owed = refl;
          phase = refl;
          begun = λ l h. record { ordered = omega arith; behind = new (eqb s.count 0) refl (sane-parts s w h).either (other e l) };
          starts = λ h z. refl;
          place = omega arith;
        })

-- an id in order is above as many ids as chunks of its minishard came
count-below : (s : Intake) (w : List ℕ) (id : ℕ) → sane s w ≡ true → out_of_order s id ≡ false → count_in s (minishard_of s.spec id) ≤ id
unfolding count_in out_of_order
count-below s w id h o =
    go (eqb (minishard_of s.spec id) s.minishard) (neither (ltb (minishard_of s.spec id) s.minishard) _ o).1
  where
    go : (b : Bool) → (b && (ltb 0 s.count && leb id s.last)) ≡ false → pick b s.count 0 ≤ id
    go false f = omega arith
    go true f = some (eqb s.count 0) refl
      where
        some : (b : Bool) → eqb s.count 0 ≡ b → s.count ≤ id
        some true g = let n = eqb-true s.count 0 g in omega arith
        some false g =
            let n = positive s.count (eqb-false s.count 0 g) in
            let k = either-ids s w (eqb s.count 0) (sane-parts s w h).either refl in
            omega (arith, leb-false id s.last (rw (lt-ltb 0 s.count n) at f))

-- the first chunk of a minishard is all that is owed of it
first-spans : (t : Intake) → (t.count ≡ 0 → t.begin ≡ t.next) → {held size : ℕ} → held ≡ size
    → (1 < t.count + 1) ⊎ (t.begin + held ≡ t.next + size)
first-spans t h {held} {size} e = go (eqb t.count 0) refl
  where
    go : (b : Bool) → eqb t.count 0 ≡ b → (1 < t.count + 1) ⊎ (t.begin + held ≡ t.next + size)
    go true f = inr (omega (arith, h (eqb-true t.count 0 f)))
    go false f = inl (omega (arith, positive t.count (eqb-false t.count 0 f)))

-- its id belongs to the shard, and to the minishard that is open then
announced-place : (s : Intake) (id size output : ℕ) (w : List ℕ) → Announces s id size output w
    → (shard_of (turned s (minishard_of s.spec id)).spec id ≡ (turned s (minishard_of s.spec id)).shard)
    × (minishard_of (turned s (minishard_of s.spec id)).spec id ≡ (turned s (minishard_of s.spec id)).minishard)
announced-place s id size output w h =
    let m = minishard_of s.spec id in
    let q = turns s w m in (
      ap (λ (x : Sharding). shard_of x id) q.spec ∙ foreign-ours s id h.usual.permitted h.ours ∙ sym q.shard,
      ap (λ (x : Sharding). minishard_of x id) q.spec ∙ sym (turned-there s m),
    )

pub announced-sane : (s : Intake) (id size output : ℕ) (w : List ℕ) → Announces s id size output w → id < 2 ^ 64
    → sane (announced s id size) (paste (16 * count_in s (minishard_of s.spec id)) (pair id size) w) ≡ true
announced-sane s id size output w h l =
    let m = minishard_of s.spec id in
    let t = turned s m in
    let q = turns s w m in
    let pl₁ = announced-place s id size output w h in
    let a = announced s id size in
    let sn = (unusable-parts s w h.usable).0 in
    let f = sane-parts s w sn in
    let w₁ = paste (16 * count_in s m) (pair id size) w in
    let ou = q.output in
    let wa = q.waiting in
    let pl = q.place in
    let tc : t.count ≡ count_in s m = turned-count s m in
    let il : index_length_of t.spec ≡ index_length_of s.spec = ap index_length_of q.spec in
    let n : t.count + 1 ≡ 0 → ⊥ = λ z. omega arith in
    let c : t.count + 1 - 1 ≡ count_in s m = omega arith in
    let b = q.begun (not-below s id h.order) sn in
    let room = h.room in
    let sl : 16 * count_in s m + 16 ≤ length w = omega (arith, h.slot, h.usual.waits) in
    let i : id_held w₁ (t.count + 1 - 1) ≡ id = rw c (pair-id (16 * count_in s m) id size w sl l) in
    let z : size_held w₁ (t.count + 1 - 1) ≡ size = rw c (pair_size (16 * count_in s m) id size w sl (omega arith)) in
    sane-made a w₁
    (record {
      volume = ap not_volume q.spec ∙ f.volume;
      numbered = ap (λ (x : Sharding). no_such_shard x t.shard) q.spec ∙ ap (no_such_shard s.spec) q.shard ∙ f.numbered;
      held = omega (arith, h.slot);
      room = omega (arith, h.paid);
      either =
          rw (ne_eqb (t.count + 1) 0 n)
          (going-made a w₁
          pl₁.0 pl₁.1
          (omega (arith, count-below s w id sn h.order))
          (record { ordered = b.ordered; behind = b.behind })
          (record { id = i; owed = omega arith; came = omega (arith, b.ordered); only = first-spans t (q.starts sn) z }));
    })

-- ---- and pairs that calls could have left

announceable-made : (s : Intake) (w : List ℕ) → every (follows s w) s.count ≡ true → s.begin + sum_to (size_held w) s.count ≡ s.next + s.owed
    → announceable s w ≡ true
unfolding announceable
announceable-made s w a b = rw (a, eq-eqb _ _ b)

-- none wait
none-announceable : (s : Intake) (w : List ℕ) → s.count ≡ 0 → s.begin ≡ s.next → s.owed ≡ 0 → announceable s w ≡ true
none-announceable s w c b z =
    announceable-made s w (ap (every (follows s w)) c ∙ every-none (follows s w))
    (omega (arith, ap (sum_to (size_held w)) c, sum-none (size_held w)))

pub opened-announceable : (spec : Sharding) (shard output waiting : ℕ) (w : List ℕ) → announceable (opened spec shard output waiting) w ≡ true
opened-announceable spec shard output waiting w = none-announceable (opened spec shard output waiting) w refl refl refl

-- the same ids wait, for the same shard and minishard
turns-alike : (s t : Intake) (v w : List ℕ) → ((x : ℕ) → belongs t x ≡ belongs s x) → (n : ℕ) → ((i : ℕ) → i < n → id_held v i ≡ id_held w i)
    → every (follows t v) n ≡ every (follows s w) n
unfolding every follows
turns-alike s t v w b zero h = refl
turns-alike s t v w b (suc n) h =
    rw (turns-alike s t v w b n (λ i l. h i (omega arith)), h n (omega arith), h (n - 1) (omega arith), b (id_held w n))

pub taken-announceable : (s : Intake) (n : ℕ) (w : List ℕ) → n ≤ s.owed → announceable s w ≡ true → announceable (taken s n) w ≡ true
unfolding belongs
taken-announceable s n w l e =
    let p = announceable-parts s w e in
    announceable-made (taken s n) w (turns-alike s (taken s n) w w same s.count (λ i h. refl) ∙ p.0) (omega (arith, p.1))
  where
    same : (x : ℕ) → belongs (taken s n) x ≡ belongs s x
    same x = refl

turned-announceable : (s : Intake) (m : ℕ) (w : List ℕ) → s.owed ≡ 0 → announceable s w ≡ true → announceable (turned s m) w ≡ true
unfolding turned
turned-announceable s m w z q = go (eqb m s.minishard) refl
  where
    go : (b : Bool) → eqb m s.minishard ≡ b → announceable (turned s m) w ≡ true
    go true e = rw e q
    go false e = rw e (none-announceable _ w refl refl z)

belongs-made : (s : Intake) (id : ℕ) → shard_of s.spec id ≡ s.shard → minishard_of s.spec id ≡ s.minishard → belongs s id ≡ true
unfolding belongs
belongs-made s id a b = rw (eq-eqb _ _ a, eq-eqb _ _ b)

-- one pair more
module _ (t : Intake) (id size : ℕ) (w : List ℕ) (l : 16 * t.count + 16 ≤ length w) where
  abbrev more : List ℕ
  more = paste (16 * t.count) (pair id size) w

  belongs-kept : (x : ℕ) → belongs (noted t id size) x ≡ belongs t x
  unfolding belongs
  belongs-kept x = refl

  id-kept : (i : ℕ) → i < t.count → id_held more i ≡ id_held w i
  id-kept i h = pair-before (16 * t.count) id size w l (16 * i) (omega arith)

  sizes-kept : (n : ℕ) → n ≤ t.count → sum_to (size_held more) n ≡ sum_to (size_held w) n
  unfolding sum_to
  sizes-kept zero h = refl
  sizes-kept (suc n) h = rw (sizes-kept n (omega arith), pair-before (16 * t.count) id size w l (16 * n + 8) (omega arith))

  last-follows : belongs t id ≡ true → (0 < t.count → id_held w (t.count - 1) < id) → id < 2 ^ 64 → follows (noted t id size) more t.count ≡ true
  unfolding follows
  last-follows b r i = rw (pair-id (16 * t.count) id size w l i, belongs-kept id, b) (go (eqb t.count 0) refl)
    where
      go : (c : Bool) → eqb t.count 0 ≡ c → c || ltb (id_held more (t.count - 1)) id ≡ true
      go true e = refl
      go false e =
          let n = positive t.count (eqb-false t.count 0 e) in
          lt-ltb (id_held more (t.count - 1)) id (omega (arith, id-kept (t.count - 1) (omega arith), r n))

  noted-announceable : announceable t w ≡ true → t.owed ≡ 0 → belongs t id ≡ true → (0 < t.count → id_held w (t.count - 1) < id) → id < 2 ^ 64 → size < 2 ^ 64
      → announceable (noted t id size) more ≡ true
  noted-announceable q z b r i j =
      let p = announceable-parts t w q in
      announceable-made (noted t id size) more
      (every_more (follows (noted t id size) more) t.count (turns-alike t (noted t id size) more w belongs-kept t.count id-kept ∙ p.0) (sym (last-follows b r i)) refl)
      (omega (arith, p.1, sum_step (size_held more) t.count, sizes-kept t.count (omega arith), pair_size (16 * t.count) id size w l j))

-- the last pair has the last id
either-last : (s : Intake) (w : List ℕ) (b : Bool) → pick b (fresh s) (going s w) ≡ true → eqb s.count 0 ≡ b → 0 < s.count → id_held w (s.count - 1) ≡ s.last
either-last s w true e f l = absurd (omega (arith, eqb-true s.count 0 f))
either-last s w false e f l = (waits-parts s w (going-parts s w e).waits).id

-- an id in order is above it
above-last : (s : Intake) (w : List ℕ) (id : ℕ) → sane s w ≡ true → out_of_order s id ≡ false
    → 0 < (turned s (minishard_of s.spec id)).count → id_held w ((turned s (minishard_of s.spec id)).count - 1) < id
unfolding turned out_of_order
above-last s w id h o =
    go (eqb (minishard_of s.spec id) s.minishard) refl (neither (ltb (minishard_of s.spec id) s.minishard) _ o).1
  where
    go : (b : Bool) → eqb (minishard_of s.spec id) s.minishard ≡ b → (b && (ltb 0 s.count && leb id s.last)) ≡ false
        → 0 < (turned s (minishard_of s.spec id)).count → id_held w ((turned s (minishard_of s.spec id)).count - 1) < id
    go true e f =
        rw e (λ l. let k = either-last s w (eqb s.count 0) (sane-parts s w h).either refl l in omega (arith, leb-false id s.last (rw (lt-ltb 0 s.count l) at f)))
    go false e f = rw e (λ l. absurd (omega arith))

pub announced-announceable : (s : Intake) (id size output : ℕ) (w : List ℕ) → Announces s id size output w → id < 2 ^ 64 → announceable s w ≡ true
    → announceable (announced s id size) (paste (16 * count_in s (minishard_of s.spec id)) (pair id size) w) ≡ true
announced-announceable s id size output w h l q =
    let m = minishard_of s.spec id in
    let t = turned s m in
    let tc : t.count ≡ count_in s m = turned-count s m in
    let pl = announced-place s id size output w h in
    rw (← tc)
    (noted-announceable t id size w (omega (arith, h.slot, h.usual.waits)) (turned-announceable s m w h.paid q) ((turns s w m).owed ∙ h.paid)
    (belongs-made t id pl.0 pl.1) (above-last s w id (unusable-parts s w h.usable).0 h.order) l (omega (arith, h.room)))
