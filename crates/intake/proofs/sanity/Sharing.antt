-- What the code's test of all pairs that wait says: each law has the shape of a need.
use Prim.Native.Nat.{ℕ, ◌+◌, ◌*◌, ◌-◌, ◌^◌, ◌≤◌, ◌<◌}
use mathlib.Core.Path.{◌≡◌, refl, sym, ap, ◌∙◌}
use mathlib.Core.Bool.{Bool, true, false, not, ◌&&◌, and-true, and-false}
use mathlib.Core.List.{List}
use native.Mathlib.Omega.{arith}
use lib.Dec.{ltb, eqb}
use lib.ListN.{length}
use mir.Val.{Fits}
use mir.Syntax.{w64}
use borrow.Author.Rules.{rules}
use borrow.Author.Tests.{eq-eqb, ne_eqb, eqb-true, eqb-false}
use Rattle.endian.specs.Range.{sum_to, every}
use Rattle.endian.proofs.Ranges.{sum-none, sum_step, sum_grows, every-none, every_more, every-fails, every-done}
use Rattle.sharding.specs.Specification.{allowed}
use Rattle.intake.specs.waiting.Held.{id_held, size_held}
use Rattle.intake.specs.declared.state.Intake.{Intake}
use Rattle.intake.specs.state.State.{belongs, sane, follows, announceable}
use Rattle.intake.proofs.state.Passing.{Sane, sane-parts, volume-allowed, open_ordered}

-- ---- one pair

module _ (s : Intake) (w : List ℕ) (i : ℕ) {b : Bool} {id : ℕ} (e : id ≡ id_held w i) (p : b ≡ belongs s id) where
  pub follows-first : i ≡ 0 → b ≡ follows s w i
  unfolding follows
  follows-first z = rw (← e, ← p, eq-eqb i 0 z) (sym (and-true b))

  pub follows_next : (i ≡ 0 → ⊥) → {before : ℕ} → before ≡ id_held w (i - 1) → b && ltb before id ≡ follows s w i
  unfolding follows
  follows_next n q = rw (← e, ← p, ne_eqb i 0 n, q)

-- ---- the loop: pairs below i could have been announced in their turn, and `left` is what is left for those from i on

pub record Shares (s : Intake) (w : List ℕ) (i left : ℕ) : Type 0 where
  pub within : i ≤ s.count
  pub turns : every (follows s w) i ≡ true
  pub shared : s.begin + sum_to (size_held w) i + left ≡ s.next + s.owed

module _ (s : Intake) (w : List ℕ) (q : sane s w ≡ true) where
  passed : Sane s w
  passed = sane-parts s w q

  pub shares-permitted : allowed s.spec ≡ true
  shares-permitted = volume-allowed s.spec passed.volume

  pub shares_sum : Fits w64 (s.next + s.owed)
  shares_sum = record { fits = omega (arith, passed.room) }

  pub shares-begun : s.begin ≤ s.next + s.owed
  shares-begun = omega (arith, open_ordered s w (eqb s.count 0) passed.either)

  pub shares-first : Shares s w 0 (s.next + s.owed - s.begin)
  shares-first = record {
    within = omega arith;
    turns = every-none (follows s w);
    shared = omega (arith, shares-begun, sum-none (size_held w));
  }

  -- a pair below the count is in the buffer
  module _ (i : ℕ) (l : i < s.count) (e : s.waiting ≡ length w) where
    pub shares-held : 16 * i + 16 ≤ length w
    shares-held = omega (arith, passed.held)

    pub shares-size : 16 * i + 8 + 8 ≤ length w
    shares-size = omega (arith, passed.held)

    module _ (k : length w < 2 ^ 64) where
      pub shares-times : Fits w64 (16 * i)
      shares-times = record { fits = omega (arith, passed.held) }

      pub shares_plus : Fits w64 (16 * i + 8)
      shares_plus = record { fits = omega (arith, passed.held) }

module _ {s : Intake} {w : List ℕ} {i left : ℕ} (h : Shares s w i left) where
  pub shares-next : i < s.count → {r : Bool} → r ≡ follows s w i → not r ≡ false → {size : ℕ} → size ≡ size_held w i → size ≤ left → Shares s w (i + 1) (left - size)
  shares-next l p t e k = record {
    within = omega arith;
    turns = every_more (follows s w) i h.turns p t;
    shared = omega (arith, h.shared, sum_step (size_held w) i);
  }

  pub shares_out_of_turn : i < s.count → {r : Bool} → r ≡ follows s w i → not r ≡ true → false ≡ announceable s w
  unfolding announceable
  shares_out_of_turn l p t = rw (← every-fails (follows s w) s.count i p t l)

  pub shares_too_long : i < s.count → {size : ℕ} → size ≡ size_held w i → left < size → false ≡ announceable s w
  unfolding announceable
  shares_too_long l e k =
      let g = sum_grows (size_held w) (i + 1) s.count (omega arith) in
      let n : s.begin + sum_to (size_held w) s.count ≡ s.next + s.owed → ⊥ = λ z. omega (arith, h.shared, sum_step (size_held w) i) in
      rw (ne_eqb _ _ n) (sym (and-false (every (follows s w) s.count)))

  pub shares-done : s.count ≤ i → eqb left 0 ≡ announceable s w
  unfolding announceable
  shares-done l =
      let e : i ≡ s.count = omega (arith, h.within) in
      let u : sum_to (size_held w) i ≡ sum_to (size_held w) s.count = ap (sum_to (size_held w)) e in
      rw (← every-done (follows s w) s.count i h.turns h.within l) (go (eqb left 0) refl u)
    where
      go : (b : Bool) → eqb left 0 ≡ b → sum_to (size_held w) i ≡ sum_to (size_held w) s.count → eqb left 0 ≡ eqb (s.begin + sum_to (size_held w) s.count) (s.next + s.owed)
      go true t u = t ∙ sym (eq-eqb (s.begin + sum_to (size_held w) s.count) (s.next + s.owed) (omega (arith, h.shared, eqb-true left 0 t)))
      go false t u = let d = eqb-false left 0 t in t ∙ sym (ne_eqb (s.begin + sum_to (size_held w) s.count) (s.next + s.owed) (λ z. d (omega (arith, h.shared))))

pub ruleset sharing = (
  follows-first,
  follows_next,
  shares-permitted,
  shares_sum,
  shares-begun,
  shares-first,
  shares-held,
  shares-size,
  shares-times,
  shares_plus,
  shares-next,
  shares_out_of_turn,
  shares_too_long,
  shares-done,
  rules,
)
