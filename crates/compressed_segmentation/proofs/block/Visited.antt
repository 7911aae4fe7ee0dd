-- A header like the one before it, and the places that a walk over the channels notes.
use Prim.Native.Nat.{ℕ, ◌+◌, ◌-◌, ◌*◌, ◌/◌, ◌<◌, ◌≤◌}
use mathlib.Core.Path.{◌≡◌, refl, sym, ap, ◌∙◌}
use mathlib.Core.Bool.{Bool, true, false, ◌&&◌}
use mathlib.Core.List.{List}
use mathlib.Core.Logic.{⊎_elim}
use native.Mathlib.Nat.{eq-or-lt_of_le}
use native.Mathlib.Omega.{arith}
use lib.Dec.{eqb, ltb}
use lib.ListN.{length}
use borrow.Author.Tests.{eqb-true, eq-eqb, ne_eqb, lt-ltb}
use Rattle.refusal.proofs.Tests.{both}
use Rattle.bitmap.specs.visited.Seen.{Seen, Sees, Blank}
use Rattle.compressed_segmentation.specs.Words.{word}
use Rattle.compressed_segmentation.specs.Layout.{width_in}
use Rattle.compressed_segmentation.specs.block.Checks.{repeats_header, ChannelAt}

-- ---- a header like the one before it

module _ (s : List ℕ) (i : ℕ) where
  pub header_flat : {first : ℕ} → first ≡ word s i → first / 16777216 ≡ 0 → false ≡ repeats_header s i
  unfolding repeats_header
  header_flat e z = rw (← e, z)

  module _ {first : ℕ} (e : first ≡ word s i) (z : first / 16777216 ≡ 0 → ⊥) where
    wide : ltb 0 (width_in (word s i)) ≡ true
    wide = rw (← e) (lt-ltb 0 (first / 16777216) (omega (arith, z)))

    pub header-other : {a : ℕ} → a ≡ word s (i - 2) → (a ≡ first → ⊥) → false ≡ repeats_header s i
    unfolding repeats_header
    header-other {a} p n = sym (rw (wide, ← p, ← e, ne_eqb a first n))

    pub header-same : {a b c : ℕ} → a ≡ word s (i - 2) → a ≡ first → b ≡ word s (i - 1) → c ≡ word s (i + 1) → eqb b c ≡ repeats_header s i
    unfolding repeats_header
    header-same {a} {b} {c} p q u v = sym (rw (wide, ← p, ← e, q, eq-eqb first first refl, ← u, ← v))

  module _ {r : Bool} (e : r ≡ repeats_header s i) (t : r ≡ true) where
    words : eqb (word s (i - 2)) (word s i) && eqb (word s (i - 1)) (word s (i + 1)) ≡ true
    unfolding repeats_header
    words = (both (ltb 0 (width_in (word s i))) _ (sym e ∙ t)).1

    pub header-first : word s (i - 2) ≡ word s i
    header-first = eqb-true _ _ (both (eqb (word s (i - 2)) (word s i)) _ words).0

    pub header-second : word s (i - 1) ≡ word s (i + 1)
    header-second = eqb-true _ _ (both (eqb (word s (i - 2)) (word s i)) _ words).1

-- ---- the places noted

-- c channels were looked at
pub record Visiting (s : List ℕ) (c : ℕ) (map : List ℕ) : Type 0 where
  pub only : (o : ℕ) → Seen map o → ChannelAt s c o
  pub all : (j : ℕ) → j < c → word s j < 64 * length map → Seen map (word s j)

channel-more : {s : List ℕ} {c n o : ℕ} → ChannelAt s c o → c ≤ n → ChannelAt s n o
channel-more h l = record { channel = h.channel; below = omega (arith, h.below); here = h.here }

pub visiting_start : (s : List ℕ) {map : List ℕ} → Blank map → Visiting s 0 map
visiting_start s b = record { only = λ o h. absurd (b.none o h); all = λ j l. absurd (omega arith) }

pub visiting_on : {s : List ℕ} {c o : ℕ} {map later : List ℕ} → Visiting s c map → o ≡ word s c → Sees map later o → Visiting s (c + 1) later
visiting_on {s} {c} {o} {map} {later} r e v =
    record {
      only = λ x h.
          ⊎_elim (λ p. channel-more (r.only x p) (omega arith))
          (λ (q : x ≡ o). record { channel = c; below = omega arith; here = q ∙ e }) (v.only x h);
      all = λ j l k. ⊎_elim (λ (q : j ≡ c). last j q k) (λ (b : j < c). v.stays (word s j) (r.all j b (omega (arith, v.same)))) (eq-or-lt_of_le (omega arith));
    }
  where
    last : (j : ℕ) → j ≡ c → word s j < 64 * length later → Seen later (word s j)
    last j q k =
        let w : word s j ≡ o = ap (word s) q ∙ sym e in
        rw w (v.noted (omega (arith, v.same)))
