-- Noting the ranges of a shard in a window of its data.
use Rattle.std.proofs.Common.{◌≡◌, ℕ, ◌+◌, ◌-◌, ◌*◌, ◌/◌, ◌%◌, ◌^◌, ◌<◌, ◌≤◌, min, Bool, true, false, ◌||◌, ltb, leb, ◌⊎◌, List, length, take, drop, sym, refl, ap, ◌∙◌, inl, inr, ⊎_elim, arith, rules, ltb-false, leb-false, leb-true}
use Rattle.bitmap.specs.Positions.{within, after, misses}
use Rattle.bitmap.specs.window.Window.{span, noted, Notes, Clear}
use Rattle.bitmap.proofs.Within.{same_test, within-yes, within-before, within-past, within-from, within-to, within-empty}
use Rattle.bitmap.proofs.Counts.{misses-le, misses-same, misses-after}
use Rattle.bitmap.proofs.window.Windows.{notes_none, notes_as, notes_then}
use Rattle.sharding.specs.declared.Sharding.{Sharding}
use Rattle.sharding.specs.Specification.{minishard_count_of}
use Rattle.shard.specs.index.Index.{entry_start_of, entry_end_of, most_shard_bytes}
use Rattle.shard.specs.Items.{lead_length_of, MayLead}
use Rattle.unlisted.specs.ranges.Covered.{in_items, in_minishard, covered_in, covered_at}
use Rattle.unlisted.specs.windows.Windows.{Limit, Meets}
use Rattle.unlisted.proofs.stretches.Covering.{items_none, none_read, some_read, covered_none, covered_next, each_ranged}

after_then : (lo : ℕ) (f g h : ℕ → Bool) → ((p : ℕ) → f p || g p ≡ h p) → (i : ℕ) → after lo f i || after lo g i ≡ after lo h i
unfolding after
after_then lo f g h e i = e (lo + i)

after_as : (lo : ℕ) (f g : ℕ → Bool) → ((p : ℕ) → f p ≡ g p) → (i : ℕ) → after lo f i ≡ after lo g i
unfolding after
after_as lo f g e i = e (lo + i)

after_none : (lo : ℕ) (f : ℕ → Bool) → ((p : ℕ) → f p ≡ false) → (i : ℕ) → after lo f i ≡ false
unfolding after
after_none lo f e i = e (lo + i)

-- ---- a range, cut at the window's ends

module _ (lo a b x y z : ℕ) (ex : x ≡ a - lo) (ez : z ≡ b - lo) (ey : y ≡ min z span) where
  clipped : (i : ℕ) → i < span → within x y i ≡ after lo (within a b) i
  unfolding after
  clipped i l =
      same_test _ _
      (λ e. within-yes a b (lo + i) (omega (arith, within-from x y i e)) (omega (arith, within-to x y i e)))
      (λ e. within-yes x y i (omega (arith, within-from a b (lo + i) e)) (omega (arith, within-to a b (lo + i) e)))

  pub window_some : {old new : List ℕ} → Notes old new (within x y) → Notes old new (after lo (within a b))
  window_some m = notes_as m clipped

  pub window_none : y ≤ x → (ws : List ℕ) → Notes ws ws (after lo (within a b))
  window_none h ws = notes_none ws (λ i l. sym (clipped i l) ∙ within-empty x y i h)

-- ---- an item

-- where no lead is long, one that starts past the window lies past it
pub limit_none : {spec : Sharding} {b : Bool} (lo : ℕ) → MayLead spec b → b ≡ false → lo ≤ most_shard_bytes → Limit spec lo (lo + span)
limit_none lo m e h =
    record { above = omega arith; near = omega arith; far = λ body start l k. omega (arith, m.none e body) }

-- where one may be, none starts past the limit
pub limit_far : (spec : Sharding) (lo : ℕ) → lo ≤ most_shard_bytes → Limit spec lo (most_shard_bytes + 1)
limit_far spec lo h = record { above = omega arith; near = omega arith; far = λ body start l k. absurd (omega arith) }

pub meets-told : (lo limit start size : ℕ) {w : ℕ} → lo < limit → limit ≤ 2147483648 → start + size ≤ most_shard_bytes
    → w < 2 ^ 64 → (w + (lo + 1)) % 2 ^ 64 ≡ start + size → Meets lo limit start size (ltb w (limit - (lo + 1) + size))
meets-told lo limit start size {w} a b c f e = record { apart = λ q. by (ltb-false w (limit - (lo + 1) + size) q) (leb (start + size) lo) refl }
  where
    by : limit - (lo + 1) + size ≤ w → (t : Bool) → leb (start + size) lo ≡ t → (start + size ≤ lo) ⊎ (limit ≤ start)
    by h true k = inl (leb-true (start + size) lo k)
    by h false k = inr (omega (arith, leb-false (start + size) lo k))

-- an item that does not meet the window
pub item-apart : {spec : Sharding} {lo limit start size : ℕ} {b : Bool} (d ws : List ℕ) → Limit spec lo limit → Meets lo limit start size b → b ≡ false
    → start + size ≤ length d → length d ≤ most_shard_bytes
    → Notes ws ws (after lo (within (start - lead_length_of spec (take size (drop start d))) (start + size)))
unfolding after
item-apart {spec} {lo} {limit} {start} {size} d ws m n e h l =
    ⊎_elim
    (λ q. notes_none ws (λ i k. within-past (start - lead_length_of spec (take size (drop start d))) (start + size) (lo + i) (omega arith)))
    (λ q. notes_none ws (λ i k. within-before (start - lead_length_of spec (take size (drop start d))) (start + size) (lo + i)
    (omega (arith, m.far (take size (drop start d)) start (omega arith) q))))
    (n.apart e)

-- one whose chunk begins before the window is noted from there on, whatever its lead
pub item_early : (spec : Sharding) {lo start : ℕ} (size : ℕ) {p q : List ℕ} (d : List ℕ) → start ≤ lo → Notes p q (after lo (within start (start + size)))
    → Notes p q (after lo (within (start - lead_length_of spec (take size (drop start d))) (start + size)))
unfolding after
item_early spec {lo} {start} size d h m =
    notes_as m
    (λ i l.
    same_test _ _
    (λ e. within-yes (start - lead_length_of spec (take size (drop start d))) (start + size) (lo + i) (omega arith) (within-to start (start + size) (lo + i) e))
    (λ e. within-yes start (start + size) (lo + i) (omega arith) (within-to (start - lead_length_of spec (take size (drop start d))) (start + size) (lo + i) e)))

pub item_late : (spec : Sharding) (lo start size : ℕ) {a : ℕ} {p q : List ℕ} (d : List ℕ) → a ≡ start - lead_length_of spec (take size (drop start d))
    → Notes p q (after lo (within a (start + size)))
    → Notes p q (after lo (within (start - lead_length_of spec (take size (drop start d))) (start + size)))
item_late spec lo start size d e m = rw e at m

-- ---- entries

pub items_first : (ws : List ℕ) (lo : ℕ) (spec : Sharding) (d : List ℕ) (s n : ℕ) → Notes ws ws (after lo (in_items spec d s n 0))
items_first ws lo spec d s n = notes_none ws (λ i l. after_none lo (in_items spec d s n 0) (items_none spec d s n) i)

pub items_next : (spec : Sharding) (d : List ℕ) (s n i a b lo : ℕ) {p q r : List ℕ}
    → ((p : ℕ) → in_items spec d s n i p || within a b p ≡ in_items spec d s n (i + 1) p)
    → Notes p q (after lo (in_items spec d s n i)) → Notes q r (after lo (within a b)) → Notes p r (after lo (in_items spec d s n (i + 1)))
items_next spec d s n i a b lo e x y =
    notes_then x y (λ j k. after_then lo (in_items spec d s n i) (within a b) (in_items spec d s n (i + 1)) e j)

-- ---- a minishard

module _ (spec : Sharding) (index d : List ℕ) (m lo : ℕ) {s e : ℕ} (es : s ≡ entry_start_of index m) (ee : e ≡ entry_end_of index m) where
  pub minishard-none : (ws : List ℕ) → s ≡ e → Notes ws ws (after lo (in_minishard spec d (entry_start_of index m) (entry_end_of index m)))
  minishard-none ws q = notes_none ws (λ i l. after_none lo (in_minishard spec d (entry_start_of index m) (entry_end_of index m)) (λ p. none_read spec index d m p es ee q) i)

  pub minishard-some : {p q r : List ℕ} → Notes p q (after lo (in_items spec d s ((e - s) / 24) ((e - s) / 24))) → Notes q r (after lo (within s e))
      → Notes p r (after lo (in_minishard spec d (entry_start_of index m) (entry_end_of index m)))
  minishard-some x y =
      notes_then x y
      (λ i l. after_then lo (in_items spec d s ((e - s) / 24) ((e - s) / 24)) (within s e) (in_minishard spec d (entry_start_of index m) (entry_end_of index m)) (λ p. some_read spec index d m p es ee) i)

-- ---- the minishards

pub all_first : (ws : List ℕ) (lo : ℕ) (spec : Sharding) (index d : List ℕ) → Notes ws ws (after lo (covered_in spec index d 0))
all_first ws lo spec index d = notes_none ws (λ i l. after_none lo (covered_in spec index d 0) (covered_none spec index d) i)

pub all-next : (spec : Sharding) (index d : List ℕ) (m lo : ℕ) {p q r : List ℕ} → Notes p q (after lo (covered_in spec index d m))
    → Notes q r (after lo (in_minishard spec d (entry_start_of index m) (entry_end_of index m))) → Notes p r (after lo (covered_in spec index d (m + 1)))
all-next spec index d m lo x y =
    notes_then x y
    (λ i l. after_then lo (covered_in spec index d m) (in_minishard spec d (entry_start_of index m) (entry_end_of index m)) (covered_in spec index d (m + 1)) (covered_next spec index d m) i)

pub all-last : (spec : Sharding) (index d : List ℕ) (m lo : ℕ) {n : ℕ} {p q : List ℕ} → Notes p q (after lo (covered_in spec index d m))
    → n ≡ minishard_count_of spec → m ≤ n → n ≤ m
    → Notes p q (after lo (covered_at spec index d))
unfolding covered_at
all-last spec index d m lo x e g h =
    notes_as x (λ i l. after_as lo (covered_in spec index d m) (covered_at spec index d) (λ p. ap (λ (k : ℕ). covered_in spec index d k p) (omega arith)) i)

pub ruleset covering = (all_first, all-next, all-last, each_ranged, rules)

-- ---- counting

pub window_counted : {p q : List ℕ} (f : ℕ → Bool) (lo : ℕ) {w t : ℕ} → Clear p → Notes p q (after lo f) → w ≤ span → t ≡ misses (noted q) w
    → t ≡ misses (after lo f) w
window_counted {p} {q} f lo {w} z m h e =
    e ∙ misses-same (noted q) (after lo f) w (λ i l. m.each i (omega arith) ∙ ap (λ (b : Bool). b || after lo f i) (z.none i))

-- in two halves
after-after : (lo half : ℕ) (f : ℕ → Bool) (i : ℕ) → after half (after lo f) i ≡ after (lo + half) f i
unfolding after
after-after lo half f i = ap f (omega arith)

pub halves_counted : (f : ℕ → Bool) (lo w : ℕ) {a b : ℕ} → span < w → a ≡ misses (after lo f) (span * ((w / span + 1) / 2))
    → b ≡ misses (after (lo + span * ((w / span + 1) / 2)) f) (w - span * ((w / span + 1) / 2)) → a + b ≡ misses (after lo f) w
halves_counted f lo w l ea eb =
    let half = span * ((w / span + 1) / 2) in
    let s = misses-after (after lo f) half (w - half) in
    let t = misses-same (after half (after lo f)) (after (lo + half) f) (w - half) (λ i l. after-after lo half f i) in
    let k : misses (after lo f) w ≡ misses (after lo f) (half + (w - half)) = ap (misses (after lo f)) (omega arith) in
    omega arith

pub counted-most : (f : ℕ → Bool) (lo w : ℕ) {t : ℕ} → t ≡ misses (after lo f) w → t ≤ w
counted-most f lo w e = omega (arith, misses-le (after lo f) w)
