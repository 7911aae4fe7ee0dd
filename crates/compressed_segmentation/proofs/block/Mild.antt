-- Numbers that are each 0 or 28: those of voxels of blocks whose headers are good.
use Prim.Native.Nat.{ℕ, zero, suc, ◌+◌, ◌-◌, ◌*◌, ◌/◌, ◌<◌, ◌≤◌}
use mathlib.Core.Path.{◌≡◌, refl, sym, ap, ◌∙◌}
use mathlib.Core.Bool.{Bool, true, false, ◌&&◌}
use mathlib.Core.List.{List}
use mathlib.Core.Logic.{◌⊎◌, ⊎_elim, inl, inr}
use native.Mathlib.Omega.{arith}
use lib.Dec.{eqb}
use borrow.Author.Tests.{eqb-true}
use Rattle.refusal.proofs.Tests.{both}
use Rattle.morton.specs.declared.grid.Extents.{Extents}
use Rattle.compressed_segmentation.specs.declared.Shape.{Shape}
use Rattle.refusal.specs.Answers.{Answer}
use Rattle.compressed_segmentation.specs.Words.{word, whole}
use Rattle.compressed_segmentation.specs.Layout.{no_voxels, width_in, table_in}
use Rattle.compressed_segmentation.specs.Labels.{label_words, value_in}
use Rattle.compressed_segmentation.specs.Steps.{entry_answer, value_answer}
use Rattle.compressed_segmentation.specs.block.Voxels.{refusal_in}
use Rattle.compressed_segmentation.specs.block.Checks.{greatest, block_count, inside_of, place_refusal, row_refusal, layer_refusal, voxels_refusal, block_refusal, channel_refusal, blocks_refusal}
use Rattle.bitmap.specs.visited.Seen.{Seen, Sees, Blank}
use Rattle.compressed_segmentation.proofs.packed_values.Entries.{no_bits}
use Rattle.compressed_segmentation.proofs.block.Inside.{inside-x, inside-y, inside-z}
use Rattle.compressed_segmentation.proofs.block.Greatest.{le-greatest, greatest-at, greatest_flat, greatest-is, greatest-all, greatest-none, greatest_still}

abbrev pub Mild : ℕ → Type 0
Mild k = (k ≡ 0) ⊎ (k ≡ 28)

pub greatest_mild : (f : ℕ → ℕ) → ((i : ℕ) → Mild (f i)) → (n : ℕ) → Mild (greatest f n)
unfolding greatest
greatest_mild f g zero = inl refl
greatest_mild f g (suc n) =
    ⊎_elim
    (λ p. ⊎_elim (λ q. inl (omega arith)) (λ q. inr (omega arith)) (g n))
    (λ p. ⊎_elim (λ q. inr (omega arith)) (λ q. inr (omega arith)) (g n))
    (greatest_mild f g n)

pub mild_hit : (f : ℕ → ℕ) → ((i : ℕ) → Mild (f i)) → (n i : ℕ) {r : ℕ} → i < n → r ≡ f i → 0 < r → r ≡ greatest f n
mild_hit f g n i h e k = e ∙ greatest-is f n i h (λ j l. at j)
  where
    at : (j : ℕ) → f j ≤ f i
    at j =
        ⊎_elim
        (λ p. absurd (omega arith))
        (λ p. ⊎_elim (λ q. omega arith) (λ q. omega arith) (g j))
        (g i)

entry_mild : (s : List ℕ) (e t v : ℕ) → Mild (refusal_in (entry_answer s e t v))
unfolding entry_answer
entry_mild s e t v = go (whole s (t + e * v) e) refl
  where
    go : (b : Bool) → whole s (t + e * v) e ≡ b → Mild (refusal_in (entry_answer s e t v))
    go true q = inl (rw q)
    go false q = inr (rw q)

pub value_mild : (s : List ℕ) (e o first second m : ℕ) → Mild (refusal_in (value_answer s e o first second m))
unfolding value_answer
value_mild s e o first second m = go (eqb (width_in first) 0) refl (whole s (o + second + m * width_in first / 32) 1) refl
  where
    go : (b : Bool) → eqb (width_in first) 0 ≡ b → (d : Bool) → whole s (o + second + m * width_in first / 32) 1 ≡ d → Mild (refusal_in (value_answer s e o first second m))
    go true q d p = rw q (entry_mild s e (o + table_in first) 0)
    go false q true p = rw (q, p) (entry_mild s e (o + table_in first) (value_in s (o + second + m * width_in first / 32) (width_in first) m))
    go false q false p = rw (q, p) (inr refl)

module _ (s : List ℕ) (e o first second : ℕ) (b inside : Extents) where
  place_mild : (w v u : ℕ) → Mild (place_refusal s e o first second b w v u)
  unfolding place_refusal
  place_mild w v u = value_mild s e o first second _

  row_mild : (w v : ℕ) → Mild (row_refusal s e o first second b inside w v)
  unfolding row_refusal
  row_mild w v = greatest_mild _ (place_mild w v) _

  layer_mild : (w : ℕ) → Mild (layer_refusal s e o first second b inside w)
  unfolding layer_refusal
  layer_mild w = greatest_mild _ (row_mild w) _

  pub voxels_mild : Mild (voxels_refusal s e o first second b inside)
  unfolding voxels_refusal
  voxels_mild = greatest_mild _ layer_mild _

  pub row_hit : (w v u : ℕ) {k : ℕ} → u < inside.x → k ≡ place_refusal s e o first second b w v u → 0 < k → k ≡ row_refusal s e o first second b inside w v
  unfolding row_refusal
  row_hit w v u h q l = mild_hit _ (place_mild w v) _ u h q l

  pub layer_hit : (w v : ℕ) {k : ℕ} → v < inside.y → k ≡ row_refusal s e o first second b inside w v → 0 < k → k ≡ layer_refusal s e o first second b inside w
  unfolding layer_refusal
  layer_hit w v h q l = mild_hit _ (row_mild w) _ v h q l

  pub voxels_hit : (w : ℕ) {k : ℕ} → w < inside.z → k ≡ layer_refusal s e o first second b inside w → 0 < k → k ≡ voxels_refusal s e o first second b inside
  unfolding voxels_refusal
  voxels_hit w h q l = mild_hit _ layer_mild _ w h q l

  pub layer_all : (w v : ℕ) → 0 ≡ greatest (row_refusal s e o first second b inside w) v → v ≤ inside.y → inside.y ≤ v → 0 ≡ layer_refusal s e o first second b inside w
  unfolding layer_refusal
  layer_all w v q h l = greatest-all _ _ v q h l

  pub voxels-all : (w : ℕ) → 0 ≡ greatest (layer_refusal s e o first second b inside) w → w ≤ inside.z → inside.z ≤ w → 0 ≡ voxels_refusal s e o first second b inside
  unfolding voxels_refusal
  voxels-all w q h l = greatest-all _ _ w q h l

  -- each is at most the greatest, and a greatest above 0 is one of them
  pub place-row : (w v u : ℕ) → u < inside.x → place_refusal s e o first second b w v u ≤ row_refusal s e o first second b inside w v
  unfolding row_refusal
  place-row w v u h = le-greatest _ _ u h

  pub row_layer : (w v : ℕ) → v < inside.y → row_refusal s e o first second b inside w v ≤ layer_refusal s e o first second b inside w
  unfolding layer_refusal
  row_layer w v h = le-greatest _ _ v h

  pub layer_voxels : (w : ℕ) → w < inside.z → layer_refusal s e o first second b inside w ≤ voxels_refusal s e o first second b inside
  unfolding voxels_refusal
  layer_voxels w h = le-greatest _ _ w h

  pub voxels-at : 0 < voxels_refusal s e o first second b inside → (w : ℕ) × (w < inside.z) × (layer_refusal s e o first second b inside w ≡ voxels_refusal s e o first second b inside)
  unfolding voxels_refusal
  voxels-at l = greatest-at _ _ l

  pub layer_at : (w : ℕ) → 0 < layer_refusal s e o first second b inside w → (v : ℕ) × (v < inside.y) × (row_refusal s e o first second b inside w v ≡ layer_refusal s e o first second b inside w)
  unfolding layer_refusal
  layer_at w l = greatest-at _ _ l

  pub row_at : (w v : ℕ) → 0 < row_refusal s e o first second b inside w v → (u : ℕ) × (u < inside.x) × (place_refusal s e o first second b w v u ≡ row_refusal s e o first second b inside w v)
  unfolding row_refusal
  row_at w v l = greatest-at _ _ l

module _ (s : List ℕ) (sh : Shape) where
  pub block-channel : (c n : ℕ) → n < block_count sh → block_refusal s sh (word s c) n ≤ channel_refusal s sh c
  unfolding channel_refusal
  block-channel c n h = le-greatest _ _ n h

  pub channel_blocks : (c : ℕ) → c < sh.channels → channel_refusal s sh c ≤ blocks_refusal s sh
  unfolding blocks_refusal
  channel_blocks c h = le-greatest _ _ c h

  pub channel-found : (c : ℕ) → 0 < channel_refusal s sh c → (n : ℕ) × (n < block_count sh) × (block_refusal s sh (word s c) n ≡ channel_refusal s sh c)
  unfolding channel_refusal
  channel-found c l = greatest-at _ _ l

  pub blocks_found : 0 < blocks_refusal s sh → (c : ℕ) × (c < sh.channels) × (channel_refusal s sh c ≡ blocks_refusal s sh)
  unfolding blocks_refusal
  blocks_found l = greatest-at _ _ l

pub block_mild : (s : List ℕ) (sh : Shape) (o n : ℕ) → Mild (block_refusal s sh o n)
unfolding block_refusal
block_mild s sh o n = voxels_mild s _ o _ _ _ _

pub blocks_hit : (s : List ℕ) (sh : Shape) (o count n : ℕ) {k : ℕ} → n < count → k ≡ block_refusal s sh o n → 0 < k → k ≡ greatest (block_refusal s sh o) count
blocks_hit s sh o count n h q l = mild_hit _ (block_mild s sh o) count n h q l

pub channel_mild : (s : List ℕ) (sh : Shape) (c : ℕ) → Mild (channel_refusal s sh c)
unfolding channel_refusal
channel_mild s sh c = greatest_mild _ (block_mild s sh (word s c)) _

-- ---- a block like the one before it

pub same-extents : (a b : Extents) → eqb a.x b.x && (eqb a.y b.y && eqb a.z b.z) ≡ true → a ≡ b
same-extents a b e =
    let p = both (eqb a.x b.x) _ e in
    let q = both (eqb a.y b.y) _ p.1 in
    λ i. record { x = eqb-true a.x b.x p.0 i; y = eqb-true a.y b.y q.0 i; z = eqb-true a.z b.z q.1 i }

module _ (s : List ℕ) (sh : Shape) (o n : ℕ) (some : 0 < n) where
  pub block_like : {a b : Extents} → word s (o + 2 * n - 2) ≡ word s (o + 2 * n) → word s (o + 2 * n - 1) ≡ word s (o + 2 * n + 1)
      → a ≡ inside_of sh (n - 1) → b ≡ inside_of sh n → a ≡ b → block_refusal s sh o (n - 1) ≡ block_refusal s sh o n
  unfolding block_refusal
  block_like p q ae be e =
      let f : word s (o + 2 * (n - 1)) ≡ word s (o + 2 * n) = ap (word s) (omega arith) ∙ p in
      let g : word s (o + 2 * (n - 1) + 1) ≡ word s (o + 2 * n + 1) = ap (word s) (omega arith) ∙ q in
      let h : inside_of sh (n - 1) ≡ inside_of sh n = sym ae ∙ e ∙ be in
      rw (f, g, h)

  pub block_none : 0 ≡ greatest (block_refusal s sh o) n → block_refusal s sh o (n - 1) ≡ block_refusal s sh o n → 0 ≡ block_refusal s sh o n
  block_none z e = omega (arith, le-greatest (block_refusal s sh o) n (n - 1) (omega arith))

-- at width 0 all voxels of a block are alike
module _ (s : List ℕ) (sh : Shape) (o n : ℕ) (h : no_voxels sh ≡ false) (l : n < block_count sh) where
  pub block_flat : {first k : ℕ} {a : Answer ℕ} → first ≡ word s (o + 2 * n) → width_in first ≡ 0 → a ≡ entry_answer s (label_words sh.wide) (o + table_in first) 0 → k ≡ refusal_in a → k ≡ block_refusal s sh o n
  unfolding block_refusal voxels_refusal layer_refusal row_refusal place_refusal
  block_flat {first} {k} {a} f z e q =
      let w = label_words sh.wide in
      let at : (m : ℕ) → refusal_in (value_answer s w o (word s (o + 2 * n)) (word s (o + 2 * n + 1)) m) ≡ k =
      λ m. ap refusal_in (sym (no_bits s w o (word s (o + 2 * n)) (word s (o + 2 * n + 1)) m (ap width_in (sym f) ∙ z) (e ∙ ap (λ (x : ℕ). entry_answer s w (o + table_in x) 0) f))) ∙ sym q in
      sym
      (greatest_flat _ _ k (inside-z sh h n l) (λ w.
      greatest_flat _ _ k (inside-y sh h n l) (λ v.
      greatest_flat _ _ k (inside-x sh h n l) (λ u. at _))))

-- ---- the walk over the channels

pub record Passed (s : List ℕ) (sh : Shape) (count c : ℕ) (seen : List ℕ) : Type 0 where
  pub within : c ≤ sh.channels
  pub all : count ≡ block_count sh
  pub none : 0 ≡ greatest (channel_refusal s sh) c
  pub known : (o : ℕ) → Seen seen o → 0 ≡ greatest (block_refusal s sh o) count

pub passed_start : (s : List ℕ) (sh : Shape) (count : ℕ) {seen : List ℕ} → count ≡ block_count sh → Blank seen → Passed s sh count 0 seen
passed_start s sh count e b = record { within = omega arith; all = e; none = greatest-none _; known = λ o h. absurd (b.none o h) }

module _ {s : List ℕ} {sh : Shape} {count c : ℕ} {seen : List ℕ} (r : Passed s sh count c seen) where
  pub passed_count : count ≡ block_count sh
  passed_count = r.all

  pub passed_known : {o : ℕ} → Seen seen o → 0 ≡ greatest (block_refusal s sh o) count
  passed_known {o} h = r.known o h

  pub passed_end : sh.channels ≤ c → 0 ≡ blocks_refusal s sh
  unfolding blocks_refusal
  passed_end h = greatest-all _ _ c r.none r.within h

  module _ (h : c < sh.channels) {o k : ℕ} (oe : o ≡ word s c) (e : k ≡ greatest (block_refusal s sh o) count) where
    here : k ≡ channel_refusal s sh c
    unfolding channel_refusal
    here = e ∙ ap (λ (x : ℕ). greatest (block_refusal s sh x) count) oe ∙ ap (greatest (block_refusal s sh (word s c))) r.all

    pub passed_hit : 0 < k → k ≡ blocks_refusal s sh
    unfolding blocks_refusal
    passed_hit l = mild_hit _ (channel_mild s sh) sh.channels c h here l

    pub passed_on : k ≤ 0 → {later : List ℕ} → Sees seen later o → Passed s sh count (c + 1) later
    passed_on l v =
        record {
          within = omega arith;
          all = r.all;
          none = greatest_still _ c r.none here l;
          known = λ x a.
              ⊎_elim (λ p. r.known x p)
              (λ (q : x ≡ o). let z : 0 ≡ greatest (block_refusal s sh o) count = omega arith in z ∙ ap (λ (y : ℕ). greatest (block_refusal s sh y) count) (sym q)) (v.only x a);
        }
