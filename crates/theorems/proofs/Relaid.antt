-- Every sound manifest is laid out as source 001 says: the layout that is read from its items gives its bytes back.
use Prim.Native.Nat.{ℕ, zero, suc, ◌+◌, ◌-◌, ◌*◌, ◌^◌, ◌≤◌, ◌<◌}
use mathlib.Core.Path.{◌≡◌, refl, sym, ap, ◌∙◌}
use mathlib.Core.List.{List, [], ◌∷◌, ◌++◌, map, flat_map, map-append}
use native.Mathlib.Omega.{arith}
use native.Mathlib.Nat.{zero-add}
use lib.ListN.{length, get_or, drop, take-append-drop, drop_of_length-le}
use lib.Seq.{drop-drop}
use Rattle.endian.specs.Little.{row32}
use Rattle.endian.specs.Range.{sum_to}
use Rattle.endian.proofs.Little.{le-le_at, le_at-bound}
use Rattle.endian.proofs.Ranges.{sum_grows}
use Rattle.mesh_manifest.specs.layout.Layout.{manifest_item, levels_of, count_of, level_item, field_count}
use Rattle.std.specs.Prelude.{Ok}
use Rattle.refusal.proofs.Passed.{passed-none}
use Rattle.mesh_manifest.specs.sound.Verdict.{manifest_checks, manifest_verdict, manifest_answer}
use Rattle.mesh_manifest.proofs.sound.Judged.{unrefused}
use Rattle.mesh_manifest.proofs.Fields.{field-count}
use Rattle.theorems.specs.Manifests.{float32, uint32, number_of, Axes, axes, Fragment, Level, Manifest, level_entries, entries_of, bytes_of}
use Rattle.theorems.specs.Published.{Laid}

pub verdict : (s : List ℕ) → manifest_answer s ≡ Ok tt → manifest_verdict s ≡ 0
unfolding manifest_answer manifest_verdict
verdict s e = passed-none (manifest_verdict s) (sym e)

module _ (s : List ℕ) where
  -- ---- the layout read from the items

  abbrev it : ℕ → ℕ
  it i = manifest_item s i

  abbrev axes_at : ℕ → Axes
  axes_at i = record { x = it i; y = it (suc i); z = it (suc (suc i)) }

  -- fragment i of n, whose items begin at `first`
  abbrev fragment_at : ℕ → ℕ → ℕ → Fragment
  fragment_at first n i = record { x = it (first + i); y = it (first + n + i); z = it (first + 2 * n + i); size = it (first + 3 * n + i) }

  fragments_from : ℕ → ℕ → ℕ → ℕ → List Fragment
  fragments_from first n i zero = []
  fragments_from first n i (suc k) = fragment_at first n i ∷ fragments_from first n (suc i) k

  abbrev level_at : ℕ → Level
  level_at l = record { scale = it (7 + l); offset = axes_at (7 + levels_of s + 3 * l); fragments = fragments_from (level_item s l) (count_of s l) 0 (count_of s l) }

  levels_from : ℕ → ℕ → List Level
  levels_from l zero = []
  levels_from l (suc k) = level_at l ∷ levels_from (suc l) k

  abbrev layout : Manifest
  layout = record { shape = axes_at 0; origin = axes_at 3; levels = levels_from 0 (levels_of s) }

  -- ---- k items from item i on

  items_from : ℕ → ℕ → List ℕ
  items_from i zero = []
  items_from i (suc k) = it i ∷ items_from (suc i) k

  items_at_lem : (k : ℕ) {i j : ℕ} → i ≡ j → items_from i k ≡ items_from j k
  items_at_lem k e = ap (λ (i : ℕ). items_from i k) e

  items_both : (i j k : ℕ) → items_from i j ++ items_from (i + j) k ≡ items_from i (j + k)
  unfolding items_from
  items_both i zero k = let a : i + 0 ≡ i = omega arith in let b : 0 + k ≡ k = omega arith in rw (a, b)
  items_both i (suc j) k = let a : i + suc j ≡ suc i + j = omega arith in let b : suc j + k ≡ suc (j + k) = omega arith in rw (a, b) (ap (λ (x : List ℕ). it i ∷ x) (items_both (suc i) j k))

  -- a run of items behind another
  next : (i j k p : ℕ) {xs ys : List ℕ} → xs ≡ items_from i j → ys ≡ items_from p k → p ≡ i + j → xs ++ ys ≡ items_from i (j + k)
  next i j k p e f g = rw (e, f, g) (items_both i j k)

  -- ---- the numbers of the layout are the items

  module _ (first n : ℕ) where
    one-row : (g : Fragment → ℕ) (p : ℕ) → ((i : ℕ) → g (fragment_at first n i) ≡ it (p + i)) → (i k : ℕ) → map number_of (map (λ f. uint32 (g f)) (fragments_from first n i k)) ≡ items_from (p + i) k
    unfolding items_from fragments_from
    one-row g p e i zero = refl
    one-row g p e i (suc k) = let a : suc (p + i) ≡ p + suc i = omega arith in rw (e i, a, one-row g p e (suc i) k)

    long : (i k : ℕ) → length (fragments_from first n i k) ≡ k
    unfolding fragments_from
    long i zero = refl
    long i (suc k) = ap suc (long (suc i) k)

    row_at : (g : Fragment → ℕ) (p : ℕ) → ((i : ℕ) → g (fragment_at first n i) ≡ it (p + i)) → (k : ℕ) → map number_of (map (λ f. uint32 (g f)) (fragments_from first n 0 k)) ≡ items_from p k
    row_at g p e k = one-row g p e 0 k ∙ items_at_lem k (omega arith)

  level_items : (l : ℕ) → map number_of (level_entries (level_at l)) ≡ items_from (level_item s l) (4 * count_of s l)
  unfolding level_entries
  level_items l =
      let first = level_item s l in
      let n = count_of s l in
      simp map-append
      (next first n (n + (n + n)) (first + n) (row_at first n (λ f. f.x) first (λ i. refl) n)
      (next (first + n) n (n + n) (first + 2 * n) (row_at first n (λ f. f.y) (first + n) (λ i. refl) n)
      (next (first + 2 * n) n n (first + 3 * n) (row_at first n (λ f. f.z) (first + 2 * n) (λ i. refl) n)
      (row_at first n (λ f. f.size) (first + 3 * n) (λ i. refl) n) (omega arith))
      (omega arith))
      refl
      ∙ ap (items_from first) (omega arith))

  level-next : (l : ℕ) → level_item s (suc l) ≡ level_item s l + 4 * count_of s l
  level-next l = let e : sum_to (count_of s) (suc l) ≡ sum_to (count_of s) l + count_of s l = unfold sum_to in refl in omega arith

  scale_items : (l k : ℕ) → map number_of (map (λ l. float32 l.scale) (levels_from l k)) ≡ items_from (7 + l) k
  unfolding items_from levels_from
  scale_items l zero = refl
  scale_items l (suc k) = let a : suc (7 + l) ≡ 7 + suc l = omega arith in rw (a, scale_items (suc l) k)

  offset_items : (l k : ℕ) → map number_of (flat_map (λ l. axes l.offset) (levels_from l k)) ≡ items_from (7 + levels_of s + 3 * l) (3 * k)
  unfolding items_from levels_from flat_map
  offset_items l zero = refl
  offset_items l (suc k) =
      let a : 3 * suc k ≡ suc (suc (suc (3 * k))) = omega arith in
      let b : suc (suc (suc (7 + levels_of s + 3 * l))) ≡ 7 + levels_of s + 3 * suc l = omega arith in
      rw (a, b, offset_items (suc l) k)

  count_items : (l k : ℕ) → map number_of (map (λ l. uint32 (length l.fragments)) (levels_from l k)) ≡ items_from (7 + 4 * levels_of s + l) k
  unfolding items_from levels_from count_of
  count_items l zero = refl
  count_items l (suc k) =
      let a : suc (7 + 4 * levels_of s + l) ≡ 7 + 4 * levels_of s + suc l = omega arith in
      rw (a, count_items (suc l) k, long (level_item s l) (count_of s l) 0 (count_of s l))

  node_items : (l k n : ℕ) → level_item s l + n ≡ level_item s (l + k) → map number_of (flat_map level_entries (levels_from l k)) ≡ items_from (level_item s l) n
  unfolding levels_from flat_map
  node_items l zero n e = let a : level_item s (l + 0) ≡ level_item s l = ap (level_item s) (omega arith) in let b : n ≡ 0 = omega arith in rw b (unfold items_from in refl)
  node_items l (suc k) n e =
      let c = count_of s l in
      let a : level_item s (l + suc k) ≡ level_item s (suc l + k) = ap (level_item s) (omega arith) in
      let b : level_item s (suc l) ≤ level_item s (suc l + k) = grows (suc l) k in
      let d : n ≡ 4 * c + (n - 4 * c) = omega (arith, level-next l) in
      map-append number_of (level_entries (level_at l)) (flat_map level_entries (levels_from (suc l) k))
      ∙ next (level_item s l) (4 * c) (n - 4 * c) (level_item s (suc l)) (level_items l) (node_items (suc l) k (n - 4 * c) (omega (arith, level-next l))) (level-next l)
      ∙ ap (items_from (level_item s l)) (sym d)
    where
      grows : (l k : ℕ) → level_item s l ≤ level_item s (l + k)
      grows l k = let g = sum_grows (count_of s) l (l + k) (omega arith) in omega arith

  long-levels : (l k : ℕ) → length (levels_from l k) ≡ k
  unfolding levels_from
  long-levels l zero = refl
  long-levels l (suc k) = ap suc (long-levels (suc l) k)

  -- how many items follow the first seven
  abbrev behind : ℕ
  behind = levels_of s + (3 * levels_of s + (levels_of s + 4 * sum_to (count_of s) (levels_of s)))

  abbrev ls : List Level
  ls = levels_from 0 (levels_of s)

  after-seven : map number_of (map (λ l. float32 l.scale) ls ++ (flat_map (λ l. axes l.offset) ls ++ (map (λ l. uint32 (length l.fragments)) ls ++ flat_map level_entries ls))) ≡ items_from 7 behind
  after-seven =
      let L = levels_of s in
      let n = 4 * sum_to (count_of s) L in
      let z : sum_to (count_of s) 0 ≡ 0 = unfold sum_to in refl in
      let d : map number_of (flat_map level_entries ls) ≡ items_from (level_item s 0) n = node_items 0 L n (omega (arith, ap (level_item s) (zero-add L))) in
      let c = next (7 + 4 * L + 0) L n (level_item s 0) (count_items 0 L) d (omega arith) in
      let b = next (7 + L + 3 * 0) (3 * L) (L + n) (7 + 4 * L + 0) (offset_items 0 L) c (omega arith) in
      simp map-append (next 7 L (3 * L + (L + n)) (7 + L + 3 * 0) (scale_items 0 L) b (omega arith))

  items_are : map number_of (entries_of layout) ≡ items_from 0 (field_count s)
  unfolding entries_of items_from
  items_are =
      let f : field_count s ≡ suc (suc (suc (suc (suc (suc (suc behind)))))) = omega arith in
      rw (f, after-seven, long-levels 0 (levels_of s))

  -- ---- the bytes are given back

  module _ (bytes : (i : ℕ) → get_or s i 0 < 256) where
    items_fit : (k i j : ℕ) → get_or (items_from i k) j 0 < 2 ^ 32
    unfolding items_from manifest_item
    items_fit zero i j = omega arith
    items_fit (suc k) i zero = le_at-bound 4 s (4 * i) bytes
    items_fit (suc k) i (suc j) = items_fit k (suc i) j

    items_bytes : (k i : ℕ) → 4 * i + 4 * k ≡ length s → row32 (items_from i k) ≡ drop (4 * i) s
    unfolding items_from row32 manifest_item
    items_bytes zero i e = sym (drop_of_length-le s {i = 4 * i} (omega arith))
    items_bytes (suc k) i e =
        let n : 4 * suc i ≡ 4 * i + 4 = omega arith in
        let a : drop (4 * suc i) s ≡ drop 4 (drop (4 * i) s) = ap (λ (n : ℕ). drop n s) n ∙ sym (drop-drop 4 (4 * i) s) in
        rw (le-le_at 4 s (4 * i) bytes (omega arith), items_bytes k (suc i) (omega arith), a) (take-append-drop 4 (drop (4 * i) s))

    pub relaid : manifest_answer s ≡ Ok tt → (m : Manifest) × Laid m × (bytes_of m ≡ s)
    unfolding bytes_of
    relaid e =
        let back : bytes_of layout ≡ s = ap row32 items_are ∙ items_bytes (field_count s) 0 (omega (arith, field-count s (verdict s e))) in
        (layout, record { fits = record { each = λ i. rw items_are (items_fit (field_count s) 0 i) }; sound = rw back e }, back)
