-- A manifest that is laid out as source 001 lists its parts is read as it was laid out: each item by its place, then header, fields, nodes and corners.
use Prim.Native.Nat.{ℕ, zero, suc, ◌+◌, ◌-◌, ◌*◌, ◌^◌, ◌≤◌, ◌<◌}
use mathlib.Core.Path.{◌≡◌, refl, sym, ap, ◌∙◌}
use mathlib.Core.Bool.{Bool, true, false}
use mathlib.Core.List.{List, [], ◌∷◌, ◌++◌, map, flat_map, append-nil, append_assoc, map-append}
use native.Mathlib.Omega.{arith}
use native.Mathlib.Nat.{not-suc-le-zero}
use native.Mathlib.Decide.{dec_lt}
use borrow.Author.Tests.{lt-ltb, le-ltb, le-leb}
use lib.Dec.{ltb}
use lib.Ieee.{binary32, of_bits}
use lib.ListN.{length, get_or, length-append, length-map, get_or-eq_default, get_or-map}
use lib.Seq.{drop_at, get_or-append-add}
use Rattle.refusal.specs.Choice.{pick}
use Rattle.endian.specs.Little.{le, le_at, row32}
use Rattle.endian.specs.Range.{sum_to}
use Rattle.endian.proofs.Little.{le_at-drop, le_at-le, length-le}
use Rattle.mesh_manifest.specs.layout.Layout.{manifest_item, levels_of, is_real_of, count_of, nodes_before, level_item, size_at}
use Rattle.mesh_manifest.specs.fragment_sums.Sums.{level_bytes}
use Rattle.mesh_manifest.specs.layout.Bits.{real_at}
use Rattle.mesh_manifest.specs.sound.Verdict.{manifest_verdict}
use Rattle.mesh_manifest.specs.Fields.{header_at, header_answer, field_at, field_answer}
use Rattle.mesh_manifest.specs.declared.Header.{Header}
use Rattle.std.specs.Prelude.{Ok}
use Rattle.refusal.specs.Answers.{refuse}
use Rattle.mesh_manifest.specs.declared.Field.TheVariants as F
use Rattle.mesh_manifest.specs.nodes.Nodes.{has_node, fragment_start, node_at, node_answer}
use Rattle.mesh_manifest.specs.declared.nodes.Node.{Node}
use Rattle.mesh_manifest.specs.reals.Reals.{near_of, far_of}
use Rattle.mesh_manifest.specs.corners.Boxes.{near_corner, far_corner, box_of, corners_checks, corners_answer}
use Rattle.mesh_manifest.specs.declared.corners.Corners.{Corners}
use Rattle.mesh_manifest.proofs.sound.Judged.{unrefused}
use Rattle.mesh_manifest.proofs.Asked.{header_read, header-given, field-none, field-given}
use Rattle.mesh_manifest.proofs.nodes.Asked.{node-read, node-given}
use Rattle.theorems.specs.Manifests.{Entry, float32, uint32, number_of, field_of, axes, Fragment, Level, Manifest, level_entries, entries_of, bytes_of, Fits, total, sizes_of, field_said}
use Rattle.theorems.specs.Published.{real, near_end, far_end, corner, Stands}

-- ---- numbers of four bytes, read back

le_at-nil : (k p : ℕ) → le_at k [] p ≡ 0
unfolding le_at
le_at-nil zero p = refl
le_at-nil (suc k) p = rw (le_at-nil k (suc p)) (omega arith)

read-row : (ns : List ℕ) → ((i : ℕ) → get_or ns i 0 < 2 ^ 32) → (i : ℕ) → le_at 4 (row32 ns) (4 * i) ≡ get_or ns i 0
unfolding row32
read-row [] f i = le_at-nil 4 (4 * i)
read-row (n ∷ ns) f zero = ap (le_at 4 (le 4 n ++ row32 ns)) (omega arith) ∙ le_at-le 4 n (row32 ns) (f 0)
read-row (n ∷ ns) f (suc i) =
    ap (le_at 4 (le 4 n ++ row32 ns)) (omega arith) ∙ sym (le_at-drop 4 (le 4 n ++ row32 ns) 4 (4 * i))
    ∙ rw (drop_at (le 4 n) (row32 ns) 4 (length-le 4 n)) (read-row ns (λ j. f (suc j)) i)

pub length-row32 : (ns : List ℕ) → length (row32 ns) ≡ 4 * length ns
unfolding row32
length-row32 [] = refl
length-row32 (n ∷ ns) = rw (length-append (le 4 n) (row32 ns), length-le 4 n, length-row32 ns) (omega arith)

-- ---- places in lists

-- an item past the end is none of the manifest's: it counts as 0
abbrev missing : Entry
missing = uint32 0

past : (a b : List Entry) (k n j : ℕ) → length a ≡ n → j ≡ n + k → get_or (a ++ b) j missing ≡ get_or b k missing
past a b k n j e f = let g : j ≡ length a + k = omega arith in ap (λ (j : ℕ). get_or (a ++ b) j missing) g ∙ get_or-append-add a b k missing

-- the numbers of entries of one kind
numbers : {A : Type 0} (f : A → Entry) (xs : List A) (rest : List Entry) (j : ℕ) → j < length xs → number_of (get_or (map f xs ++ rest) j missing) ≡ get_or (map (λ x. number_of (f x)) xs) j 0
numbers f [] rest j h = absurd (not-suc-le-zero h)
numbers f (x ∷ xs) rest zero h = refl
numbers f (x ∷ xs) rest (suc j) h = numbers f xs rest j (omega arith)

front : {A : Type 0} (f : A → ℕ) (xs ys : List A) (j : ℕ) → j < length xs → get_or (map f (xs ++ ys)) j 0 ≡ get_or (map f xs) j 0
front f [] ys j h = absurd (not-suc-le-zero h)
front f (x ∷ xs) ys zero h = refl
front f (x ∷ xs) ys (suc j) h = front f xs ys j (omega arith)

middle : {A : Type 0} (f : A → ℕ) (xs : List A) (y : A) (ys : List A) → get_or (map f (xs ++ (y ∷ ys))) (length xs) 0 ≡ f y
middle f [] y ys = refl
middle f (x ∷ xs) y ys = middle f xs y ys

-- sums over a list, and over its places
total-both : (xs ys : List ℕ) → total (xs ++ ys) ≡ total xs + total ys
total-both [] ys = omega arith
total-both (x ∷ xs) ys = omega (arith, total-both xs ys)

sum-from : (f : ℕ → ℕ) (i : ℕ) (xs : List ℕ) → ((j : ℕ) → j < length xs → f (i + j) ≡ get_or xs j 0) → sum_to f (i + length xs) ≡ sum_to f i + total xs
sum-from f i [] h = let e : sum_to f (i + 0) ≡ sum_to f i = ap (sum_to f) (omega arith) in omega arith
sum-from f i (x ∷ xs) h =
    let r = sum-from f (suc i) xs (λ j l. ap f (omega arith) ∙ h (suc j) (omega arith)) in
    let e : sum_to f (suc i) ≡ sum_to f i + f i = unfold sum_to in refl in
    let a : f i ≡ x = ap f (omega arith) ∙ h 0 (omega arith) in
    let g : sum_to f (i + suc (length xs)) ≡ sum_to f (suc i + length xs) = ap (sum_to f) (omega arith) in
    omega arith

sum-list : (f : ℕ → ℕ) (xs : List ℕ) → ((j : ℕ) → j < length xs → f j ≡ get_or xs j 0) → sum_to f (length xs) ≡ total xs
sum-list f xs h =
    let r = sum-from f 0 xs (λ j l. ap f (omega arith) ∙ h j l) in
    let e : sum_to f 0 ≡ 0 = unfold sum_to in refl in
    let g : sum_to f (length xs) ≡ sum_to f (0 + length xs) = ap (sum_to f) (omega arith) in
    omega arith

-- ---- the items of a manifest

abbrev counts : List Level → List ℕ
counts ls = map (λ l. length l.fragments) ls

length_offsets : (ls : List Level) → length (flat_map (λ l. axes l.offset) ls) ≡ 3 * length ls
unfolding flat_map
length_offsets [] = refl
length_offsets (l ∷ ls) = omega (arith, length_offsets ls)

length-level : (l : Level) → length (level_entries l) ≡ 4 * length l.fragments
unfolding level_entries
length-level l = simp (length-append, length-map) (omega arith)

length-nodes : (ls : List Level) → length (flat_map level_entries ls) ≡ 4 * total (counts ls)
unfolding flat_map
length-nodes [] = refl
length-nodes (l ∷ ls) = rw (length-append (level_entries l) (flat_map level_entries ls)) (omega (arith, length-level l, length-nodes ls))

flat_both : (xs ys : List Level) → flat_map level_entries (xs ++ ys) ≡ flat_map level_entries xs ++ flat_map level_entries ys
unfolding flat_map
flat_both [] ys = refl
flat_both (x ∷ xs) ys = rw (flat_both xs ys) (sym (append_assoc (level_entries x) (flat_map level_entries xs) (flat_map level_entries ys)))

-- ---- which items are reals

is_float : Entry → Bool
is_float (float32 n) = true
is_float (uint32 n) = false

Wholes : List Entry → Type 0
Wholes [] = Unit {0}
Wholes (x ∷ xs) = (is_float x ≡ false) × Wholes xs

wholes_at : (xs : List Entry) → Wholes xs → (j : ℕ) → is_float (get_or xs j missing) ≡ false
unfolding Wholes is_float
wholes_at [] w j = refl
wholes_at (x ∷ xs) w zero = w.0
wholes_at (x ∷ xs) w (suc j) = wholes_at xs w.1 j

wholes_both : (xs ys : List Entry) → Wholes xs → Wholes ys → Wholes (xs ++ ys)
unfolding Wholes
wholes_both [] ys a b = b
wholes_both (x ∷ xs) ys a b = (a.0, wholes_both xs ys a.1 b)

wholes_map : {A : Type 0} (f : A → ℕ) (xs : List A) → Wholes (map (λ x. uint32 (f x)) xs)
unfolding Wholes is_float
wholes_map f [] = tt
wholes_map f (x ∷ xs) = (refl, wholes_map f xs)

wholes_level : (l : Level) → Wholes (level_entries l)
unfolding level_entries
wholes_level l =
    wholes_both _ _ (wholes_map (λ f. f.x) l.fragments)
    (wholes_both _ _ (wholes_map (λ f. f.y) l.fragments) (wholes_both _ _ (wholes_map (λ f. f.z) l.fragments) (wholes_map (λ f. f.size) l.fragments)))

wholes_levels : (ls : List Level) → Wholes (flat_map level_entries ls)
unfolding Wholes flat_map
wholes_levels [] = tt
wholes_levels (l ∷ ls) = wholes_both (level_entries l) (flat_map level_entries ls) (wholes_level l) (wholes_levels ls)

floats_scales : (ls : List Level) (rest : List Entry) (j : ℕ) → j < length ls → is_float (get_or (map (λ l. float32 l.scale) ls ++ rest) j missing) ≡ true
unfolding is_float
floats_scales [] rest j h = absurd (not-suc-le-zero h)
floats_scales (l ∷ ls) rest zero h = refl
floats_scales (l ∷ ls) rest (suc j) h = floats_scales ls rest j (omega arith)

floats_offsets : (ls : List Level) (rest : List Entry) (j : ℕ) → j < 3 * length ls → is_float (get_or (flat_map (λ l. axes l.offset) ls ++ rest) j missing) ≡ true
unfolding is_float flat_map
floats_offsets [] rest j h = absurd (omega arith)
floats_offsets (l ∷ ls) rest zero h = refl
floats_offsets (l ∷ ls) rest (suc zero) h = refl
floats_offsets (l ∷ ls) rest (suc (suc zero)) h = refl
floats_offsets (l ∷ ls) rest (suc (suc (suc j))) h = floats_offsets ls rest j (omega arith)

field_by_kind : (x : Entry) → field_of x ≡ pick (is_float x) (F.Real (of_bits binary32 (number_of x))) (F.Whole (number_of x))
unfolding is_float
field_by_kind (float32 n) = refl
field_by_kind (uint32 n) = refl

fields_at : (xs : List Entry) (i : ℕ) → i < length xs → get_or (map field_said xs) i (refuse 18) ≡ Ok (field_of (get_or xs i missing))
fields_at [] i h = absurd (not-suc-le-zero h)
fields_at (x ∷ xs) zero h = refl
fields_at (x ∷ xs) (suc i) h = fields_at xs i (omega arith)

module _ (m : Manifest) (fits : Fits m) where
  abbrev s : List ℕ
  s = bytes_of m

  abbrev ls : List Level
  ls = m.levels

  item : (i : ℕ) → manifest_item s i ≡ number_of (get_or (entries_of m) i missing)
  unfolding manifest_item bytes_of
  item i = read-row (map number_of (entries_of m)) fits.each i ∙ get_or-map number_of (entries_of m) i missing

  pub levels_are : levels_of s ≡ length ls
  levels_are = item 6 ∙ (unfold entries_of in refl)

  -- past the first seven items
  abbrev nodes : List Entry
  nodes = flat_map level_entries ls

  after-seven : (k j : ℕ) → j ≡ 7 + 4 * length ls + k → get_or (entries_of m) j missing ≡ get_or (map (λ l. uint32 (length l.fragments)) ls ++ nodes) k missing
  unfolding entries_of
  after-seven k j e =
      let a = map (λ l. float32 l.scale) ls in
      let b = flat_map (λ l. axes l.offset) ls in
      let c = map (λ l. uint32 (length l.fragments)) ls ++ nodes in
      past (axes m.shape ++ (axes m.origin ++ (uint32 (length ls) ∷ []))) (a ++ (b ++ c)) (4 * length ls + k) 7 j refl (omega arith)
      ∙ past a (b ++ c) (3 * length ls + k) (length ls) (4 * length ls + k) (length-map ls _) (omega arith)
      ∙ past b c k (3 * length ls) (3 * length ls + k) (length_offsets ls) refl

  pub count-is : (j : ℕ) → j < length ls → count_of s j ≡ get_or (counts ls) j 0
  unfolding count_of
  count-is j h = item _ ∙ ap number_of (after-seven j (7 + 4 * levels_of s + j) (omega (arith, levels_are))) ∙ numbers (λ l. uint32 (length l.fragments)) ls nodes j h

  module _ (before : List Level) (level : Level) (after : List Level) (e : ls ≡ before ++ (level ∷ after)) where
    long : length ls ≡ length before + suc (length after)
    long = ap length e ∙ length-append before (level ∷ after)

    nodes-before : nodes_before s (length before) ≡ total (counts before)
    nodes-before =
        ap (sum_to (count_of s)) (sym (length-map before _))
        ∙ sum-list (count_of s) (counts before) (λ j h. let g : j < length before = omega (arith, length-map before (λ (l : Level). length l.fragments)) in
        count-is j (omega (arith, long)) ∙ ap (λ (x : List Level). get_or (counts x) j 0) e ∙ front (λ l. length l.fragments) before (level ∷ after) j g)

    pub count_at : count_of s (length before) ≡ length level.fragments
    count_at = count-is (length before) (omega (arith, long)) ∙ ap (λ (x : List Level). get_or (counts x) (length before) 0) e ∙ middle (λ l. length l.fragments) before level after

    -- item k of the level
    in_level : (k : ℕ) → manifest_item s (level_item s (length before) + k) ≡ number_of (get_or (level_entries level ++ flat_map level_entries after) k missing)
    unfolding flat_map
    in_level k =
        let c = map (λ l. uint32 (length l.fragments)) ls in
        item _
        ∙ ap number_of
        (after-seven (length ls + (4 * total (counts before) + k)) (level_item s (length before) + k) (omega (arith, levels_are, nodes-before))
        ∙ past c nodes (4 * total (counts before) + k) (length ls) (length ls + (4 * total (counts before) + k)) (length-map ls _) refl
        ∙ ap (λ (x : List Entry). get_or x (4 * total (counts before) + k) missing) (ap (flat_map level_entries) e ∙ flat_both before (level ∷ after))
        ∙ past (flat_map level_entries before) (level_entries level ++ flat_map level_entries after) k (4 * total (counts before)) (4 * total (counts before) + k) (length-nodes before) refl)

    abbrev fs : List Fragment
    fs = level.fragments

    abbrev rest : List Entry
    rest = flat_map level_entries after

    abbrev xs : List Entry
    xs = map (λ f. uint32 f.x) fs

    abbrev ys : List Entry
    ys = map (λ f. uint32 f.y) fs

    abbrev zs : List Entry
    zs = map (λ f. uint32 f.z) fs

    abbrev ss : List Entry
    ss = map (λ f. uint32 f.size) fs

    rows : level_entries level ++ rest ≡ xs ++ (ys ++ (zs ++ (ss ++ rest)))
    unfolding level_entries
    rows = simp append_assoc

    -- the four rows of the level; n is how many nodes it has
    module _ (j : ℕ) (h : j < length fs) where
      abbrev first : ℕ
      first = level_item s (length before)

      abbrev n : ℕ
      n = count_of s (length before)

      in_rows : (k p : ℕ) → p ≡ first + k → manifest_item s p ≡ number_of (get_or (xs ++ (ys ++ (zs ++ (ss ++ rest)))) k missing)
      in_rows k p q = ap (manifest_item s) q ∙ in_level k ∙ ap (λ (x : List Entry). number_of (get_or x k missing)) rows

      x-at : manifest_item s (first + j) ≡ get_or (map (λ f. f.x) fs) j 0
      x-at = in_rows j (first + j) refl ∙ numbers (λ f. uint32 f.x) fs (ys ++ (zs ++ (ss ++ rest))) j h

      past-x : (k : ℕ) → get_or (xs ++ (ys ++ (zs ++ (ss ++ rest)))) (length fs + k) missing ≡ get_or (ys ++ (zs ++ (ss ++ rest))) k missing
      past-x k = past xs (ys ++ (zs ++ (ss ++ rest))) k (length fs) (length fs + k) (length-map fs _) refl

      past-y : (k : ℕ) → get_or (ys ++ (zs ++ (ss ++ rest))) (length fs + k) missing ≡ get_or (zs ++ (ss ++ rest)) k missing
      past-y k = past ys (zs ++ (ss ++ rest)) k (length fs) (length fs + k) (length-map fs _) refl

      past-z : (k : ℕ) → get_or (zs ++ (ss ++ rest)) (length fs + k) missing ≡ get_or (ss ++ rest) k missing
      past-z k = past zs (ss ++ rest) k (length fs) (length fs + k) (length-map fs _) refl

      y-at : manifest_item s (first + n + j) ≡ get_or (map (λ f. f.y) fs) j 0
      y-at = in_rows (length fs + j) (first + n + j) (omega (arith, count_at)) ∙ ap number_of (past-x j) ∙ numbers (λ f. uint32 f.y) fs (zs ++ (ss ++ rest)) j h

      z-at : manifest_item s (first + 2 * n + j) ≡ get_or (map (λ f. f.z) fs) j 0
      z-at =
          in_rows (length fs + (length fs + j)) (first + 2 * n + j) (omega (arith, count_at)) ∙ ap number_of (past-x (length fs + j) ∙ past-y j)
          ∙ numbers (λ f. uint32 f.z) fs (ss ++ rest) j h

      size-at : size_at s first n j ≡ get_or (map (λ f. f.size) fs) j 0
      unfolding size_at
      size-at =
          in_rows (length fs + (length fs + (length fs + j))) (first + 3 * n + j) (omega (arith, count_at))
          ∙ ap number_of (past-x (length fs + (length fs + j)) ∙ past-y (length fs + j) ∙ past-z j)
          ∙ numbers (λ f. uint32 f.size) fs rest j h

    -- the sizes of the level's first fragments
    sizes-to : (earlier later : List Fragment) → fs ≡ earlier ++ later → sum_to (size_at s (level_item s (length before)) (count_of s (length before))) (length earlier) ≡ sizes_of earlier
    sizes-to earlier later g =
        ap (sum_to (size_at s (level_item s (length before)) (count_of s (length before)))) (sym (length-map earlier _))
        ∙ sum-list _ (map (λ f. f.size) earlier)
        (λ j h. let l : j < length earlier = omega (arith, length-map earlier (λ (f : Fragment). f.size)) in
        size-at j (omega (arith, ap length g, length-append earlier later)) ∙ ap (λ (x : List Fragment). get_or (map (λ f. f.size) x) j 0) g ∙ front (λ f. f.size) earlier later j l)

    level-bytes : level_bytes s (length before) ≡ sizes_of fs
    unfolding level_bytes
    level-bytes = ap (sum_to (size_at s (level_item s (length before)) (count_of s (length before)))) count_at ∙ sizes-to fs [] (sym (append-nil fs))

  -- the sizes of the fragments of whole levels
  abbrev fragments_of : List Level → List Fragment
  fragments_of xs = flat_map (λ level. level.fragments) xs

  sizes-both : (xs ys : List Fragment) → sizes_of (xs ++ ys) ≡ sizes_of xs + sizes_of ys
  sizes-both xs ys = ap total (map-append (λ (f : Fragment). f.size) xs ys) ∙ total-both (map (λ f. f.size) xs) (map (λ f. f.size) ys)

  levels-to : (done before after : List Level) → ls ≡ done ++ (before ++ after) → sum_to (level_bytes s) (length done + length before) ≡ sum_to (level_bytes s) (length done) + sizes_of (fragments_of before)
  unfolding flat_map
  levels-to done [] after e = let g : sum_to (level_bytes s) (length done + 0) ≡ sum_to (level_bytes s) (length done) = ap (sum_to (level_bytes s)) (omega arith) in omega arith
  levels-to done (l ∷ before) after e =
      let a : length (done ++ (l ∷ [])) ≡ suc (length done) = length-append done (l ∷ []) ∙ omega arith in
      let r = levels-to (done ++ (l ∷ [])) before after (e ∙ sym (append_assoc done (l ∷ []) (before ++ after))) in
      let b : sum_to (level_bytes s) (suc (length done)) ≡ sum_to (level_bytes s) (length done) + level_bytes s (length done) = unfold sum_to in refl in
      let c = level-bytes done l (before ++ after) e in
      let f : sum_to (level_bytes s) (length (done ++ (l ∷ []))) ≡ sum_to (level_bytes s) (suc (length done)) = ap (sum_to (level_bytes s)) a in
      let g : sum_to (level_bytes s) (length done + suc (length before)) ≡ sum_to (level_bytes s) (length (done ++ (l ∷ [])) + length before) = ap (sum_to (level_bytes s)) (omega arith) in
      omega (arith, sizes-both l.fragments (fragments_of before))

  -- ---- a node

  module _ (l i start : ℕ) (f : Fragment) (t : Stands m l i f start) where
    abbrev given : Node
    given = record { x = f.x; y = f.y; z = f.z; start = start; size = f.size }

    abbrev e : ls ≡ t.before ++ (t.level ∷ t.after)
    e = t.levels

    abbrev j : ℕ
    j = length t.earlier

    below : j < length t.level.fragments
    below = omega (arith, ap length t.fragments, length-append t.earlier (f ∷ t.later))

    at_middle : (g : Fragment → ℕ) → get_or (map g t.level.fragments) j 0 ≡ g f
    at_middle g = ap (λ (x : List Fragment). get_or (map g x) j 0) t.fragments ∙ middle g t.earlier f t.later

    start_is : start ≡ fragment_start s (length t.before) j
    unfolding fragment_start
    start_is =
        let a = levels-to [] t.before (t.level ∷ t.after) e in
        let b : sum_to (level_bytes s) 0 ≡ 0 = unfold sum_to in refl in
        let c : sum_to (level_bytes s) (length t.before) ≡ sum_to (level_bytes s) (0 + length t.before) = ap (sum_to (level_bytes s)) (omega arith) in
        let d = sizes-to t.before t.level t.after e t.earlier (f ∷ t.later) t.fragments in
        omega (arith, t.starts, sizes-both (fragments_of t.before) t.earlier)

    node_at_lem : given ≡ node_at s (length t.before) j
    unfolding node_at
    node_at_lem =
        ap (λ (k : ℕ). record { x = f.x; y = f.y; z = f.z; start = k; size = f.size }) start_is
        ∙ node-read s (level_item s (length t.before)) (count_of s (length t.before)) j (fragment_start s (length t.before) j)
        (sym (x-at t.before t.level t.after e j below ∙ at_middle (λ f. f.x)))
        (sym (y-at t.before t.level t.after e j below ∙ at_middle (λ f. f.y)))
        (sym (z-at t.before t.level t.after e j below ∙ at_middle (λ f. f.z)))
        (sym (unfold size_at in (size-at t.before t.level t.after e j below ∙ at_middle (λ f. f.size))))

    has : has_node s (length t.before) j ≡ true
    unfolding has_node
    has =
        let a : length t.before < levels_of s = omega (arith, levels_are, long t.before t.level t.after e) in
        let b : j < count_of s (length t.before) = omega (arith, below, count_at t.before t.level t.after e) in
        rw (lt-ltb _ _ a, lt-ltb _ _ b)

    pub node-is : manifest_verdict s ≡ 0 → node_answer s l i ≡ Ok given
    node-is z = rw (t.level_number, t.fragment_number) (sym (node-given s z (length t.before) j refl (rw has) node_at_lem))

  -- ---- the header

  real-at : (i n : ℕ) → number_of (get_or (entries_of m) i missing) ≡ n → of_bits binary32 n ≡ real_at s i
  unfolding real_at
  real-at i n g = ap (of_bits binary32) (sym (item i ∙ g))

  abbrev heading : Header
  heading = record { shape_x = real m.shape.x; shape_y = real m.shape.y; shape_z = real m.shape.z; origin_x = real m.origin.x; origin_y = real m.origin.y; origin_z = real m.origin.z }

  header-at : heading ≡ header_at s
  unfolding entries_of
  header-at = header_read s (real-at 0 _ refl) (real-at 1 _ refl) (real-at 2 _ refl) (real-at 3 _ refl) (real-at 4 _ refl) (real-at 5 _ refl)

  pub header_is : manifest_verdict s ≡ 0 → header_answer s ≡ Ok heading
  header_is z = sym (header-given s z header-at)

  pub corners_are : (l i start : ℕ) (f : Fragment) → Stands m l i f start → (c : Corners) → corners_answer s l i ≡ Ok c → (c.near ≡ corner near_end m l f) × (c.far ≡ corner far_end m l f)
  unfolding corners_answer
  corners_are l i start f t c g =
      let z = unrefused refuse (corners_checks s l i) (Ok (box_of (header_at s) l (node_at s l i))) (λ k p. cc) g in
      let n : given l i start f t ≡ node_at s l i = rw (t.level_number, t.fragment_number) (node_at_lem l i start f t) in
      let w : c ≡ box_of heading l (given l i start f t) = cc (z.1, header-at, n) in
      rw w (unfold box_of near_corner far_corner near_of far_of in (refl, refl))

  -- ---- the fields

  abbrev scales : List Entry
  scales = map (λ l. float32 l.scale) ls

  abbrev offsets : List Entry
  offsets = flat_map (λ l. axes l.offset) ls

  abbrev wholes : List Entry
  wholes = map (λ l. uint32 (length l.fragments)) ls ++ nodes

  kind-after : (k : ℕ) → is_float (get_or (scales ++ (offsets ++ wholes)) k missing) ≡ ltb k (4 * length ls)
  kind-after k = by (dec_lt k (length ls)) (dec_lt k (4 * length ls))
    where
      by : Dec (k < length ls) → Dec (k < 4 * length ls) → is_float (get_or (scales ++ (offsets ++ wholes)) k missing) ≡ ltb k (4 * length ls)
      by (yes p) b = floats_scales ls (offsets ++ wholes) k p ∙ sym (lt-ltb k (4 * length ls) (omega arith))
      by (no f) (yes p) =
          let a : k ≡ length ls + (k - length ls) = omega (arith, f) in
          ap is_float (past scales (offsets ++ wholes) (k - length ls) (length ls) k (length-map ls _) a)
          ∙ floats_offsets ls wholes (k - length ls) (omega (arith, f)) ∙ sym (lt-ltb k (4 * length ls) p)
      by (no f) (no g) =
          let a : k ≡ length ls + (k - length ls) = omega (arith, f) in
          let b : k - length ls ≡ 3 * length ls + (k - 4 * length ls) = omega (arith, g) in
          ap is_float (past scales (offsets ++ wholes) (k - length ls) (length ls) k (length-map ls _) a ∙ past offsets wholes (k - 4 * length ls) (3 * length ls) (k - length ls) (length_offsets ls) b)
          ∙ wholes_at wholes (wholes_both _ nodes (wholes_map (λ l. length l.fragments) ls) (wholes_levels ls)) (k - 4 * length ls)
          ∙ sym (le-ltb k (4 * length ls) (omega (arith, g)))

  kind-is : (i : ℕ) → is_float (get_or (entries_of m) i missing) ≡ is_real_of (length ls) i
  unfolding entries_of is_float is_real_of
  kind-is zero = refl
  kind-is (suc zero) = refl
  kind-is (suc (suc zero)) = refl
  kind-is (suc (suc (suc zero))) = refl
  kind-is (suc (suc (suc (suc zero)))) = refl
  kind-is (suc (suc (suc (suc (suc zero))))) = refl
  kind-is (suc (suc (suc (suc (suc (suc zero)))))) = refl
  kind-is (suc (suc (suc (suc (suc (suc (suc k))))))) =
      let i : ℕ = suc (suc (suc (suc (suc (suc (suc k)))))) in
      let a : ltb i (7 + 4 * length ls) ≡ ltb k (4 * length ls) = by (dec_lt k (4 * length ls)) in
      kind-after k ∙ sym a ∙ rw (le-ltb i 6 (omega arith), le-leb 7 i (omega arith))
    where
      by : Dec (k < 4 * length ls) → ltb (suc (suc (suc (suc (suc (suc (suc k))))))) (7 + 4 * length ls) ≡ ltb k (4 * length ls)
      by (yes p) = lt-ltb (suc (suc (suc (suc (suc (suc (suc k))))))) (7 + 4 * length ls) (omega arith) ∙ sym (lt-ltb k (4 * length ls) p)
      by (no f) = le-ltb (suc (suc (suc (suc (suc (suc (suc k))))))) (7 + 4 * length ls) (omega (arith, f)) ∙ sym (le-ltb k (4 * length ls) (omega (arith, f)))

  field-at : (i : ℕ) → field_of (get_or (entries_of m) i missing) ≡ field_at s i
  unfolding field_at real_at
  field-at i = field_by_kind (get_or (entries_of m) i missing) ∙ rw (item i, levels_are, kind-is i)

  long-bytes : length s ≡ 4 * length (entries_of m)
  unfolding bytes_of
  long-bytes = length-row32 (map number_of (entries_of m)) ∙ ap (λ (n : ℕ). 4 * n) (length-map (entries_of m) number_of)

  pub field_is : manifest_verdict s ≡ 0 → (i : ℕ) → field_answer s i ≡ get_or (map field_said (entries_of m)) i (refuse 18)
  field_is z i = by (dec_lt i (length (entries_of m)))
    where
      by : Dec (i < length (entries_of m)) → field_answer s i ≡ get_or (map field_said (entries_of m)) i (refuse 18)
      by (yes p) = sym (fields_at (entries_of m) i p ∙ field-given s z i (field-at i) (omega (arith, long-bytes)))
      by (no f) =
          let a : length (map field_said (entries_of m)) ≤ i = omega (arith, f, length-map (entries_of m) field_said) in
          sym (get_or-eq_default (map field_said (entries_of m)) (refuse 18) a ∙ field-none s z i (omega (arith, f, long-bytes)))
