-- All nodes of a level as numbers: how many, the five of each node, and what each turn of their writing leaves.
use Prim.Native.Nat.{ℕ, zero, suc, ◌+◌, ◌*◌, ◌-◌, ◌<◌, ◌≤◌}
use mathlib.Core.Path.{◌≡◌, refl, sym, ap, ◌∙◌}
use mathlib.Core.List.{List, [], ◌∷◌, ◌++◌}
use native.Mathlib.Omega.{arith}
use native.Mathlib.Numerals.{add-one}
use lib.ListN.{length, set, length-set}
use Rattle.endian.specs.Place.{paste}
use Rattle.endian.specs.Range.{sum_to}
use Rattle.endian.proofs.Paste.{paste-nil, paste-cons, paste-on, store, length-paste}
use Rattle.endian.proofs.Ranges.{sum-none, sum_step}
use Rattle.mesh_manifest.specs.layout.Layout.{levels_of, count_of, nodes_before, size_at}
use Rattle.mesh_manifest.specs.fragment_sums.Sums.{level_bytes}
use Rattle.mesh_manifest.specs.nodes.Nodes.{fragment_start, node_in, node_at}
use Rattle.mesh_manifest.specs.declared.nodes.Node.{Node}
use Rattle.mesh_manifest.specs.node_numbers.Numbers.{node_from, numbers_of, numbers_from, nodes_of}

-- five stores
pub stored : (d : List ℕ) (at x y z b n : ℕ) → at + 5 ≤ length d
    → set (set (set (set (set d at x) (at + 1) y) (at + 2) z) (at + 3) b) (at + 4) n ≡ paste at (x ∷ y ∷ z ∷ b ∷ n ∷ []) d
stored d at x y z b n h =
    let d1 = set d at x in
    let d2 = set d1 (at + 1) y in
    let d3 = set d2 (at + 2) z in
    let d4 = set d3 (at + 3) b in
    let l1 : length d1 ≡ length d = length-set d at x in
    let l2 : length d2 ≡ length d1 = length-set d1 (at + 1) y in
    let l3 : length d3 ≡ length d2 = length-set d2 (at + 2) z in
    let l4 : length d4 ≡ length d3 = length-set d3 (at + 3) b in
    let p2 : at + 1 + 1 ≡ at + 2 = omega arith in
    let p3 : at + 2 + 1 ≡ at + 3 = omega arith in
    let p4 : at + 3 + 1 ≡ at + 4 = omega arith in
    store (at + 4) n d4 (omega arith)
    ∙ ap (λ (k : ℕ). paste k (n ∷ []) d4) (sym p4)
    ∙ paste-cons (at + 3) b (n ∷ []) d3 (omega arith)
    ∙ ap (λ (k : ℕ). paste k (b ∷ n ∷ []) d3) (sym p3)
    ∙ paste-cons (at + 2) z (b ∷ n ∷ []) d2 (omega arith)
    ∙ ap (λ (k : ℕ). paste k (z ∷ b ∷ n ∷ []) d2) (sym p2)
    ∙ paste-cons (at + 1) y (z ∷ b ∷ n ∷ []) d1 (omega arith)
    ∙ paste-cons at x (y ∷ z ∷ b ∷ n ∷ []) d (omega arith)

-- ---- five numbers a node

module _ (f : ℕ → Node) where
  pub length-numbers : (i k : ℕ) → length (numbers_from f i k) ≡ 5 * k
  unfolding numbers_from
  length-numbers i zero = refl
  length-numbers i (suc k) = omega (arith, length-numbers (suc i) k)

  -- what is left to write of n nodes, from node i on
  left-some : (i n : ℕ) → i < n → numbers_from f i (n - i) ≡ numbers_of (f i) ++ numbers_from f (i + 1) (n - (i + 1))
  unfolding numbers_from
  left-some i n l =
      let e : n - i ≡ suc (n - (i + 1)) = omega arith in
      rw (e, add-one i)

  left-none : (i n : ℕ) → n ≤ i → numbers_from f i (n - i) ≡ []
  unfolding numbers_from
  left-none i n l = let e : n - i ≡ 0 = omega arith in rw e

  pub listed-first : (n : ℕ) (d : List ℕ) → paste (5 * 0) (numbers_from f 0 (n - 0)) d ≡ paste 0 (numbers_from f 0 n) d
  listed-first n d = let e : n - 0 ≡ n = omega arith in rw e

  -- invariant: pasting what is left into what is there gives the whole
  module _ (n i : ℕ) (d : List ℕ) {e : List ℕ} (v : paste (5 * i) (numbers_from f i (n - i)) d ≡ e) where
    pub listed_next : {d' : List ℕ} {x : Node} → d' ≡ paste (5 * i) (numbers_of x) d → x ≡ f i → i < n → {k : ℕ} → length d ≡ k → 5 * n ≤ k
        → paste (5 * (i + 1)) (numbers_from f (i + 1) (n - (i + 1))) d' ≡ e
    listed_next w q l u k =
        rw (w, q)
        (paste-on (5 * i) (numbers_of (f i)) (numbers_from f (i + 1) (n - (i + 1))) d (5 * (i + 1)) (omega arith) (omega arith)
        ∙ ap (λ (t : List ℕ). paste (5 * i) t d) (sym (left-some i n l))
        ∙ v)

    pub listed-last : n ≤ i → d ≡ e
    listed-last l = sym (paste-nil (5 * i) d) ∙ ap (λ (t : List ℕ). paste (5 * i) t d) (sym (left-none i n l)) ∙ v

-- a turn leaves the length
pub listed-length : (i : ℕ) (x : Node) (d d₀ : List ℕ) {d' : List ℕ} {n : ℕ} → d' ≡ paste (5 * i) (numbers_of x) d → length d ≡ length d₀ → i < n → 5 * n ≤ length d₀ → length d' ≡ length d₀
listed-length i x d d₀ e l k h = ap length e ∙ length-paste (5 * i) (numbers_of x) d (omega arith) ∙ l

-- the node of a turn, and the start of the next; `at` is where node i's fragment starts
module _ (s : List ℕ) (first n start i : ℕ) {at : ℕ} {x : Node} (h : at ≡ start + sum_to (size_at s first n) i) (e : x ≡ node_in s first n i at) where
  pub turn-node : x ≡ node_from s first n start i
  unfolding node_from
  turn-node = e ∙ ap (node_in s first n i) h

  pub turn-start : at + x.size ≡ start + sum_to (size_at s first n) (i + 1)
  turn-start =
      let z : x.size ≡ size_at s first n i = ap (λ (y : Node). y.size) e ∙ unfold node_in in refl in
      omega (arith, sum_step (size_at s first n) i)

  pub turn-numbers : (d d₀ : List ℕ) {d' : List ℕ} → paste (5 * i) (numbers_from (node_from s first n start) i (n - i)) d ≡ paste 0 (numbers_from (node_from s first n start) 0 n) d₀
      → d' ≡ paste (5 * i) (numbers_of x) d → i < n → length d ≡ length d₀ → 5 * n ≤ length d₀
      → paste (5 * (i + 1)) (numbers_from (node_from s first n start) (i + 1) (n - (i + 1))) d' ≡ paste 0 (numbers_from (node_from s first n start) 0 n) d₀
  turn-numbers d d₀ v w l u k = listed_next (node_from s first n start) n i d v w turn-node l u k

pub start_first : (s : List ℕ) (first n start : ℕ) → start ≡ start + sum_to (size_at s first n) 0
start_first s first n start = omega (arith, sum-none (size_at s first n))

-- ---- of a level

pub length-nodes : (s : List ℕ) (l : ℕ) → length (nodes_of s l) ≡ 5 * count_of s l
unfolding nodes_of
length-nodes s l = length-numbers (node_at s l) 0 (count_of s l)

-- the level's first item, node count and first fragment's start as they were read
pub level-numbers : (s : List ℕ) (l : ℕ) {v k n b : ℕ} (d : List ℕ) {d' : List ℕ} → d' ≡ paste 0 (numbers_from (node_from s (7 + 5 * v + 4 * k) n b) 0 n) d
    → v ≡ levels_of s → k ≡ nodes_before s l → n ≡ count_of s l → b ≡ sum_to (level_bytes s) l → d' ≡ paste 0 (nodes_of s l) d
unfolding nodes_of node_at node_from fragment_start
level-numbers s l d w e f g h = rw (e, f, g, h) at w
