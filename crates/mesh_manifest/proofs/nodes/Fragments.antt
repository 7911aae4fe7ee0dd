-- The fragments of a manifest follow one another without gap, from 0 on, in the order of the nodes.
use Prim.Native.Nat.{ℕ, zero, suc, ◌+◌, ◌<◌, ◌≤◌}
use mathlib.Core.Path.{◌≡◌, refl, sym, ap, ◌∙◌}
use mathlib.Core.Bool.{true}
use mathlib.Core.List.{List}
use native.Mathlib.Omega.{arith}
use lib.ListN.{length, take, drop}
use lib.Seq.{take_all, take-add, drop-drop}
use Rattle.refusal.specs.Checks.{first_number, unless}
use Rattle.endian.specs.Range.{sum_to}
use Rattle.endian.proofs.Ranges.{sum-none, sum_step, sum_grows}
use Rattle.mesh_manifest.specs.layout.Layout.{levels_of, count_of, level_item, size_at}
use Rattle.mesh_manifest.specs.fragment_sums.Sums.{level_bytes, fragment_size}
use Rattle.mesh_manifest.specs.nodes.Nodes.{has_node, fragment_start, fragments_length_of, node_in, node_at, node_checks, node_answer}
use Rattle.mesh_manifest.specs.nodes.Run.{fragment_of, of_level, of_levels, all_fragments}
use Rattle.mesh_manifest.specs.declared.nodes.Node.{Node}
use Rattle.std.specs.Prelude.{Ok}
use Rattle.refusal.specs.Answers.{refuse}
use Rattle.mesh_manifest.proofs.nodes.Levels.{has-level, has-index}

module _ (s : List ℕ) where
  pub fragments-begin : fragment_start s 0 0 ≡ 0
  unfolding fragment_start
  fragments-begin = omega (arith, sum-none (level_bytes s), sum-none (size_at s (level_item s 0) (count_of s 0)))

  pub fragments-next : (l i : ℕ) → fragment_start s l (i + 1) ≡ fragment_start s l i + fragment_size s l i
  unfolding fragment_start
  fragments-next l i = omega (arith, sum_step (size_at s (level_item s l) (count_of s l)) i)

  pub fragments-level : (l : ℕ) → fragment_start s (l + 1) 0 ≡ fragment_start s l (count_of s l)
  unfolding fragment_start level_bytes
  fragments-level l = omega (arith, sum_step (level_bytes s) l, sum-none (size_at s (level_item s (l + 1)) (count_of s (l + 1))))

  pub fragments-end : fragment_start s (levels_of s) 0 ≡ fragments_length_of s
  unfolding fragment_start fragments_length_of
  fragments-end = omega (arith, sum-none (size_at s (level_item s (levels_of s)) (count_of s (levels_of s))))

  -- a node's fragment ends where its level's fragments end, or before
  in_its_level : (l i : ℕ) → i < count_of s l → fragment_start s l i + fragment_size s l i ≤ sum_to (level_bytes s) (l + 1)
  unfolding fragment_start level_bytes
  in_its_level l i h =
      let f = size_at s (level_item s l) (count_of s l) in
      omega (arith, sum_step (level_bytes s) l, sum_step f i, sum_grows f (i + 1) (count_of s l) (omega arith))

  -- each fragment lies within the run of all,
  pub fragment-within : (l i : ℕ) → has_node s l i ≡ true → fragment_start s l i + fragment_size s l i ≤ fragments_length_of s
  unfolding fragments_length_of
  fragment-within l i e =
      let h : l < levels_of s = has-level s l i e refl in
      let a = in_its_level l i (has-index s l i e refl) in
      omega (arith, sum_grows (level_bytes s) (l + 1) (levels_of s) (omega arith))

  -- and before those of later nodes: of its level, and of later levels
  pub fragments-apart : (l i j : ℕ) → i < j → fragment_start s l i + fragment_size s l i ≤ fragment_start s l j
  unfolding fragment_start
  fragments-apart l i j h =
      let f = size_at s (level_item s l) (count_of s l) in
      omega (arith, sum_step f i, sum_grows f (i + 1) j (omega arith))

  pub levels-apart : (l i m j : ℕ) → i < count_of s l → l < m → fragment_start s l i + fragment_size s l i ≤ fragment_start s m j
  unfolding fragment_start
  levels-apart l i m j h g =
      let a = in_its_level l i h in
      omega (arith, sum_grows (level_bytes s) (l + 1) m (omega arith))

-- ---- as bytes

module _ (s run : List ℕ) where
  of-level : (l i : ℕ) → of_level s run l i ≡ take (sum_to (size_at s (level_item s l) (count_of s l)) i) (drop (fragment_start s l 0) run)
  unfolding of_level sum_to fragment_of fragment_start
  of-level l zero = refl
  of-level l (suc i) =
      let f = size_at s (level_item s l) (count_of s l) in
      let z : sum_to (level_bytes s) l + 0 ≡ sum_to (level_bytes s) l = omega arith in
      rw (of-level l i, z, take-add (sum_to f i) (f i) (drop (sum_to (level_bytes s) l) run), drop-drop (sum_to f i) (sum_to (level_bytes s) l) run)

  of-levels : (l : ℕ) → of_levels s run l ≡ take (sum_to (level_bytes s) l) run
  unfolding of_levels sum_to level_bytes fragment_start
  of-levels zero = refl
  of-levels (suc l) =
      let z : sum_to (level_bytes s) l + 0 ≡ sum_to (level_bytes s) l = omega arith in
      rw (of-levels l, of-level l (count_of s l), z, take-add (sum_to (level_bytes s) l) (level_bytes s l) run)

  -- one after the other they are the run: no byte of it is left out or stands in two of them
  pub tiles : length run ≡ fragments_length_of s → all_fragments s run ≡ run
  unfolding fragments_length_of
  tiles e = of-levels (levels_of s) ∙ take_all (sum_to (level_bytes s) (levels_of s)) run (omega arith)

-- ---- of the answers

given : (n : ℕ) (x y : Node) → unless refuse n (Ok x) ≡ Ok y → y ≡ x
unfolding unless
given zero x y e = cc
given (suc n) x y e = let z : ◌≡◌ {A = ℕ} 0 1 = cc in absurd (omega arith)

module _ (s : List ℕ) where
  pub node-is : (l i : ℕ) (a : Node) → node_answer s l i ≡ Ok a → a ≡ node_at s l i
  unfolding node_answer
  node-is l i a e = given (first_number (node_checks s l i)) (node_at s l i) a e

  -- the next node's fragment starts where this node's ends: within a level, and from a level's last node to the next level's first
  pub next-starts : (l i : ℕ) (a b : Node) → node_answer s l i ≡ Ok a → node_answer s l (i + 1) ≡ Ok b → b.start ≡ a.start + a.size
  unfolding node_at node_in
  next-starts l i a b e f =
      let p : a ≡ node_at s l i = node-is l i a e in
      let q : b ≡ node_at s l (i + 1) = node-is l (i + 1) b f in
      rw (p, q) (fragments-next s l i)

  pub next-level-starts : (l i : ℕ) (a b : Node) → i + 1 ≡ count_of s l → node_answer s l i ≡ Ok a → node_answer s (l + 1) 0 ≡ Ok b → b.start ≡ a.start + a.size
  unfolding node_at node_in
  next-level-starts l i a b h e f =
      let p : a ≡ node_at s l i = node-is l i a e in
      let q : b ≡ node_at s (l + 1) 0 = node-is (l + 1) 0 b f in
      rw (p, q) (fragments-level s l ∙ ap (fragment_start s l) (sym h) ∙ fragments-next s l i)

  pub first-starts : (a : Node) → node_answer s 0 0 ≡ Ok a → a.start ≡ 0
  unfolding node_at node_in
  first-starts a e = let p : a ≡ node_at s 0 0 = node-is 0 0 a e in rw p (fragments-begin s)
