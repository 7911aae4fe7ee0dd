-- The corners' answers, each by the tests that lead to it; p, q, r are what those tests gave.
use Prim.Native.Nat.{ℕ, ◌^◌, ◌<◌, ◌≤◌}
use mathlib.Core.Path.{◌≡◌, refl, sym, ap, ◌∙◌, subst}
use mathlib.Core.Bool.{Bool, true, false, not, ◌&&◌}
use mathlib.Core.List.{List, [], ◌∷◌, ◌++◌}
use lib.Dec.{T, ltb, ltb→lt}
use lib.Ieee.{Float, is_nan}
use lib.Ieee.Fits.{and_l, and_r}
use borrow.Author.Rules.{rules}
use borrow.Author.Tests.{lt-ltb, le-ltb, not-false}
use Rattle.refusal.specs.Checks.{Check, check, answered}
use Rattle.refusal.proofs.Tests.{both, told-no, told-yes}
use Rattle.refusal.proofs.Picks.{AllIn, all_in_lem, all_in_both}
use Rattle.refusal.proofs.Refusing.{answered-both}
use Rattle.mesh_manifest.specs.sound.Verdict.{manifest_checks, manifest_verdict}
use Rattle.mesh_manifest.specs.Fields.{header_at}
use Rattle.mesh_manifest.specs.nodes.Nodes.{has_node, node_at, node_checks}
use Rattle.mesh_manifest.specs.declared.Header.{Header}
use Rattle.mesh_manifest.specs.declared.nodes.Node.{Node}
use Rattle.mesh_manifest.proofs.sound.Judged.{fails, passes, passed, unrefused, none_both, none-head, in_table, told-sound, refused-first, given-first}
use Rattle.mesh_manifest.proofs.sound.Ways.{never}
use Rattle.mesh_manifest.proofs.nodes.Asked.{told-node, told-level}
use Rattle.mesh_manifest.specs.reals.Reals.{finite, near_of, far_of}
use Rattle.mesh_manifest.specs.corners.Boxes.{placed, finite_corner, near_corner, far_corner, box_of, box_checks, box_answer, corners_checks, corners_answer}
use Rattle.mesh_manifest.specs.declared.corners.Corner.{Corner}
use Rattle.mesh_manifest.specs.declared.corners.Corners.{Corners}
use Rattle.std.specs.Prelude.{Ok, Err}
use Rattle.refusal.specs.Answers.{Answer, refuse}
use Rattle.refusal.specs.declared.Refusal.{Refusal}
use Rattle.refusal.specs.Answers.{judged}
use Rattle.mesh_manifest.proofs.reals.Computed.{finite_number}

module _ (n : Node) where
  pub far-x : 16777216 ≤ n.x → false ≡ placed n
  unfolding placed
  far-x h = rw (le-ltb n.x (2 ^ 24) h)

  pub far-y : 16777216 ≤ n.y → false ≡ placed n
  unfolding placed
  far-y k = rw (le-ltb n.y (2 ^ 24) k) (never (ltb n.x (2 ^ 24)))

  pub near-z : n.x < 16777216 → n.y < 16777216 → ltb n.z 16777216 ≡ placed n
  unfolding placed
  near-z h k = rw (lt-ltb n.x (2 ^ 24) h, lt-ltb n.y (2 ^ 24) k)

  all_placed : placed n ≡ true → (n.x < 2 ^ 24) × (n.y < 2 ^ 24) × (n.z < 2 ^ 24)
  unfolding placed
  all_placed e =
      let x : Bool = ltb n.x (2 ^ 24) in
      let y : Bool = ltb n.y (2 ^ 24) in
      let z : Bool = ltb n.z (2 ^ 24) in
      let t : T (x && (y && z)) = subst T (sym e) tt in
      (ltb→lt n.x (2 ^ 24) (and_l x (y && z) t), ltb→lt n.y (2 ^ 24) (and_l y z (and_r x (y && z) t)), ltb→lt n.z (2 ^ 24) (and_r y z (and_r x (y && z) t)))

  pub placed-x : placed n ≡ true → n.x < 2 ^ 24
  placed-x e = (all_placed e).0

  pub placed-y : placed n ≡ true → n.y < 2 ^ 24
  placed-y e = (all_placed e).1

  pub placed-z : placed n ≡ true → n.z < 2 ^ 24
  placed-z e = (all_placed e).2

  pub told-placed : {p : Bool} → p ≡ placed n → not p ≡ false → placed n ≡ true
  told-placed e t = told-yes e t

module _ (c : Corner) {p : Bool} (e : p ≡ finite c.x) where
  pub infinite_x : not p ≡ true → false ≡ finite_corner c
  unfolding finite_corner
  infinite_x n = rw (told-no e n)

  module _ (k : not p ≡ false) {q : Bool} (f : q ≡ finite c.y) where
    pub infinite_y : not q ≡ true → false ≡ finite_corner c
    unfolding finite_corner
    infinite_y n = rw (told-yes e k, told-no f n)

    pub finite-z : not q ≡ false → {r : Bool} → r ≡ finite c.z → r ≡ finite_corner c
    unfolding finite_corner
    finite-z n g = rw (told-yes e k, told-yes f n) g

-- a corner from its three ends
pub near-made : (h : Header) (l : ℕ) (n : Node) {x y z : Float}
    → x ≡ near_of h.origin_x h.shape_x n.x l → y ≡ near_of h.origin_y h.shape_y n.y l → z ≡ near_of h.origin_z h.shape_z n.z l
    → ◌≡◌ {A = Corner} (record { x = x; y = y; z = z }) (near_corner h l n)
unfolding near_corner
near-made h l n p q r = λ i. record { x = p i; y = q i; z = r i }

pub far-made : (h : Header) (l : ℕ) (c : Corner) {x y z : Float}
    → x ≡ far_of c.x h.shape_x l → y ≡ far_of c.y h.shape_y l → z ≡ far_of c.z h.shape_z l
    → ◌≡◌ {A = Corner} (record { x = x; y = y; z = z }) (far_corner h l c)
unfolding far_corner
far-made h l c p q r = λ i. record { x = p i; y = q i; z = r i }

module _ (h : Header) (l : ℕ) (n : Node) {p : Bool} (e : p ≡ placed n) where
  abbrev given : Answer Corners
  given = Ok (box_of h l n)

  pub box_placed : not p ≡ true → refuse 18 ≡ box_answer h l n
  unfolding box_answer box_checks
  box_placed t = fails refuse given 17 (not (placed n)) _ (ap not (told-no e t))

  module _ (k : not p ≡ false) {x : Corner} (f : x ≡ near_corner h l n) {q : Bool} (g : q ≡ finite_corner x) where
    abbrev near : Bool
    near = not (finite_corner (near_corner h l n))

    pub box_near : not q ≡ true → refuse 18 ≡ box_answer h l n
    unfolding box_answer box_checks
    box_near t =
        let m : finite_corner (near_corner h l n) ≡ false = sym (ap finite_corner f) ∙ told-no g t in
        fails refuse given 17 near _ (ap not m) ∙ passes refuse given 18 (not (placed n)) _ (ap not (told-yes e k))

    module _ (u : not q ≡ false) {y : Corner} (i : y ≡ far_corner h l x) {r : Bool} (j : r ≡ finite_corner y) where
      abbrev far : Bool
      far = not (finite_corner (far_corner h l (near_corner h l n)))

      before : answered refuse (check 18 far ∷ []) given ≡ box_answer h l n
      unfolding box_answer box_checks
      before =
          let m : finite_corner (near_corner h l n) ≡ true = sym (ap finite_corner f) ∙ told-yes g u in
          passes refuse given 18 near _ (ap not m) ∙ passes refuse given 18 (not (placed n)) _ (ap not (told-yes e k))

      pub box_far : not r ≡ true → refuse 18 ≡ box_answer h l n
      box_far t =
          let w : finite_corner (far_corner h l (near_corner h l n)) ≡ false = cc (told-no j t) in
          fails refuse given 17 far [] (ap not w) ∙ before

      pub box_given : not r ≡ false → Ok (record { near = x; far = y }) ≡ box_answer h l n
      unfolding box_of
      box_given t =
          let w : finite_corner (far_corner h l (near_corner h l n)) ≡ true = cc (told-yes j t) in
          let b : Ok (record { near = x; far = y }) ≡ Ok (record { near = near_corner h l n; far = far_corner h l (near_corner h l n) }) = cc in
          b ∙ passed refuse given ∙ passes refuse given 18 far [] (ap not w) ∙ before

node_in_table : (s : List ℕ) (l i : ℕ) → AllIn (node_checks s l i)
unfolding node_checks
node_in_table s l i = all_in_both (manifest_checks s) (check 18 (not (has_node s l i)) ∷ []) (in_table s) (all_in_lem (check 18 (not (has_node s l i)) ∷ []) refl)

-- of a manifest's node: p is whether there is such a node
module _ (s : List ℕ) (l i : ℕ) where
  abbrev boxed : List Check
  boxed = box_checks (header_at s) l (node_at s l i)

  abbrev last : Answer Corners
  last = Ok (box_of (header_at s) l (node_at s l i))

  abbrev own : List Check
  own = check 18 (not (has_node s l i)) ∷ []

  in_turn : answered refuse (manifest_checks s ++ own) (answered refuse boxed last) ≡ corners_answer s l i
  unfolding corners_answer corners_checks node_checks
  in_turn = sym (answered-both refuse (manifest_checks s ++ own) boxed last (node_in_table s l i))

  pub corners-refused : {k : Refusal} → Err k ≡ judged (manifest_verdict s) → Err k ≡ corners_answer s l i
  corners-refused e = refused-first s e Err own (answered refuse boxed last) ∙ in_turn

  module _ (z : manifest_verdict s ≡ 0) {p : Bool} (f : p ≡ has_node s l i) where
    sound : answered refuse own (answered refuse boxed last) ≡ corners_answer s l i
    sound = given-first s z refuse own (answered refuse boxed last) ∙ in_turn

    pub corners-none : not p ≡ true → refuse 18 ≡ corners_answer s l i
    corners-none n = fails refuse (answered refuse boxed last) 17 (not (has_node s l i)) [] (ap not (told-no f n)) ∙ sound

    pub corners-given : not p ≡ false → {h : Header} {x : Node} {r : Answer Corners} → h ≡ header_at s → x ≡ node_at s l i → r ≡ box_answer h l x → r ≡ corners_answer s l i
    unfolding box_answer
    corners-given n {h} {x} {r} g k m =
        let b : r ≡ box_answer (header_at s) l (node_at s l i) = cc in
        b ∙ passed refuse (answered refuse boxed last)
        ∙ passes refuse (answered refuse boxed last) 18 (not (has_node s l i)) [] (ap not (told-yes f n))
        ∙ sound

-- ---- corners that are given are finite

module _ (s : List ℕ) (l i : ℕ) {a : Answer Corners} {c : Corners} (e : a ≡ corners_answer s l i) (g : a ≡ Ok c) where
  finite-both : (finite_corner c.near ≡ true) × (finite_corner c.far ≡ true)
  unfolding corners_answer corners_checks node_checks box_checks box_of
  finite-both =
      let h = header_at s in
      let n = node_at s l i in
      let z = unrefused refuse (corners_checks s l i) (Ok (box_of h l n)) (λ k p. cc) (sym e ∙ g) in
      let b = none_both (node_checks s l i) (box_checks h l n) (node_in_table s l i) z.0 in
      let p = none-head 17 (not (placed n)) _ b.1 in
      let q = none-head 17 (not (finite_corner (near_corner h l n))) _ p.1 in
      let r = none-head 17 (not (finite_corner (far_corner h l (near_corner h l n)))) _ q.1 in
      let w : c ≡ box_of h l n = cc z.1 in
      rw w (not-false _ q.0, not-false _ r.0)

  pub near-finite : finite_corner c.near ≡ true
  near-finite = finite-both.0

  pub far-finite : finite_corner c.far ≡ true
  far-finite = finite-both.1

module _ (c : Corner) (e : finite_corner c ≡ true) where
  each : (finite c.x ≡ true) × (finite c.y ≡ true) × (finite c.z ≡ true)
  unfolding finite_corner
  each =
      let p = both (finite c.x) _ e in
      let q = both (finite c.y) _ p.1 in
      (p.0, q.0, q.1)

  pub number-x : T (not (is_nan c.x))
  number-x = finite_number c.x each.0

  pub number-y : T (not (is_nan c.y))
  number-y = finite_number c.y each.1

  pub number-z : T (not (is_nan c.z))
  number-z = finite_number c.z each.2

pub ruleset boxes = (
  far-x,
  far-y,
  near-z,
  placed-x,
  placed-y,
  placed-z,
  told-placed,
  infinite_x,
  infinite_y,
  finite-z,
  box_placed,
  box_near,
  box_far,
  box_given,
  corners-none,
  corners-given,
  told-sound,
  told-node,
  told-level,
  rules,
)
