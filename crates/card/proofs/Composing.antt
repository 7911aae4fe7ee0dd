-- What the functions that write a card need: how long its parts are, and one part written after another.
use Prim.Native.Nat.{ℕ, ◌+◌, ◌≤◌}
use mathlib.Core.Path.{◌≡◌, refl, sym, ap, ◌∙◌}
use mathlib.Core.Bool.{Bool, true, false, not}
use mathlib.Core.List.{List, [], ◌∷◌, ◌++◌, append_assoc}
use native.Mathlib.Omega.{arith}
use borrow.Author.Rules.{rules}
use borrow.Author.Tests.{not-true, not-false}
use lib.ListN.{length, length-append}
use mir.Syntax.{w32}
use mir.Val.{SFits, to_z, of_z}
use mir.Facts.{to_z-of_z}
use Rattle.endian.specs.Little.{le}
use Rattle.endian.specs.Place.{paste}
use Rattle.endian.proofs.Little.{length-le}
use Rattle.endian.proofs.Paste.{paste-nil, paste-then}
use Rattle.endian.proofs.Buffer.{too_long_lem, kept_whole, how_long, at_front}
use Rattle.morton.specs.declared.grid.Extents.{Extents}
use Rattle.morton.specs.declared.grid.Offset.{Offset}
use Rattle.morton.specs.declared.grid.Volume.{Volume}
use Rattle.sharding.specs.Specification.{mesh, is_mesh, minishard_bits_of, shard_bits_of}
use Rattle.sharding.specs.declared.Sharding.{Sharding}
use Rattle.card.specs.declared.Card.{Card}
use Rattle.card.specs.Layout.{head, field, one_byte, three, sharding_bytes, extents_bytes, offset_tag, offset_bytes, volume_bytes, kind_bytes, card_bytes}
use Rattle.card.specs.fields.Twos.{bits32, no_offset}

-- ---- how long
length-head : (tag n : ℕ) → length (head tag n) ≡ 3
unfolding head le
length-head tag n = refl

length-one : (tag n : ℕ) → length (one_byte tag n) ≡ 4
unfolding one_byte field head le
length-one tag n = refl

length_three : (x y z : ℕ) → length (three x y z) ≡ 12
unfolding three le
length_three x y z = refl

pub length-sharding : (h : Sharding) → length (sharding_bytes h) ≡ 16
unfolding sharding_bytes one_byte field head le
length-sharding h = refl

pub length-extents : (tag : ℕ) (e : Extents) → length (extents_bytes tag e) ≡ 15
unfolding extents_bytes field head three le
length-extents tag e = refl

length_tag : (o : Offset) → length (offset_tag o) ≡ 15
unfolding offset_tag field head three le
length_tag o = refl

pub length-volume : (v : Volume) → length (volume_bytes v) ≡ 30 + length (offset_bytes v.offset)
unfolding volume_bytes
length-volume v =
    rw (length-append (extents_bytes 5 v.size) (extents_bytes 6 v.chunk ++ offset_bytes v.offset), length-append (extents_bytes 6 v.chunk) (offset_bytes v.offset))
    (omega (arith, length-extents 5 v.size, length-extents 6 v.chunk))

pub length-card : (c : Card) → length (card_bytes c) ≡ 46 + length (offset_bytes c.volume.offset) + length (kind_bytes c.sharding)
unfolding card_bytes
length-card c =
    rw (length-append (sharding_bytes c.sharding) (volume_bytes c.volume ++ kind_bytes c.sharding), length-append (volume_bytes c.volume) (kind_bytes c.sharding))
    (omega (arith, length-sharding c.sharding, length-volume c.volume))

-- ---- the offset
module _ (o : Offset) {b : Bool} (e : b ≡ no_offset o) where
  pub absent : b ≡ true → offset_bytes o ≡ []
  unfolding offset_bytes
  absent t = rw (sym e ∙ t)

  pub present : b ≡ false → offset_bytes o ≡ offset_tag o
  unfolding offset_bytes
  present t = rw (sym e ∙ t)

  pub absent-length : b ≡ true → 0 ≡ length (offset_bytes o)
  absent-length t = sym (ap length (absent t))

  pub present_length : b ≡ false → 15 ≡ length (offset_bytes o)
  present_length t = sym (ap length (present t) ∙ length_tag o)

  module _ (at : ℕ) (d : List ℕ) where
    pub present_room : b ≡ false → at + length (offset_bytes o) ≤ length d → at + 15 ≤ length d
    present_room t h = omega (arith, present_length t)

    pub absent-put : b ≡ true → d ≡ paste at (offset_bytes o) d
    absent-put t = sym (ap (λ (l : List ℕ). paste at l d) (absent t) ∙ paste-nil at d)

    pub present_put : b ≡ false → {f : List ℕ} → f ≡ paste at (offset_tag o) d → f ≡ paste at (offset_bytes o) d
    present_put t u = u ∙ ap (λ (l : List ℕ). paste at l d) (sym (present t))

-- ---- the kind
module _ (s : Sharding) {b : Bool} (e : b ≡ is_mesh s) where
  pub volume-none : b ≡ false → kind_bytes s ≡ []
  unfolding kind_bytes
  volume-none t = rw (sym e ∙ t)

  pub mesh_tag : b ≡ true → kind_bytes s ≡ one_byte 8 mesh
  unfolding kind_bytes
  mesh_tag t = rw (sym e ∙ t)

  pub volume-length : b ≡ false → 0 ≡ length (kind_bytes s)
  volume-length t = sym (ap length (volume-none t))

  pub mesh-length : b ≡ true → 4 ≡ length (kind_bytes s)
  mesh-length t = sym (ap length (mesh_tag t) ∙ length-one 8 mesh)

  module _ (at : ℕ) (d : List ℕ) where
    pub mesh-room : not b ≡ false → at + length (kind_bytes s) ≤ length d → at + 4 ≤ length d
    mesh-room t h = omega (arith, mesh-length (not-false b t))

    pub volume-put-none : not b ≡ true → d ≡ paste at (kind_bytes s) d
    volume-put-none t = sym (ap (λ (l : List ℕ). paste at l d) (volume-none (not-true b t)) ∙ paste-nil at d)

    pub mesh-put : not b ≡ false → {f : List ℕ} → f ≡ paste at (one_byte 8 mesh) d → f ≡ paste at (kind_bytes s) d
    mesh-put t u = u ∙ ap (λ (l : List ℕ). paste at l d) (sym (mesh_tag (not-false b t)))

module _ (c : Card) {m n : ℕ} (p : m ≡ 46 + length (offset_bytes c.volume.offset)) (q : n ≡ length (kind_bytes c.sharding)) where
  pub card-long : m + n ≡ length (card_bytes c)
  card-long = omega (arith, length-card c)

-- ---- one part after another
two : (at k : ℕ) (a b d : List ℕ) {e f : List ℕ} → length a ≡ k → e ≡ paste at a d → f ≡ paste (at + k) b e → at + k ≤ length d → f ≡ paste at (a ++ b) d
two at k a b d l u v h = paste-then at (at + k) a b d u v (omega arith) (omega arith)

field_put : (at tag k : ℕ) (body d : List ℕ) {e f : List ℕ} → length body ≡ k → e ≡ paste at (head tag k) d → f ≡ paste (at + 3) body e → at + 3 ≤ length d
    → f ≡ paste at (field tag body) d
unfolding field
field_put at tag k body d l u v h =
    two at 3 (head tag k) body d (length-head tag k) u v h ∙ ap (λ (n : ℕ). paste at (head tag n ++ body) d) (sym l)

module _ (at : ℕ) (d : List ℕ) where
  pub head-put : (tag n : ℕ) {e f : List ℕ} → e ≡ paste at (tag ∷ []) d → f ≡ paste (at + 1) (le 2 n) e → at + 3 ≤ length d → f ≡ paste at (head tag n) d
  unfolding head
  head-put tag n u v h = two at 1 (tag ∷ []) (le 2 n) d refl u v (omega arith)

  pub one-put : (tag n : ℕ) {e f : List ℕ} → e ≡ paste at (head tag 1) d → f ≡ paste (at + 3) (n ∷ []) e → at + 4 ≤ length d → f ≡ paste at (one_byte tag n) d
  unfolding one_byte
  one-put tag n u v h = field_put at tag 1 (n ∷ []) d refl u v (omega arith)

  pub three-put : (x y z : ℕ) {e f g : List ℕ} → e ≡ paste at (le 4 x) d → f ≡ paste (at + 4) (le 4 y) e → g ≡ paste (at + 8) (le 4 z) f → at + 12 ≤ length d
      → g ≡ paste at (three x y z) d
  unfolding three
  three-put x y z {e} {f} u v w h =
      let p : f ≡ paste at (le 4 x ++ le 4 y) d = two at 4 (le 4 x) (le 4 y) d (length-le 4 x) u v (omega arith) in
      let l : length (le 4 x ++ le 4 y) ≡ 8 = rw length-append (omega (arith, length-le 4 x, length-le 4 y)) in
      two at 8 (le 4 x ++ le 4 y) (le 4 z) d l p w (omega arith) ∙ ap (λ (t : List ℕ). paste at t d) (append_assoc (le 4 x) (le 4 y) (le 4 z))

  pub extents-put : (tag : ℕ) (e : Extents) {f g : List ℕ} → f ≡ paste at (head tag 12) d → g ≡ paste (at + 3) (three e.x e.y e.z) f → at + 15 ≤ length d
      → g ≡ paste at (extents_bytes tag e) d
  unfolding extents_bytes
  extents-put tag e u v h = field_put at tag 12 (three e.x e.y e.z) d (length_three e.x e.y e.z) u v (omega arith)

  -- an i32 in a local is read back from its bits
  pub tag_put : (o : Offset) {f g : List ℕ} {x y z : ℕ} → f ≡ paste at (head 7 12) d → g ≡ paste (at + 3) (three x y z) f
      → x ≡ bits32 (to_z w32 (of_z w32 o.x)) → y ≡ bits32 (to_z w32 (of_z w32 o.y)) → z ≡ bits32 (to_z w32 (of_z w32 o.z))
      → SFits w32 o.x → SFits w32 o.y → SFits w32 o.z → at + 15 ≤ length d → g ≡ paste at (offset_tag o) d
  unfolding offset_tag
  tag_put o {f} {g} {x} {y} {z} u v p q r fx fy fz h =
      let px : x ≡ bits32 o.x = rw (to_z-of_z fx) at p in
      let py : y ≡ bits32 o.y = rw (to_z-of_z fy) at q in
      let pz : z ≡ bits32 o.z = rw (to_z-of_z fz) at r in
      field_put at 7 12 (three x y z) d (length_three x y z) u v (omega arith) ∙ rw (px, py, pz)

  pub sharding-put : (s : Sharding) {a b c e : List ℕ} → a ≡ paste at (one_byte 1 s.preshift) d → b ≡ paste (at + 4) (one_byte 2 s.hash) a
      → c ≡ paste (at + 8) (one_byte 3 (minishard_bits_of s)) b → e ≡ paste (at + 12) (one_byte 4 (shard_bits_of s)) c → at + 16 ≤ length d
      → e ≡ paste at (sharding_bytes s) d
  unfolding sharding_bytes
  sharding-put s {a} {b} {c} u v w x h =
      let f1 = one_byte 1 s.preshift in
      let f2 = one_byte 2 s.hash in
      let f3 = one_byte 3 (minishard_bits_of s) in
      let f4 = one_byte 4 (shard_bits_of s) in
      let n1 : length f1 ≡ 4 = length-one 1 s.preshift in
      let n2 : length f2 ≡ 4 = length-one 2 s.hash in
      let n3 : length f3 ≡ 4 = length-one 3 (minishard_bits_of s) in
      let p : b ≡ paste at (f1 ++ f2) d = two at 4 f1 f2 d n1 u v (omega arith) in
      let l : length (f1 ++ f2) ≡ 8 = omega (arith, length-append f1 f2) in
      let q : c ≡ paste at ((f1 ++ f2) ++ f3) d = two at 8 (f1 ++ f2) f3 d l p w (omega arith) in
      let m : length ((f1 ++ f2) ++ f3) ≡ 12 = omega (arith, length-append (f1 ++ f2) f3) in
      two at 12 ((f1 ++ f2) ++ f3) f4 d m q x (omega arith) ∙ ap (λ (t : List ℕ). paste at t d) (append_assoc (f1 ++ f2) f3 f4 ∙ append_assoc f1 f2 (f3 ++ f4))

  pub volume-put : (v : Volume) {a b c : List ℕ} → a ≡ paste at (extents_bytes 5 v.size) d → b ≡ paste (at + 15) (extents_bytes 6 v.chunk) a
      → c ≡ paste (at + 30) (offset_bytes v.offset) b → at + (30 + length (offset_bytes v.offset)) ≤ length d → c ≡ paste at (volume_bytes v) d
  unfolding volume_bytes
  volume-put v {a} {b} u w x h =
      let f1 = extents_bytes 5 v.size in
      let f2 = extents_bytes 6 v.chunk in
      let f3 = offset_bytes v.offset in
      let n1 : length f1 ≡ 15 = length-extents 5 v.size in
      let n2 : length f2 ≡ 15 = length-extents 6 v.chunk in
      let p : b ≡ paste at (f1 ++ f2) d = two at 15 f1 f2 d n1 u w (omega arith) in
      let l : length (f1 ++ f2) ≡ 30 = omega (arith, length-append f1 f2) in
      two at 30 (f1 ++ f2) f3 d l p x (omega arith) ∙ ap (λ (t : List ℕ). paste at t d) (append_assoc f1 f2 f3)

pub card-put : (c : Card) (d : List ℕ) {m : ℕ} {a b e : List ℕ} → a ≡ paste 0 (sharding_bytes c.sharding) d → b ≡ paste 16 (volume_bytes c.volume) a
    → e ≡ paste m (kind_bytes c.sharding) b → m ≡ 46 + length (offset_bytes c.volume.offset)
    → 46 + length (offset_bytes c.volume.offset) + length (kind_bytes c.sharding) ≤ length d → e ≡ paste 0 (card_bytes c) d
unfolding card_bytes
card-put c d {m} {a} {b} {e} u v w p h =
    let f1 = sharding_bytes c.sharding in
    let f2 = volume_bytes c.volume in
    let f3 = kind_bytes c.sharding in
    let n1 : length f1 ≡ 16 = length-sharding c.sharding in
    let t : b ≡ paste 0 (f1 ++ f2) d = two 0 16 f1 f2 d n1 u v (omega arith) in
    let l : length (f1 ++ f2) ≡ m = omega (arith, length-append f1 f2, length-volume c.volume) in
    paste-then 0 m (f1 ++ f2) f3 d t w (omega arith) (omega arith) ∙ ap (λ (x : List ℕ). paste 0 x d) (append_assoc f1 f2 f3)

pub ruleset composing = (
  absent-length,
  present_length,
  present_room,
  absent-put,
  present_put,
  volume-length,
  mesh-length,
  mesh-room,
  volume-put-none,
  mesh-put,
  card-long,
  head-put,
  one-put,
  three-put,
  extents-put,
  tag_put,
  sharding-put,
  volume-put,
  card-put,
  too_long_lem,
  kept_whole,
  how_long,
  at_front,
  rules,
)
