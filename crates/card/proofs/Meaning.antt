-- The laws of a card: what is written is read back, what is read is what is written, and one meaning has one card.
use Prim.Native.Nat.{ℕ, zero, suc, ◌+◌, ◌^◌, ◌≤◌, ◌<◌}
use mathlib.Core.Path.{◌≡◌, refl, sym, ap, ap₂, ◌∙◌}
use mathlib.Core.Bool.{Bool, true, false, not, ◌&&◌, ◌||◌}
use mathlib.Core.Logic.{◌⊎◌, inl, inr}
use mathlib.Core.List.{List, [], ◌∷◌, ◌++◌, append_assoc, append-nil}
use native.Mathlib.Omega.{arith}
use borrow.Author.Tests.{eqb-true, not-true, ltb-true, ltb-false}
use lib.Dec.{eqb, ltb}
use lib.IntN.{ℤ, pos, negsuc}
use lib.ListN.{length, get_or, take, drop, take-append-drop, drop_of_length-le}
use lib.Seq.{drop-cons, drop-drop, take-add, take-append_seam}
use Rattle.refusal.specs.Choice.{pick}
use Rattle.endian.specs.Little.{le, le_at}
use Rattle.refusal.specs.Checks.{first_number, unless}
use Rattle.refusal.specs.Buffer.{written}
use Rattle.std.specs.Prelude.{Ok}
use Rattle.refusal.specs.Answers.{refuse}
use Rattle.endian.proofs.Little.{le_at-le, le-le_at, le_at-bound}
use Rattle.endian.proofs.Part.{part_length}
use Rattle.endian.proofs.Buffer.{written-short, written-fits, left_by-fits}
use Rattle.refusal.proofs.Tests.{both}
use Rattle.refusal.specs.Table.{last, InTable}
use Rattle.refusal.proofs.Table.{same-number}
use Rattle.morton.specs.declared.grid.Offset.{Offset}
use Rattle.morton.specs.grid.Grid.{InU32, grid_of, zero_extent}
use Rattle.morton.specs.Key.{too_many_bits}
use Rattle.sharding.specs.Specification.{volume, mesh, is_mesh, minishard_bits_of, shard_bits_of, allowed, Within}
use Rattle.sharding.specs.declared.Sharding.{Sharding}
use Rattle.sharding.proofs.Allowed.{allowed-within}
use Rattle.card.specs.declared.Card.{Card}
use Rattle.card.specs.Layout.{head, field, one_byte, three, sharding_bytes, extents_bytes, offset_tag, offset_bytes, volume_bytes, kind_bytes, card_bytes, Ranged, Bytes}
use Rattle.card.specs.fields.Twos.{bits32, is_zero, no_offset, InI32, signed32}
use Rattle.card.specs.fields.Fields.{field_at, six_fields, card_offset_at, offset_field, kind_field}
use Rattle.card.specs.Reading.{card_extents_at, kind_in, card_sharding, zeros, offset_in, card_volume, card_in}
use Rattle.card.specs.form.Form.{well_formed}
use Rattle.card.specs.Answers.{record_checks, fault, read_answer, write_answer, write_left}
use Rattle.card.specs.Meaning.{OneCard}
use Rattle.card.proofs.fields.Words.{bits_signed, signed_bits, bits_below, signed_in}
use Rattle.card.proofs.form.Parsing.{CardLength, formed-length, formed-never}
use Rattle.card.proofs.form.Parsing.CardLength.{bare, shifted, bare_mesh, shifted_mesh}
use Rattle.card.proofs.Judged.{faultless, read_first, write_first, left-first}

-- ---- the bytes of a record are read back as the record

zero_is : (z : ℤ) → is_zero z ≡ true → pos 0 ≡ z
unfolding is_zero
zero_is (pos n) e = ap pos (sym (eqb-true n 0 e))
zero_is (negsuc n) e = let z : ◌≡◌ {A = ℕ} 0 1 = cc in absurd (omega arith)

none_is : (o : Offset) → no_offset o ≡ true → zeros ≡ o
unfolding no_offset
none_is o e =
    let p = both (is_zero o.x) (is_zero o.y && is_zero o.z) e in
    let q = both (is_zero o.y) (is_zero o.z) p.1 in
    let px = zero_is o.x p.0 in
    let py = zero_is o.y q.0 in
    let pz = zero_is o.z q.1 in
    λ i. record { x = px i; y = py i; z = pz i }

-- a card's bytes, by whether the offset is absent and whether the kind is there
unfoldable bytes_by : Bool → Bool → Card → List ℕ
bytes_by b k c =
    sharding_bytes c.sharding
    ++ (extents_bytes 5 c.volume.size
    ++ (extents_bytes 6 c.volume.chunk ++ (pick b [] (offset_tag c.volume.offset) ++ pick k (one_byte 8 mesh) [])))

number : (n : ℕ) → n < 2 ^ 32 → le_at 4 (le 4 n ++ []) 0 ≡ n
number n h = le_at-le 4 n [] h

signed_number : (z : ℤ) → InI32 z → signed32 (le_at 4 (le 4 (bits32 z) ++ []) 0) ≡ z
signed_number z h = ap signed32 (number (bits32 z) (bits_below z h)) ∙ signed_bits z h

offset_back : (k : Bool) (c : Card) → Ranged c → card_offset_at (bytes_by false k c) 49 ≡ c.volume.offset
unfolding card_offset_at bytes_by sharding_bytes extents_bytes offset_tag one_byte field head three le le_at
offset_back k c r =
    let px = signed_number c.volume.offset.x r.x in
    let py = signed_number c.volume.offset.y r.y in
    let pz = signed_number c.volume.offset.z r.z in
    λ i. record { x = px i; y = py i; z = pz i }

formed_back : (b k : Bool) (c : Card) → Ranged c → no_offset c.volume.offset ≡ b → well_formed (bytes_by b k c) ≡ true
unfolding well_formed six_fields offset_field kind_field field_at bytes_by sharding_bytes extents_bytes offset_tag one_byte field head three le le_at
formed_back true false c r e = refl
formed_back true true c r e = refl
formed_back false false c r e = ap (λ (o : Offset). not (no_offset o)) (offset_back false c r) ∙ ap not e
formed_back false true c r e = ap (λ (o : Offset). not (no_offset o) && true) (offset_back true c r) ∙ ap (λ (t : Bool). not t && true) e

size_back : (b k : Bool) (c : Card) → Ranged c → card_extents_at (bytes_by b k c) 19 ≡ c.volume.size
unfolding card_extents_at bytes_by sharding_bytes extents_bytes one_byte field head three le le_at
size_back b k c r =
    let px = number c.volume.size.x r.size.x in
    let py = number c.volume.size.y r.size.y in
    let pz = number c.volume.size.z r.size.z in
    λ i. record { x = px i; y = py i; z = pz i }

chunk_back : (b k : Bool) (c : Card) → Ranged c → card_extents_at (bytes_by b k c) 34 ≡ c.volume.chunk
unfolding card_extents_at bytes_by sharding_bytes extents_bytes one_byte field head three le le_at
chunk_back b k c r =
    let px = number c.volume.chunk.x r.chunk.x in
    let py = number c.volume.chunk.y r.chunk.y in
    let pz = number c.volume.chunk.z r.chunk.z in
    λ i. record { x = px i; y = py i; z = pz i }

kind_by : (b k : Bool) (c : Card) → kind_in (bytes_by b k c) ≡ pick k mesh volume
unfolding kind_in bytes_by sharding_bytes extents_bytes offset_tag one_byte field head three le
kind_by true false c = refl
kind_by true true c = refl
kind_by false false c = refl
kind_by false true c = refl

kind_of : (h : Sharding) → (h.kind ≡ volume) ⊎ (h.kind ≡ mesh) → pick (is_mesh h) mesh volume ≡ h.kind
kind_of h (inl e) = rw e
kind_of h (inr e) = rw e

sharding_back : (b : Bool) (c : Card) → Within c.sharding → card_sharding (bytes_by b (is_mesh c.sharding) c) ≡ c.sharding
unfolding card_sharding bytes_by sharding_bytes one_byte field head le
sharding_back b c w =
    let h = c.sharding in
    let p = kind_by b (is_mesh h) c ∙ kind_of h w.kind in
    λ i. record { preshift = h.preshift; hash = h.hash; minishard_bits = minishard_bits_of h; shard_bits = shard_bits_of h; kind = p i }

offset_in_back : (b k : Bool) (c : Card) → Ranged c → no_offset c.volume.offset ≡ b → offset_in (bytes_by b k c) ≡ c.volume.offset
unfolding offset_in bytes_by sharding_bytes extents_bytes offset_tag one_byte field head three le
offset_in_back true false c r e = none_is c.volume.offset e
offset_in_back true true c r e = none_is c.volume.offset e
offset_in_back false false c r e = offset_back false c r
offset_in_back false true c r e = offset_back true c r

card_back : (b : Bool) (c : Card) → Ranged c → no_offset c.volume.offset ≡ b → Within c.sharding → card_in (bytes_by b (is_mesh c.sharding) c) ≡ c
unfolding card_in card_volume
card_back b c r e w =
    let k = is_mesh c.sharding in
    let p = sharding_back b c w in
    let q = size_back b k c r in
    let s = chunk_back b k c r in
    let t = offset_in_back b k c r e in
    λ i. record { sharding = p i; volume = record { size = q i; chunk = s i; offset = t i } }

bytes-by : (c : Card) → card_bytes c ≡ bytes_by (no_offset c.volume.offset) (is_mesh c.sharding) c
unfolding card_bytes volume_bytes offset_bytes kind_bytes bytes_by
bytes-by c =
    ap (λ (l : List ℕ). sharding_bytes c.sharding ++ l)
    (append_assoc (extents_bytes 5 c.volume.size) (extents_bytes 6 c.volume.chunk ++ offset_bytes c.volume.offset) (kind_bytes c.sharding)
    ∙ ap (λ (l : List ℕ). extents_bytes 5 c.volume.size ++ l) (append_assoc (extents_bytes 6 c.volume.chunk) (offset_bytes c.volume.offset) (kind_bytes c.sharding)))

-- a card has 46 or 61 bytes, of a mesh 50 or 65
volume-by : (b : Bool) (c : Card) → (length (bytes_by b false c) ≡ 46) ⊎ (length (bytes_by b false c) ≡ 61)
unfolding bytes_by sharding_bytes extents_bytes offset_tag one_byte field head three le
volume-by true c = inl refl
volume-by false c = inr refl

mesh_by : (b : Bool) (c : Card) → (length (bytes_by b true c) ≡ 50) ⊎ (length (bytes_by b true c) ≡ 65)
unfolding bytes_by sharding_bytes extents_bytes offset_tag one_byte field head three le
mesh_by true c = inl refl
mesh_by false c = inr refl

bytes_of : (c : Card) (k : Bool) → c.sharding.kind ≡ pick k mesh volume → card_bytes c ≡ bytes_by (no_offset c.volume.offset) k c
bytes_of c false e = bytes-by c ∙ ap (λ (n : ℕ). bytes_by (no_offset c.volume.offset) (eqb n mesh) c) e
bytes_of c true e = bytes-by c ∙ ap (λ (n : ℕ). bytes_by (no_offset c.volume.offset) (eqb n mesh) c) e

volume_lengths : (c : Card) → c.sharding.kind ≡ volume → (length (card_bytes c) ≡ 46) ⊎ (length (card_bytes c) ≡ 61)
volume_lengths c e = rw (bytes_of c false e) (volume-by (no_offset c.volume.offset) c)

pub mesh_lengths : (c : Card) → c.sharding.kind ≡ mesh → (length (card_bytes c) ≡ 50) ⊎ (length (card_bytes c) ≡ 65)
mesh_lengths c e = rw (bytes_of c true e) (mesh_by (no_offset c.volume.offset) c)

module _ (c : Card) (r : Ranged c) where
  formed-bytes : well_formed (card_bytes c) ≡ true
  formed-bytes = rw (bytes-by c) (formed_back (no_offset c.volume.offset) (is_mesh c.sharding) c r refl)

  card-bytes_say : Within c.sharding → card_in (card_bytes c) ≡ c
  card-bytes_say w = ap card_in (bytes-by c) ∙ card_back (no_offset c.volume.offset) c r refl w

  -- reading the bytes of a record gives the record back
  reads_back : fault c ≡ 0 → read_answer (card_bytes c) ≡ Ok c
  unfolding unless
  reads_back e = read_first (card_bytes c) ∙ rw (formed-bytes, card-bytes_say (allowed-within (faultless c e).0), e)

-- ---- bytes that are read are those of the record

split : (s : List ℕ) (p k : ℕ) → drop p s ≡ take k (drop p s) ++ drop (p + k) s
split s p k = sym (take-append-drop k (drop p s)) ∙ ap (λ (l : List ℕ). take k (drop p s) ++ l) (drop-drop k p s)

module _ (s : List ℕ) (bs : Bytes s) where
  field-from : (tag k p : ℕ) (body : List ℕ) → field_at tag k s p ≡ true → take k (drop (p + 3) s) ≡ body → p + (3 + k) ≤ length s
      → drop p s ≡ field tag body ++ drop (p + (3 + k)) s
  unfolding field_at field head
  field-from tag k p body e t h =
      let q = both (eqb (get_or s p 0) tag) (eqb (le_at 2 s (p + 1)) k) e in
      let a : get_or s p 0 ≡ tag = eqb-true (get_or s p 0) tag q.0 in
      let b : le_at 2 s (p + 1) ≡ k = eqb-true (le_at 2 s (p + 1)) k q.1 in
      let n : length body ≡ k = sym (ap length t) ∙ part_length s (p + 3) k (omega arith) in
      let f : take 2 (drop (p + 1) s) ≡ le 2 k = sym (le-le_at 2 s (p + 1) bs (omega arith)) ∙ ap (le 2) b in
      let i : suc p ≡ p + 1 = omega arith in
      let j : p + 1 + 2 ≡ p + 3 = omega arith in
      let m : p + 3 + k ≡ p + (3 + k) = omega arith in
      let r = drop (p + (3 + k)) s in
      let g : drop (p + 3) s ≡ body ++ r = split s (p + 3) k ∙ ap₂ ◌++◌ t (ap (λ (x : ℕ). drop x s) m) in
      let d : drop (p + 1) s ≡ le 2 k ++ (body ++ r) = split s (p + 1) 2 ∙ ap₂ ◌++◌ f (ap (λ (x : ℕ). drop x s) j ∙ g) in
      drop-cons s p 0 (omega arith) ∙ ap₂ ◌∷◌ a (ap (λ (x : ℕ). drop x s) i ∙ d)
      ∙ ap (λ (l : List ℕ). tag ∷ l) (sym (append_assoc (le 2 k) body r))
      ∙ ap (λ (x : ℕ). tag ∷ ((le 2 x ++ body) ++ r)) (sym n)

  one_from : (tag p : ℕ) → field_at tag 1 s p ≡ true → p + 4 ≤ length s → drop p s ≡ one_byte tag (get_or s (p + 3) 0) ++ drop (p + 4) s
  unfolding one_byte
  one_from tag p e h =
      field-from tag 1 p (get_or s (p + 3) 0 ∷ []) e (ap (take 1) (drop-cons s (p + 3) 0 (omega arith))) (omega arith)

  three-from : (p : ℕ) → p + 12 ≤ length s → take 12 (drop p s) ≡ three (le_at 4 s p) (le_at 4 s (p + 4)) (le_at 4 s (p + 8))
  unfolding three
  three-from p h =
      let i : p + 4 + 4 ≡ p + 8 = omega arith in
      let z : take 4 (drop 4 (drop (p + 4) s)) ≡ le 4 (le_at 4 s (p + 8)) =
      ap (take 4) (drop-drop 4 (p + 4) s ∙ ap (λ (x : ℕ). drop x s) i) ∙ sym (le-le_at 4 s (p + 8) bs (omega arith)) in
      let y : take 8 (drop 4 (drop p s)) ≡ le 4 (le_at 4 s (p + 4)) ++ le 4 (le_at 4 s (p + 8)) =
      ap (take 8) (drop-drop 4 p s) ∙ take-add 4 4 (drop (p + 4) s) ∙ ap₂ ◌++◌ (sym (le-le_at 4 s (p + 4) bs (omega arith))) z in
      take-add 4 8 (drop p s) ∙ ap₂ ◌++◌ (sym (le-le_at 4 s p bs (omega arith))) y

  extents-from : (tag p : ℕ) → field_at tag 12 s p ≡ true → p + 15 ≤ length s → drop p s ≡ extents_bytes tag (card_extents_at s (p + 3)) ++ drop (p + 15) s
  unfolding extents_bytes card_extents_at
  extents-from tag p e h =
      field-from tag 12 p (three (le_at 4 s (p + 3)) (le_at 4 s (p + 3 + 4)) (le_at 4 s (p + 3 + 8))) e (three-from (p + 3) (omega arith)) (omega arith)

  bits-from : (p : ℕ) → bits32 (signed32 (le_at 4 s p)) ≡ le_at 4 s p
  bits-from p = bits_signed (le_at 4 s p) (le_at-bound 4 s p bs)

  tag_from : (p : ℕ) → field_at 7 12 s p ≡ true → p + 15 ≤ length s → drop p s ≡ offset_tag (card_offset_at s (p + 3)) ++ drop (p + 15) s
  unfolding offset_tag card_offset_at
  tag_from p e h =
      rw (bits-from (p + 3), bits-from (p + 3 + 4), bits-from (p + 3 + 8))
      (field-from 7 12 p (three (le_at 4 s (p + 3)) (le_at 4 s (p + 3 + 4)) (le_at 4 s (p + 3 + 8))) e (three-from (p + 3) (omega arith)) (omega arith))

  four_assoc : (a b c d r : List ℕ) → a ++ (b ++ (c ++ (d ++ r))) ≡ (a ++ (b ++ (c ++ d))) ++ r
  four_assoc a b c d r = simp append_assoc

  six_from : six_fields s ≡ true → 46 ≤ length s
      → s ≡ sharding_bytes (card_sharding s) ++ (extents_bytes 5 (card_extents_at s 19) ++ (extents_bytes 6 (card_extents_at s 34) ++ drop 46 s))
  unfolding six_fields sharding_bytes card_sharding
  six_from e h =
      let e1 = both (field_at 1 1 s 0) (field_at 2 1 s 4 && (field_at 3 1 s 8 && (field_at 4 1 s 12 && (field_at 5 12 s 16 && field_at 6 12 s 31)))) e in
      let e2 = both (field_at 2 1 s 4) (field_at 3 1 s 8 && (field_at 4 1 s 12 && (field_at 5 12 s 16 && field_at 6 12 s 31))) e1.1 in
      let e3 = both (field_at 3 1 s 8) (field_at 4 1 s 12 && (field_at 5 12 s 16 && field_at 6 12 s 31)) e2.1 in
      let e4 = both (field_at 4 1 s 12) (field_at 5 12 s 16 && field_at 6 12 s 31) e3.1 in
      let e5 = both (field_at 5 12 s 16) (field_at 6 12 s 31) e4.1 in
      let p5 : drop 16 s ≡ extents_bytes 5 (card_extents_at s 19) ++ (extents_bytes 6 (card_extents_at s 34) ++ drop 46 s) =
      extents-from 5 16 e5.0 (omega arith) ∙ ap (λ (l : List ℕ). extents_bytes 5 (card_extents_at s 19) ++ l) (extents-from 6 31 e5.1 (omega arith)) in
      let p4 = one_from 4 12 e4.0 (omega arith) ∙ ap (λ (l : List ℕ). one_byte 4 (get_or s 15 0) ++ l) p5 in
      let p3 = one_from 3 8 e3.0 (omega arith) ∙ ap (λ (l : List ℕ). one_byte 3 (get_or s 11 0) ++ l) p4 in
      let p2 = one_from 2 4 e2.0 (omega arith) ∙ ap (λ (l : List ℕ). one_byte 2 (get_or s 7 0) ++ l) p3 in
      one_from 1 0 e1.0 (omega arith) ∙ ap (λ (l : List ℕ). one_byte 1 (get_or s 3 0) ++ l) p2
      ∙ four_assoc (one_byte 1 (get_or s 3 0)) (one_byte 2 (get_or s 7 0)) (one_byte 3 (get_or s 11 0)) (one_byte 4 (get_or s 15 0))
      (extents_bytes 5 (card_extents_at s 19) ++ (extents_bytes 6 (card_extents_at s 34) ++ drop 46 s))

  -- the end: no offset, or the seventh field, and then no kind, or the eighth
  no-offset-from : (eqb (length s) 46 || eqb (length s) 50) ≡ true → drop 46 s ≡ offset_bytes (offset_in s) ++ drop 46 s
  unfolding offset_in offset_bytes no_offset is_zero
  no-offset-from h = rw h

  offset-from : (eqb (length s) 46 || eqb (length s) 50) ≡ false → 61 ≤ length s → offset_field s ≡ true → drop 46 s ≡ offset_bytes (offset_in s) ++ drop 61 s
  unfolding offset_in offset_bytes offset_field
  offset-from h l e =
      let q = both (field_at 7 12 s 46) (not (no_offset (card_offset_at s 49))) e in
      rw (h, not-true (no_offset (card_offset_at s 49)) q.1) (tag_from 46 q.0 (omega arith))

  no-kind-from : (p : ℕ) → length s ≡ p → kind_in s ≡ volume → drop p s ≡ kind_bytes (card_sharding s)
  unfolding kind_bytes card_sharding
  no-kind-from p h k = rw k (drop_of_length-le s {i = p} (omega arith))

  kind-from : (p : ℕ) → length s ≡ p + 4 → kind_in s ≡ mesh → kind_field s p ≡ true → drop p s ≡ kind_bytes (card_sharding s)
  unfolding kind_bytes card_sharding kind_field
  kind-from p h k e =
      let q = both (field_at 8 1 s p) (eqb (get_or s (p + 3) 0) mesh) e in
      let b : get_or s (p + 3) 0 ≡ mesh = eqb-true (get_or s (p + 3) 0) mesh q.1 in
      let d : drop (p + 4) s ≡ [] = drop_of_length-le s {i = p + 4} (omega arith) in
      rw k (one_from 8 p q.0 (omega arith) ∙ ap₂ ◌++◌ (ap (one_byte 8) b) d ∙ append-nil (one_byte 8 mesh))

  rest_by : well_formed s ≡ true → CardLength (length s) → (six_fields s ≡ true) × (46 ≤ length s) × (drop 46 s ≡ offset_bytes (offset_in s) ++ kind_bytes (card_sharding s))
  unfolding well_formed kind_in
  rest_by e (bare h) =
      (rw h at e, omega arith, no-offset-from (rw h) ∙ ap (λ (l : List ℕ). offset_bytes (offset_in s) ++ l) (no-kind-from 46 h (rw h)))
  rest_by e (shifted h) =
      let q = both (six_fields s) (offset_field s) (rw h at e) in
      (q.0, omega arith, offset-from (rw h) (omega arith) q.1 ∙ ap (λ (l : List ℕ). offset_bytes (offset_in s) ++ l) (no-kind-from 61 h (rw h)))
  rest_by e (bare_mesh h) =
      let q = both (six_fields s) (kind_field s 46) (rw h at e) in
      (q.0, omega arith, no-offset-from (rw h) ∙ ap (λ (l : List ℕ). offset_bytes (offset_in s) ++ l) (kind-from 46 h (rw h) q.1))
  rest_by e (shifted_mesh h) =
      let q = both (six_fields s) (offset_field s && kind_field s 61) (rw h at e) in
      let t = both (offset_field s) (kind_field s 61) q.1 in
      (q.0, omega arith, offset-from (rw h) (omega arith) t.0 ∙ ap (λ (l : List ℕ). offset_bytes (offset_in s) ++ l) (kind-from 61 h (rw h) t.1))

  three_assoc : (a b c r : List ℕ) → a ++ (b ++ (c ++ r)) ≡ (a ++ (b ++ c)) ++ r
  three_assoc a b c r = simp append_assoc

  -- bytes that are well formed are those of what they say
  formed-is-bytes : well_formed s ≡ true → s ≡ card_bytes (card_in s)
  unfolding card_bytes card_in volume_bytes card_volume
  formed-is-bytes e =
      let r = rest_by e (formed-length s e) in
      let f5 = extents_bytes 5 (card_extents_at s 19) in
      let f6 = extents_bytes 6 (card_extents_at s 34) in
      six_from r.0 r.1
      ∙ ap (λ (l : List ℕ). sharding_bytes (card_sharding s) ++ l)
      (ap (λ (l : List ℕ). f5 ++ (f6 ++ l)) r.2 ∙ three_assoc f5 f6 (offset_bytes (offset_in s)) (kind_bytes (card_sharding s)))

  in_u32 : (p : ℕ) → InU32 (card_extents_at s p)
  unfolding card_extents_at
  in_u32 p = record { x = le_at-bound 4 s p bs; y = le_at-bound 4 s (p + 4) bs; z = le_at-bound 4 s (p + 8) bs }

  in_i32 : (b : Bool) (f : Offset → ℤ) → InI32 (f zeros) → InI32 (f (card_offset_at s 49)) → InI32 (f (pick b zeros (card_offset_at s 49)))
  in_i32 true f p q = p
  in_i32 false f p q = q

  at_i32 : (p : ℕ) → InI32 (signed32 (le_at 4 s p))
  at_i32 p = signed_in (le_at 4 s p) (le_at-bound 4 s p bs)

  -- and what bytes say fits a card
  said_ranged : Ranged (card_in s)
  unfolding card_in card_volume card_sharding offset_in card_offset_at
  said_ranged = record {
    preshift = bs 3;
    hash = bs 7;
    minishard = bs 11;
    shard = bs 15;
    size = in_u32 19;
    chunk = in_u32 34;
    x = in_i32 (eqb (length s) 46 || eqb (length s) 50) (λ (o : Offset). o.x) (omega arith) (at_i32 49);
    y = in_i32 (eqb (length s) 46 || eqb (length s) 50) (λ (o : Offset). o.y) (omega arith) (at_i32 53);
    z = in_i32 (eqb (length s) 46 || eqb (length s) 50) (λ (o : Offset). o.z) (omega arith) (at_i32 57);
  }

-- ---- what reading answers

unless_says : (n : ℕ) (c d : Card) → unless refuse n (Ok d) ≡ Ok c → (n ≡ 0) × (d ≡ c)
unfolding unless
unless_says zero c d e = (refl, cc)
unless_says (suc n) c d e = let z : ◌≡◌ {A = ℕ} 0 1 = cc in absurd (omega arith)

unless-refuses : (n k : ℕ) (d : Card) → n ≤ last → InTable k → unless refuse n (Ok d) ≡ refuse k → n ≡ k
unfolding unless
unless-refuses zero k d l t e = let z : ◌≡◌ {A = ℕ} 0 1 = cc in absurd (omega arith)
unless-refuses (suc n) k d l t e = same-number (suc n) k (omega arith, l) t cc

pick_small : (b : Bool) (m : ℕ) → m ≤ 3 → pick b 14 m ≤ last
pick_small true m l = omega arith
pick_small false m l = omega arith

picked_none : (w : Bool) (m : ℕ) → pick (not w) 14 m ≡ 0 → (w ≡ true) × (m ≡ 0)
picked_none true m e = (refl, e)
picked_none false m e = absurd (omega arith)

picked_14 : (w : Bool) (m : ℕ) → m ≤ 3 → pick (not w) 14 m ≡ 14 → w ≡ false
picked_14 true m h e = absurd (omega arith)
picked_14 false m h e = refl

fault_by : (a z b : Bool) → pick (not a) 1 (pick z 2 (pick b 3 0)) ≤ 3
fault_by true true b = omega arith
fault_by true false true = omega arith
fault_by true false false = omega arith
fault_by false z b = omega arith

fault-most : (c : Card) → fault c ≤ 3
unfolding record_checks first_number
fault-most c = fault_by (allowed c.sharding) (zero_extent c.volume) (too_many_bits (grid_of c.volume))

module _ (s : List ℕ) where
  pub said : (c : Card) → read_answer s ≡ Ok c → (well_formed s ≡ true) × (fault (card_in s) ≡ 0) × (card_in s ≡ c)
  said c e =
      let q = unless_says (pick (not (well_formed s)) 14 (fault (card_in s))) c (card_in s) (sym (read_first s) ∙ e) in
      let p = picked_none (well_formed s) (fault (card_in s)) q.0 in
      (p.0, p.1, q.1)

  -- a card that is read has no fault
  pub read_faultless : (c : Card) → read_answer s ≡ Ok c → fault c ≡ 0
  read_faultless c e = sym (ap fault (said c e).2) ∙ (said c e).1

  pub malformed_14 : well_formed s ≡ false → read_answer s ≡ refuse 14
  unfolding unless
  malformed_14 e = read_first s ∙ rw e

  -- a card has no other length
  pub never_14 : (length s ≡ 46 → ⊥) → (length s ≡ 61 → ⊥) → (length s ≡ 50 → ⊥) → (length s ≡ 65 → ⊥) → read_answer s ≡ refuse 14
  never_14 a b c d = malformed_14 (sym (formed-never s a b c d))

  14-malformed : read_answer s ≡ refuse 14 → well_formed s ≡ false
  14-malformed e =
      picked_14 (well_formed s) (fault (card_in s)) (fault-most (card_in s))
      (unless-refuses (pick (not (well_formed s)) 14 (fault (card_in s))) 14 (card_in s) (pick_small (not (well_formed s)) (fault (card_in s)) (fault-most (card_in s))) (omega arith, omega arith) (sym (read_first s) ∙ e))

  formed-none : (c : Card) → Ranged c → s ≡ card_bytes c → well_formed s ≡ false → ⊥
  formed-none c r p e =
      let q : well_formed s ≡ true = ap well_formed p ∙ formed-bytes c r in
      let z : ◌≡◌ {A = ℕ} 0 1 = cc in omega arith

  formed-some : Bytes s → ((c : Card) → Ranged c → s ≡ card_bytes c → ⊥) → (b : Bool) → well_formed s ≡ b → b ≡ false
  formed-some bs f true e = absurd (f (card_in s) (said_ranged s bs) (formed-is-bytes s bs e))
  formed-some bs f false e = refl

  read-is-written : (c : Card) → Bytes s → read_answer s ≡ Ok c → (s ≡ card_bytes c) × (Ranged c × (fault c ≡ 0))
  read-is-written c bs e =
      let q = said c e in
      (formed-is-bytes s bs q.0 ∙ ap card_bytes q.2, (rw q.2 at (said_ranged s bs), read_faultless c e))

-- ---- what writing answers

written_of : (c : Card) (out : List ℕ) (n m : ℕ) → fault c ≡ m → unless refuse m (written (card_bytes c) out) ≡ Ok n
    → (fault c ≡ 0) × (written (card_bytes c) out ≡ Ok n)
unfolding unless
written_of c out n zero f e = (f, e)
written_of c out n (suc m) f e = let z : ◌≡◌ {A = ℕ} 0 1 = cc in absurd (omega arith)

long_of : (s out : List ℕ) (n : ℕ) → written s out ≡ Ok n → (b : Bool) → ltb (length out) (length s) ≡ b → (length s ≤ length out) × (n ≡ length s)
long_of s out n e true t =
    let p : Ok n ≡ refuse 13 = sym e ∙ written-short s out (ltb-true _ _ t) in
    let z : ◌≡◌ {A = ℕ} 0 1 = cc in absurd (omega arith)
long_of s out n e false t =
    let h : length s ≤ length out = ltb-false _ _ t in
    let p : Ok n ≡ Ok (length s) = sym e ∙ written-fits s out h in (h, cc)

module _ (c : Card) (out : List ℕ) (n : ℕ) (e : write_answer c out ≡ Ok n) where
  pub left-bytes : take n (write_left c out) ≡ card_bytes c
  unfolding unless
  left-bytes =
      let q = written_of c out n (fault c) refl (sym (write_first c out) ∙ e) in
      let p = long_of (card_bytes c) out n q.1 (ltb (length out) (length (card_bytes c))) refl in
      rw (p.1, left-first c out, q.0, left_by-fits (card_bytes c) out p.0) (take-append_seam (card_bytes c) (drop (length (card_bytes c)) out))

  left_says : Ranged c → read_answer (take n (write_left c out)) ≡ Ok c
  left_says r = rw left-bytes (reads_back c r (written_of c out n (fault c) refl (sym (write_first c out) ∙ e)).0)

pub one_meaning_one-card : OneCard
one_meaning_one-card =
    record {
      same = λ a b c ba bb p q. (read-is-written a c ba p).0 ∙ sym (read-is-written b c bb q).0;
      only = λ s c bs. (read-is-written s c bs, λ p. ap read_answer p.0 ∙ reads_back c p.1.0 p.1.1);
      malformed = λ s bs. (λ e c r p. formed-none s c r p (14-malformed s e), λ f. malformed_14 s (formed-some s bs f (well_formed s) refl));
      long = volume_lengths;
      long_mesh = mesh_lengths;
      written = λ c out n r e. (left-bytes c out n e, left_says c out n e r);
    }
