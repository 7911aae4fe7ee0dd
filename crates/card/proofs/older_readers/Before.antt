-- What the readers of cards as they were answer now. Before order 7: 14 to each mesh card, to all other bytes what is answered now. Before
-- order 4: also 1 to each volume card with 13 to 16 minishard bits.
use Prim.Native.Nat.{ℕ, ◌<◌}
use mathlib.Core.Path.{◌≡◌, refl, sym, ap, ◌∙◌, subst}
use mathlib.Core.Bool.{Bool, true, false, not, ◌||◌}
use mathlib.Core.Logic.{◌⊎◌, inl, inr, ⊎_elim}
use mathlib.Core.List.{List, ◌∷◌, ◌++◌, append-nil}
use native.Mathlib.Omega.{arith}
use lib.Dec.{ltb, eqb}
use lib.ListN.{length, take}
use borrow.Author.Tests.{ltb-true, ltb-false, eqb-true}
use Rattle.refusal.specs.Choice.{pick}
use Rattle.refusal.specs.Checks.{Check, check, first_number, unless, answered}
use Rattle.std.specs.Prelude.{Ok}
use Rattle.refusal.specs.Answers.{refuse}
use Rattle.refusal.proofs.Tests.{neither}
use Rattle.sharding.specs.Specification.{volume, mesh, is_mesh, most_minishard_bits, minishard_bits_of, allowed, Within}
use Rattle.sharding.specs.declared.Sharding.{Sharding}
use Rattle.sharding.specs.Before.{most_minishard_bits_before, allowed_before}
use Rattle.sharding.proofs.Allowed.{allowed-within}
use Rattle.sharding.proofs.Before.{same-allowed, refused-before}
use Rattle.card.specs.declared.Card.{Card}
use Rattle.card.specs.Layout.{sharding_bytes, volume_bytes, card_bytes, Ranged}
use Rattle.card.specs.form.Form.{well_formed}
use Rattle.card.specs.Reading.{kind_in, card_sharding, offset_in, card_volume, card_in}
use Rattle.card.specs.Answers.{record_checks, read_checks, read_answer, write_answer, write_left}
use Rattle.card.specs.older_readers.Before.{card_bytes_before_mesh, well_formed_before_mesh, sharding_in_before_mesh, offset_in_before_mesh, card_in_before_mesh, read_checks_before_mesh, read_answer_before_mesh, MeshCard, record_checks_before, read_checks_before, read_answer_before, NewCard}
use Rattle.card.proofs.Composing.{volume-none}
use Rattle.card.proofs.Judged.{faultless}
use Rattle.card.proofs.Meaning.{malformed_14, said, mesh_lengths, left-bytes, one_meaning_one-card}

-- the card of a volume has the bytes that it had
pub same_bytes : (c : Card) → c.sharding.kind ≡ volume → card_bytes c ≡ card_bytes_before_mesh c
unfolding card_bytes card_bytes_before_mesh
same_bytes c e =
    let t : is_mesh c.sharding ≡ false = ap (λ (n : ℕ). eqb n mesh) e in
    ap (λ (l : List ℕ). sharding_bytes c.sharding ++ l)
    (ap (λ (l : List ℕ). volume_bytes c.volume ++ l) (volume-none c.sharding refl t) ∙ append-nil (volume_bytes c.volume))

-- a record is judged as it was where its specification is
pub same_record : (c : Card) → allowed_before c.sharding ≡ allowed c.sharding → record_checks_before c ≡ record_checks c
unfolding record_checks_before record_checks
same_record c e = rw e

-- ---- the two kinds, by the card's length

or-false : (a : Bool) → (a || false) ≡ a
or-false true = refl
or-false false = refl

no_tag : (a : Bool) → pick a mesh volume ≡ volume → a ≡ false
no_tag true e = absurd (omega arith)
no_tag false e = refl

one_of : (n : ℕ) (a b : Bool) → eqb n 50 ≡ a → eqb n 65 ≡ b → pick (a || b) mesh volume ≡ mesh → (n ≡ 50) ⊎ (n ≡ 65)
one_of n true b p q e = inl (eqb-true n 50 p)
one_of n false true p q e = inr (eqb-true n 65 q)
one_of n false false p q e = absurd (omega arith)

two-kinds : (a : Bool) → (pick a mesh volume ≡ volume) ⊎ (pick a mesh volume ≡ mesh)
two-kinds true = inr refl
two-kinds false = inl refl

mesh-malformed : (s : List ℕ) → (length s ≡ 50) ⊎ (length s ≡ 65) → well_formed_before_mesh s ≡ false
unfolding well_formed_before_mesh
mesh-malformed s (inl h) = rw h
mesh-malformed s (inr h) = rw h

kind-read : (s : List ℕ) → (card_sharding s).kind ≡ kind_in s
unfolding card_sharding
kind-read s = refl

module _ (s : List ℕ) where
  volume-or-mesh : (kind_in s ≡ volume) ⊎ (kind_in s ≡ mesh)
  unfolding kind_in
  volume-or-mesh = two-kinds (eqb (length s) 50 || eqb (length s) 65)

  mesh-length : kind_in s ≡ mesh → (length s ≡ 50) ⊎ (length s ≡ 65)
  unfolding kind_in
  mesh-length e = one_of (length s) (eqb (length s) 50) (eqb (length s) 65) refl refl e

  module _ (e : kind_in s ≡ volume) where
    volume-length : (eqb (length s) 50 ≡ false) × (eqb (length s) 65 ≡ false)
    unfolding kind_in
    volume-length = neither (eqb (length s) 50) (eqb (length s) 65) (no_tag (eqb (length s) 50 || eqb (length s) 65) e)

    same-formed : well_formed s ≡ well_formed_before_mesh s
    unfolding well_formed well_formed_before_mesh
    same-formed = rw (volume-length.0, volume-length.1)

    same-offset : offset_in s ≡ offset_in_before_mesh s
    unfolding offset_in offset_in_before_mesh
    same-offset = rw (volume-length.0, or-false (eqb (length s) 46))

    same-said : card_in s ≡ card_in_before_mesh s
    unfolding card_in card_in_before_mesh card_volume card_sharding sharding_in_before_mesh
    same-said = rw (e, same-offset)

  -- ---- to bytes that were no card

  malformed-before-mesh : well_formed_before_mesh s ≡ false → read_answer_before_mesh s ≡ refuse 14
  unfolding read_answer_before_mesh read_checks_before_mesh first_number unless
  malformed-before-mesh e = rw e

  malformed-before : well_formed_before_mesh s ≡ false → read_answer_before s ≡ refuse 14
  unfolding read_answer_before read_checks_before first_number unless
  malformed-before e = rw e

  both_14 : (length s ≡ 50) ⊎ (length s ≡ 65) → (read_answer_before_mesh s ≡ refuse 14) × (read_answer_before s ≡ refuse 14)
  both_14 h = (malformed-before-mesh (mesh-malformed s h), malformed-before (mesh-malformed s h))

  -- both readers answer 14 to each mesh card
  pub mesh-card-is_14 : MeshCard s → (read_answer_before_mesh s ≡ refuse 14) × (read_answer_before s ≡ refuse 14)
  mesh-card-is_14 h = both_14 (mesh-length h.kind)

  -- ---- to all other bytes

  module _ (e : kind_in s ≡ volume) where
    same-volume : read_answer_before_mesh s ≡ read_answer s
    unfolding read_answer_before_mesh read_answer read_checks_before_mesh read_checks
    same-volume = rw (same-formed e, same-said e)

    same-card : allowed_before (card_sharding s) ≡ allowed (card_sharding s) → read_answer_before s ≡ read_answer s
    unfolding read_answer_before read_answer read_checks_before read_checks card_in
    same-card q =
        rw (← same-formed e, ← same-said e)
        (ap (λ (cs : List Check). answered refuse (check 14 (not (well_formed s)) ∷ cs) (Ok (card_in s))) (same_record (card_in s) q))

  no-mesh : (MeshCard s → ⊥) → kind_in s ≡ mesh → (t : Bool) → well_formed s ≡ t → well_formed s ≡ false
  no-mesh none e true w = absurd (none (record { formed = w; kind = e }))
  no-mesh none e false w = w

  -- a length of mesh cards, and no mesh card: 14 now, and 14 before
  14-now : (MeshCard s → ⊥) → kind_in s ≡ mesh → read_answer s ≡ refuse 14
  14-now none e = malformed_14 s (no-mesh none e (well_formed s) refl)

  pub other-before-mesh : (MeshCard s → ⊥) → read_answer_before_mesh s ≡ read_answer s
  other-before-mesh none =
      ⊎_elim same-volume (λ e. (both_14 (mesh-length e)).0 ∙ sym (14-now none e)) volume-or-mesh

  pub new-card-is_1 : NewCard s → read_answer_before s ≡ refuse 1
  unfolding read_answer_before read_checks_before record_checks_before first_number unless card_in
  new-card-is_1 h = rw (← same-formed h.kind, ← same-said h.kind, h.formed, refused-before (card_sharding s) h.above)

  pub other-bytes-same : (MeshCard s → ⊥) → (NewCard s → ⊥) → read_answer_before s ≡ read_answer s
  other-bytes-same none other =
      ⊎_elim (λ e. go e (well_formed s) refl) (λ e. (both_14 (mesh-length e)).1 ∙ sym (14-now none e)) volume-or-mesh
    where
      go : kind_in s ≡ volume → (t : Bool) → well_formed s ≡ t → read_answer_before s ≡ read_answer s
      go e false w = malformed-before (sym (same-formed e) ∙ w) ∙ sym (malformed_14 s w)
      go e true w = same-card e (same-allowed (card_sharding s) (kind-read s ∙ e) (λ a. past a (ltb most_minishard_bits (minishard_bits_of (card_sharding s))) refl))
        where
          past : most_minishard_bits_before < minishard_bits_of (card_sharding s) → (t : Bool) → ltb most_minishard_bits (minishard_bits_of (card_sharding s)) ≡ t → most_minishard_bits < minishard_bits_of (card_sharding s)
          past a true q = ltb-true _ _ q
          past a false q = absurd (other (record { formed = w; kind = e; above = a; within = ltb-false _ _ q }))

-- ---- what is written now

-- of a mesh: 14 to both readers, whatever the record
pub written-mesh-is_14 : (c : Card) (out : List ℕ) (n : ℕ) → write_answer c out ≡ Ok n → c.sharding.kind ≡ mesh
    → (read_answer_before_mesh (take n (write_left c out)) ≡ refuse 14) × (read_answer_before (take n (write_left c out)) ≡ refuse 14)
written-mesh-is_14 c out n a e = rw (left-bytes c out n a) (both_14 (card_bytes c) (mesh_lengths c e))

-- of a volume with more than 12 minishard bits
pub written-is-new : (c : Card) (out : List ℕ) (n : ℕ) → Ranged c → write_answer c out ≡ Ok n → c.sharding.kind ≡ volume
    → most_minishard_bits_before < minishard_bits_of c.sharding → NewCard (take n (write_left c out))
unfolding card_in
written-is-new c out n r a k h =
    let s = take n (write_left c out) in
    let q = said s c (one_meaning_one-card.written c out n r a).1 in
    let e : card_sharding s ≡ c.sharding = ap (λ (d : Card). d.sharding) q.2 in
    let w : Within (card_sharding s) = allowed-within (faultless (card_in s) q.1).0 in
    record {
      formed = q.0;
      kind = sym (kind-read s) ∙ ap (λ (x : Sharding). x.kind) e ∙ k;
      above = subst (λ (x : Sharding). most_minishard_bits_before < minishard_bits_of x) (sym e) h;
      within = w.minishard;
    }
