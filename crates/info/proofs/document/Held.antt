-- What settings give fits a card: each number has its field's width, and the kind is volume.
use Prim.Native.Nat.{ℕ, zero, suc, ◌+◌, ◌^◌, ◌≤◌, ◌<◌}
use mathlib.Core.Path.{◌≡◌, refl}
use mathlib.Core.Bool.{Bool, true, false, ◌||◌}
use mathlib.Core.List.{List}
use native.Mathlib.Omega.{arith}
use borrow.Author.Tests.{ltb-true, ltb-false, leb-false}
use lib.Dec.{ltb, leb, eqb}
use lib.ListN.{get_or}
use Rattle.refusal.specs.Choice.{pick}
use Rattle.refusal.proofs.Tests.{neither}
use Rattle.json_text.specs.tokens.Bytes.{is_digit}
use Rattle.json_text.specs.tokens.Parts.{digits}
use Rattle.morton.specs.grid.Grid.{InU32}
use Rattle.morton.specs.declared.grid.Offset.{Offset}
use Rattle.sharding.specs.Specification.{volume}
use Rattle.card.specs.fields.Twos.{bits32, InI32}
use Rattle.card.specs.Layout.{Ranged}
use Rattle.card.proofs.fields.Words.{signed_in}
use Rattle.std.specs.Prelude.{Option, Some, None, Ok, Err, Result}
use Rattle.json_text.specs.members.Places.{Given, elements, is_text, member, needed, three_of, lone_of}
use Rattle.json_text.specs.declared.members.NotOnce.TheVariants.{Never, Twice}
use Rattle.morton.specs.declared.grid.Extents.{Extents}
use Rattle.morton.specs.declared.grid.Volume.{Volume}
use Rattle.card.specs.declared.Card.{Card}
use Rattle.sharding.specs.declared.Sharding.{Sharding}
use Rattle.json_text.specs.declared.members.Three.{Three}
use Rattle.info.specs.declared.sharding_members.SettingsError.{SettingsError}
use Rattle.info.specs.declared.sharding_members.SettingsError.TheVariants.{UnknownHash, Wrong}
use Rattle.info.specs.numbers.Numbers.{when_some, decimal_at, goes_on_of, in32, digits_from_of, whole_from, natural_at, negative, above_of, below_of, coordinate_at}
use Rattle.info.specs.sharding_members.Words.{size_name, chunks_name, offset_name, sharding_name, preshift_name, hash_name, minishard_bits_name, shard_bits_name, identity_text, murmur_text}
use Rattle.info.specs.scale.Scale.{extents_of, extents_at, offset_of, offset_at_of, size_in, chunk_in, offset_by, offset_in, volume_in, formed, hash_in, number_in, numbers_of, numbers_in, sharding_at, sharding_in, settings_by, settings_at}
use Rattle.info.specs.sharding_members.Values.{hash_at, hashed_by, sharding_of}
use Rattle.info.specs.Settings.{scale_at, settings_of}

-- ---- numbers are of 32 bits

abbrev Held : Option ℕ → Type 0
Held (Some n) = n < 2 ^ 32
Held None = Unit {0}

held-pick : (b : Bool) (x y : Option ℕ) → Held x → Held y → Held (pick b x y)
held-pick true x y p q = p
held-pick false x y p q = q

in32-held : (n : ℕ) → Held (in32 n)
unfolding in32
in32-held n = go (ltb n (2 ^ 32)) refl
  where
    go : (b : Bool) → ltb n (2 ^ 32) ≡ b → Held (pick b (Some n) None)
    go true e = ltb-true n (2 ^ 32) e
    go false e = tt

whole-held : (s : List ℕ) (p : ℕ) → Held (whole_from s p)
unfolding whole_from digits_from_of
whole-held s p =
    held-pick (is_digit (get_or s p 0)) (pick (goes_on_of (get_or s (digits s p) 0)) None (in32 (decimal_at s p))) None
    (held-pick (goes_on_of (get_or s (digits s p) 0)) None (in32 (decimal_at s p)) tt (in32-held (decimal_at s p))) tt

zero_held : (w : Option ℕ) → Held (when_some w None (λ n. pick (eqb n 0) (Some 0) None))
zero_held (Some n) = held-pick (eqb n 0) (Some 0) None (omega arith) tt
zero_held None = tt

natural-held : (s : List ℕ) (p : ℕ) → Held (natural_at s p)
unfolding natural_at
natural-held s p =
    held-pick (eqb (get_or s p 0) 0x2D) (when_some (whole_from s (p + 1)) None (λ n. pick (eqb n 0) (Some 0) None)) (whole_from s p)
    (zero_held (whole_from s (p + 1))) (whole-held s p)

above-held : (w : Option ℕ) → Held w → Held (above_of w)
unfolding above_of
above-held (Some n) h = held-pick (ltb n (2 ^ 31)) (Some n) None h tt
above-held None h = tt

negative-below : (n : ℕ) → n ≤ 2 ^ 31 → bits32 (negative n) < 2 ^ 32
unfolding bits32 negative
negative-below zero h = omega arith
negative-below (suc n) h = omega arith

below-held : (w : Option ℕ) → Held (below_of w)
unfolding below_of
below-held None = tt
below-held (Some n) = go (ltb (2 ^ 31) n) refl
  where
    go : (b : Bool) → ltb (2 ^ 31) n ≡ b → Held (pick b None (Some (bits32 (negative n))))
    go true e = tt
    go false e = negative-below n (ltb-false (2 ^ 31) n e)

coordinate_held : (s : List ℕ) (p : ℕ) → Held (coordinate_at s p)
unfolding coordinate_at
coordinate_held s p =
    held-pick (eqb (get_or s p 0) 0x2D) (below_of (whole_from s (p + 1))) (above_of (whole_from s p))
    (below-held (whole_from s (p + 1))) (above-held (whole_from s p) (whole-held s p))

-- ---- the volume fits a card

abbrev ExtentsHeld : Option Extents → Type 0
ExtentsHeld (Some e) = InU32 e
ExtentsHeld None = Unit {0}

abbrev InOffset : Offset → Type 0
InOffset o = InI32 o.x × InI32 o.y × InI32 o.z

abbrev OffsetHeld : Option Offset → Type 0
OffsetHeld (Some o) = InOffset o
OffsetHeld None = Unit {0}

extents-held : (p q r : Option ℕ) → Held p → Held q → Held r → ExtentsHeld (extents_of p q r)
unfolding extents_of
extents-held (Some x) (Some y) (Some z) a b c = record { x = a; y = b; z = c }
extents-held (Some x) (Some y) None a b c = tt
extents-held (Some x) None r a b c = tt
extents-held None q r a b c = tt

offset-held : (p q r : Option ℕ) → Held p → Held q → Held r → OffsetHeld (offset_of p q r)
unfolding offset_of
offset-held (Some x) (Some y) (Some z) a b c = (signed_in x a, signed_in y b, signed_in z c)
offset-held (Some x) (Some y) None a b c = tt
offset-held (Some x) None r a b c = tt
offset-held None q r a b c = tt

module _ (s : List ℕ) where
  extents_by : (w : Option Three) → ExtentsHeld (when_some w None (λ t. extents_of (natural_at s t.x) (natural_at s t.y) (natural_at s t.z)))
  extents_by (Some t) =
      extents-held (natural_at s t.x) (natural_at s t.y) (natural_at s t.z) (natural-held s t.x) (natural-held s t.y) (natural-held s t.z)
  extents_by None = tt

  extents-at-held : (p : ℕ) → ExtentsHeld (extents_at s p)
  unfolding extents_at
  extents-at-held p = extents_by (three_of (elements s p))

  offset-by : (w : Option Three) → OffsetHeld (when_some w None (λ t. offset_of (coordinate_at s t.x) (coordinate_at s t.y) (coordinate_at s t.z)))
  offset-by (Some t) =
      offset-held (coordinate_at s t.x) (coordinate_at s t.y) (coordinate_at s t.z) (coordinate_held s t.x) (coordinate_held s t.y) (coordinate_held s t.z)
  offset-by None = tt

  offset-at-held : (p : ℕ) → OffsetHeld (offset_at_of s p)
  unfolding offset_at_of
  offset-at-held p = offset-by (three_of (elements s p))

  at_held : (q : Option ℕ) → ExtentsHeld (when_some q None (extents_at s))
  at_held (Some v) = extents-at-held v
  at_held None = tt

  size-held : (p : ℕ) → ExtentsHeld (size_in s p)
  unfolding size_in
  size-held p = at_held (needed size_name s p)

  lone_held : (q : Option ℕ) → ExtentsHeld (when_some q None (λ v. when_some (lone_of (elements s v)) None (extents_at s)))
  lone_held (Some v) = at_held (lone_of (elements s v))
  lone_held None = tt

  chunk-held : (p : ℕ) → ExtentsHeld (chunk_in s p)
  unfolding chunk_in
  chunk-held p = lone_held (needed chunks_name s p)

  found-held : (f : Given) → OffsetHeld (offset_by s f)
  unfolding offset_by
  found-held (Ok v) = offset-at-held v
  found-held (Err Never) = (omega arith, omega arith, omega arith)
  found-held (Err Twice) = tt

  offset_in_held : (p : ℕ) → OffsetHeld (offset_in s p)
  unfolding offset_in
  offset_in_held p = found-held (member offset_name s p)

-- ---- the sharding too

abbrev ShardingHeld : Result Sharding SettingsError → Type 0
ShardingHeld (Ok g) = (g.preshift < 256) × (g.hash < 256) × (g.minishard_bits < 256) × (g.shard_bits < 256) × (g.kind ≡ volume)
ShardingHeld (Err UnknownHash) = Unit {0}
ShardingHeld (Err Wrong) = Unit {0}

abbrev HashHeld : Result ℕ SettingsError → Type 0
HashHeld (Ok h) = h < 256
HashHeld (Err UnknownHash) = Unit {0}
HashHeld (Err Wrong) = Unit {0}

hash-held_by : (x y z : Bool) → HashHeld (pick x (pick y (Ok 0) (pick z (Ok 1) (Err UnknownHash))) (Err Wrong))
hash-held_by true true z = omega arith
hash-held_by true false true = omega arith
hash-held_by true false false = tt
hash-held_by false y z = tt

hash-held : (s : List ℕ) (q : Option ℕ) → HashHeld (when_some q (Err Wrong) (hash_at s))
unfolding hash_at
hash-held s (Some v) = hash-held_by (eqb (get_or s v 0) 0x22) (is_text identity_text s v) (is_text murmur_text s v)
hash-held s None = tt

sharding_of_held : (a : ℕ) (h : Result ℕ SettingsError) (m n : ℕ) → HashHeld h → ShardingHeld (sharding_of a h m n)
unfolding sharding_of hashed_by
sharding_of_held a h m n hh = go (leb 256 a || (leb 256 m || leb 256 n)) refl h hh
  where
    go : (b : Bool) → leb 256 a || (leb 256 m || leb 256 n) ≡ b → (h : Result ℕ SettingsError) → HashHeld h → ShardingHeld (pick b (Err Wrong) (hashed_by a h m n))
    go true e h hh = tt
    go false e (Ok h) hh =
        let q = neither (leb 256 a) (leb 256 m || leb 256 n) e in
        let r = neither (leb 256 m) (leb 256 n) q.1 in
        (leb-false 256 a q.0, hh, leb-false 256 m r.0, leb-false 256 n r.1, refl)
    go false e (Err UnknownHash) hh = tt
    go false e (Err Wrong) hh = tt

numbers-held : (p : Option ℕ) (h : Result ℕ SettingsError) (r t : Option ℕ) → HashHeld h → ShardingHeld (numbers_of p h r t)
unfolding numbers_of
numbers-held (Some a) h (Some m) (Some n) hh = sharding_of_held a h m n hh
numbers-held (Some a) h (Some m) None hh = tt
numbers-held (Some a) h None t hh = tt
numbers-held None h r t hh = tt

formed-held : (s : List ℕ) (p : ℕ) (b : Bool) → ShardingHeld (pick b (numbers_in s p) (Err Wrong))
unfolding numbers_in hash_in
formed-held s p true = numbers-held (number_in preshift_name s p) (hash_in s p) (number_in minishard_bits_name s p) (number_in shard_bits_name s p) (hash-held s (needed hash_name s p))
formed-held s p false = tt

named-held : (s : List ℕ) (q : Option ℕ) → ShardingHeld (when_some q (Err Wrong) (sharding_at s))
unfolding sharding_at
named-held s (Some v) = formed-held s v (formed s v)
named-held s None = tt

sharding-held : (s : List ℕ) (p : ℕ) → ShardingHeld (sharding_in s p)
unfolding sharding_in
sharding-held s p = named-held s (needed sharding_name s p)

-- ---- the settings

abbrev pub SettingsHeld : Result Card SettingsError → Type 0
SettingsHeld (Ok c) = Ranged c × (c.sharding.kind ≡ volume)
SettingsHeld (Err UnknownHash) = Unit {0}
SettingsHeld (Err Wrong) = Unit {0}

abbrev volume_by : Option Extents → Option Extents → Option Offset → Option Volume
volume_by a b d =
    when_some a None (λ e. when_some b None (λ f. when_some d None (λ o. Some (record { size = e; chunk = f; offset = o }))))

settings-by : (g : Result Sharding SettingsError) (a b : Option Extents) (d : Option Offset) → ShardingHeld g → ExtentsHeld a → ExtentsHeld b → OffsetHeld d
    → SettingsHeld (when_some (volume_by a b d) (Err Wrong) (λ v. settings_by v g))
unfolding settings_by
settings-by g None b d h i j k = tt
settings-by g (Some a) None d h i j k = tt
settings-by g (Some a) (Some b) None h i j k = tt
settings-by (Err Wrong) (Some a) (Some b) (Some o) h i j k = tt
settings-by (Err UnknownHash) (Some a) (Some b) (Some o) h i j k = tt
settings-by (Ok g) (Some a) (Some b) (Some o) h i j k = (
  record {
    preshift = h.0;
    hash = h.1;
    minishard = h.2;
    shard = h.3;
    size = i;
    chunk = j;
    x = k.0;
    y = k.1;
    z = k.2;
  },
  h.4,
)

settings_held : (s : List ℕ) (p : ℕ) → SettingsHeld (settings_at s p)
unfolding settings_at volume_in
settings_held s p =
    settings-by (sharding_in s p) (size_in s p) (chunk_in s p) (offset_in s p) (sharding-held s p) (size-held s p) (chunk-held s p) (offset_in_held s p)

scale-held : (s : List ℕ) (q : Option ℕ) → SettingsHeld (when_some q (Err Wrong) (settings_at s))
scale-held s (Some p) = settings_held s p
scale-held s None = tt

pub of_held : (s : List ℕ) (k : ℕ) → SettingsHeld (settings_of s k)
unfolding settings_of
of_held s k = scale-held s (scale_at s k)
