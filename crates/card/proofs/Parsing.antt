-- What the functions that read a card need, a law for each way out.
use Prim.Native.Nat.{ℕ, ◌+◌}
use mathlib.Core.Path.{◌≡◌}
use mathlib.Core.Bool.{true, false, ◌||◌}
use mathlib.Core.List.{List}
use borrow.Author.Rules.{rules}
use lib.Dec.{eqb}
use lib.IntN.{pos}
use lib.ListN.{length, get_or}
use Rattle.endian.specs.Little.{le_at}
use Rattle.morton.specs.declared.grid.Extents.{Extents}
use Rattle.morton.specs.declared.grid.Offset.{Offset}
use Rattle.morton.specs.declared.grid.Volume.{Volume}
use Rattle.sharding.specs.declared.Sharding.{Sharding}
use Rattle.card.proofs.form.Parsing.{room_46, room_31, room_61}
use Rattle.card.specs.declared.Card.{Card}
use Rattle.card.specs.fields.Fields.{card_offset_at}
use Rattle.card.specs.Reading.{card_extents_at, kind_in, card_sharding, offset_in, card_volume, card_in}

pub sharding-made : (s : List ℕ) {a b c d k : ℕ} → a ≡ get_or s 3 0 → b ≡ get_or s 7 0 → c ≡ get_or s 11 0 → d ≡ get_or s 15 0 → k ≡ kind_in s
    → ◌≡◌ {A = Sharding} (record { preshift = a; hash = b; minishard_bits = c; shard_bits = d; kind = k }) (card_sharding s)
unfolding card_sharding
sharding-made s p q r t k = λ i. record { preshift = p i; hash = q i; minishard_bits = r i; shard_bits = t i; kind = k i }

pub extents-made : (s : List ℕ) (at : ℕ) {x y z : ℕ} → x ≡ le_at 4 s at → y ≡ le_at 4 s (at + 4) → z ≡ le_at 4 s (at + 8)
    → ◌≡◌ {A = Extents} (record { x = x; y = y; z = z }) (card_extents_at s at)
unfolding card_extents_at
extents-made s at p q r = λ i. record { x = p i; y = q i; z = r i }

-- ---- what the fields say
module _ (s : List ℕ) where
  pub offset-none : (eqb (length s) 46 || eqb (length s) 50) ≡ true → ◌≡◌ {A = Offset} (record { x = pos 0; y = pos 0; z = pos 0 }) (offset_in s)
  unfolding offset_in
  offset-none h = rw h

  pub offset-some : {o : Offset} → (eqb (length s) 46 || eqb (length s) 50) ≡ false → o ≡ card_offset_at s 49 → o ≡ offset_in s
  unfolding offset_in
  offset-some h p = rw h p

  pub volume-made : {e f : Extents} {o : Offset} → e ≡ card_extents_at s 19 → f ≡ card_extents_at s 34 → o ≡ offset_in s
      → ◌≡◌ {A = Volume} (record { size = e; chunk = f; offset = o }) (card_volume s)
  unfolding card_volume
  volume-made p q r = λ i. record { size = p i; chunk = q i; offset = r i }

  pub card-made : {h : Sharding} {v : Volume} → h ≡ card_sharding s → v ≡ card_volume s → ◌≡◌ {A = Card} (record { sharding = h; volume = v }) (card_in s)
  unfolding card_in
  card-made p q = λ i. record { sharding = p i; volume = q i }

  pub kind-mesh : (eqb (length s) 50 || eqb (length s) 65) ≡ true → 1 ≡ kind_in s
  unfolding kind_in
  kind-mesh h = rw h

  pub kind-volume : (eqb (length s) 50 || eqb (length s) 65) ≡ false → 0 ≡ kind_in s
  unfolding kind_in
  kind-volume h = rw h

pub ruleset parsing = (
  sharding-made,
  extents-made,
  kind-mesh,
  kind-volume,
  room_46,
  room_31,
  room_61,
  offset-none,
  offset-some,
  volume-made,
  card-made,
  rules,
)
