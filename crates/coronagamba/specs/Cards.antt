-- Deposit cards across the C border: what the lent numbers hold afterwards. Three numbers are x, y and z.
use Rattle.std.specs.Prelude.{ℕ, List, [], ◌∷◌, ℤ}
use Rattle.sharding.specs.Specification.{minishard_bits_of, shard_bits_of}
use Rattle.card.specs.declared.Card.{Card}
use Rattle.refusal.specs.Answers.{Answer}
use Rattle.card.specs.Answers.{card_result}
use Rattle.coronagamba.specs.word.Word.{after}

-- preshift, hash, minishard bits, shard bits, kind
unfoldable pub sharding_after : Answer Card → List ℕ → List ℕ
sharding_after a before =
    after
    (λ (c : Card). c.sharding.preshift ∷ c.sharding.hash ∷ minishard_bits_of c.sharding ∷ shard_bits_of c.sharding ∷ c.sharding.kind ∷ [])
    (card_result a) before

unfoldable pub volume_after : Answer Card → List ℕ → List ℕ
volume_after a before = after (λ (c : Card). c.volume.size.x ∷ c.volume.size.y ∷ c.volume.size.z ∷ []) (card_result a) before

unfoldable pub chunk_after : Answer Card → List ℕ → List ℕ
chunk_after a before = after (λ (c : Card). c.volume.chunk.x ∷ c.volume.chunk.y ∷ c.volume.chunk.z ∷ []) (card_result a) before

unfoldable pub offset_after : Answer Card → List ℤ → List ℤ
offset_after a before = after (λ (c : Card). c.volume.offset.x ∷ c.volume.offset.y ∷ c.volume.offset.z ∷ []) (card_result a) before
