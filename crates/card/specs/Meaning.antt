-- "One meaning has one card" (RULES C5).
use Rattle.std.specs.Prelude.{ℕ, ◌≡◌, ◌↔◌, ◌⊎◌, List, length, take, Ok}
use Rattle.refusal.specs.Answers.{refuse}
use Rattle.sharding.specs.Specification.{volume, mesh}
use Rattle.card.specs.declared.Card.{Card}
use Rattle.card.specs.Layout.{card_bytes, Ranged, Bytes}
use Rattle.card.specs.Answers.{fault, read_answer, write_answer, write_left}

-- RULES C5
pub record OneCard : Type 0 where
  -- two cards that say the same are the same bytes
  pub same : (a b : List ℕ) (c : Card) → Bytes a → Bytes b → read_answer a ≡ Ok c → read_answer b ≡ Ok c → a ≡ b
  -- bytes say a record exactly when they are that record's bytes, each number has its field's width and 1, 2 and 3 do not hold
  pub only : (s : List ℕ) (c : Card) → Bytes s → (read_answer s ≡ Ok c) ↔ ((s ≡ card_bytes c) × (Ranged c × (fault c ≡ 0)))
  -- and are malformed, 14, exactly when they are no record's bytes
  pub malformed : (s : List ℕ) → Bytes s → (read_answer s ≡ refuse 14) ↔ ((c : Card) → Ranged c → s ≡ card_bytes c → ⊥)
  -- "A card has 46 or 61 bytes", and "a mesh card has 50 or 65" (RULES C1)
  pub long : (c : Card) → c.sharding.kind ≡ volume → (length (card_bytes c) ≡ 46) ⊎ (length (card_bytes c) ≡ 61)
  pub long_mesh : (c : Card) → c.sharding.kind ≡ mesh → (length (card_bytes c) ≡ 50) ⊎ (length (card_bytes c) ≡ 65)
  -- what is written for a record are these bytes, and they say the record
  pub written : (c : Card) (out : List ℕ) (n : ℕ) → Ranged c → write_answer c out ≡ Ok n
      → (take n (write_left c out) ≡ card_bytes c) × (read_answer (take n (write_left c out)) ≡ Ok c)
