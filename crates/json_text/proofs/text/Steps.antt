-- What `is_json` needs: each way out as a case of its definition.
use Prim.Native.Nat.{ℕ}
use mathlib.Core.Path.{◌≡◌}
use mathlib.Core.List.{List}
use mathlib.Core.Bool.{false}
use lib.ListN.{length}
use lib.Dec.{eqb}
use Rattle.json_text.specs.tokens.Bytes.{same}
use Rattle.json_text.specs.tokens.Parts.{ws}
use Rattle.json_text.specs.Grammar.{end_of, value_at, ends_at, is_json}
use Rattle.json_text.proofs.Ahead.{value_ahead}
use Rattle.json_text.proofs.Steps.{no_end, some_end}

module _ (d : ℕ) (s : List ℕ) {j : ℕ} (ej : j ≡ ws s 0) {e : ℕ} (ee : e ≡ end_of (value_at d s j)) where
  pub json_none : e ≡ 0 → false ≡ is_json d s
  unfolding is_json ends_at
  json_none z = rw (← ej, no_end j (value_at d s j) (value_ahead d s j) ee z)

  pub json_ends : {k : ℕ} → (e ≡ 0 → ⊥) → k ≡ ws s e → eqb k (length s) ≡ is_json d s
  unfolding is_json ends_at same
  json_ends z w = rw (← ej, some_end (value_at d s j) ee z, ← w)
