-- The answer of some of the entries.
use Rattle.std.proofs.Common.{◌≡◌, ℕ, ◌<◌, ◌≤◌, sym, ◌∙◌, arith}
use Rattle.endian.specs.Range.{first}
use Rattle.endian.proofs.Ranges.{any-no, first_hit, first_holds, first-before}
use Rattle.duplicate_ids.specs.ids.Ids.{id_at, repeats, first_twice}

pub twice_soon : (f : ℕ → ℕ) (n k : ℕ) {r : ℕ} → r ≡ first_twice f k → r < k → k ≤ n → r ≡ first_twice f n
unfolding first_twice
twice_soon f n k {r} e h l =
    let g = first_holds (repeats (id_at f)) k (omega arith) in
    e ∙ sym (first_hit (repeats (id_at f)) n (first (repeats (id_at f)) k) (any-no _ _ (λ j b. first-before (repeats (id_at f)) k j b)) (omega arith) g)
