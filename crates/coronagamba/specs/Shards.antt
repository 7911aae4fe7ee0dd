-- Shards across the C border: what the lent numbers hold afterwards.
use Rattle.std.specs.Prelude.{ℕ}
use Rattle.refusal.specs.declared.CountAnswer.{CountAnswer}
use Rattle.refusal.specs.Result.{count_result}
use Rattle.lookup.specs.declared.id_search.LookupAnswer.{LookupAnswer}
use Rattle.lookup.specs.Find.{lookup_result}
use Rattle.coronagamba.specs.word.Word.{after}

-- of a lookup or a fragment: where the bytes begin, and how many they are
unfoldable pub start_after : LookupAnswer → ℕ → ℕ
start_after a before = after (λ (v : ℕ × ℕ). v.0) (lookup_result a) before

unfoldable pub size_after : LookupAnswer → ℕ → ℕ
size_after a before = after (λ (v : ℕ × ℕ). v.1) (lookup_result a) before

-- of a count, a listing, the unlisted bytes, a settled form and its length: how many
unfoldable pub count_after : CountAnswer → ℕ → ℕ
count_after a before = after (λ (n : ℕ). n) (count_result a) before
