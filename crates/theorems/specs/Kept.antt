-- What the check, lookup and settling answered before order 4, restated: a shard index of 16 × 2^minishard_bits bytes, at most 12 minishard bits. Within a
-- minishard they test and find as now. No code uses it. It is kept to say that "existing shards [..] keep their bytes and meaning" (RULES S9).
use Rattle.std.specs.Prelude.{ℕ, ◌*◌, ◌^◌, Bool, not, ◌||◌, List, [], ◌∷◌, ◌++◌, ltb, leb, eqb, length, take, drop}
use Rattle.refusal.specs.Checks.{Check, check, answered, answered_at, left}
use Rattle.refusal.specs.Buffer.{over}
use Rattle.sharding.specs.declared.Sharding.{Sharding}
use Rattle.sharding.specs.placement.Place.{shard_of}
use Rattle.sharding.specs.Before.{allowed_before}
use Rattle.shard.specs.declared.CheckAnswer.{CheckAnswer}
use Rattle.shard.specs.declared.CheckAnswer.TheVariants as C
use Rattle.shard.specs.Faults.{fault_of, first_fault}
use Rattle.shard.specs.Checks.{minishards_checks}
use Rattle.shard.specs.File.{check_verdict}
use Rattle.shard.specs.Items.{Item}
use Rattle.lookup.specs.declared.id_search.LookupAnswer.{LookupAnswer}
use Rattle.lookup.specs.declared.id_search.LookupAnswer.TheVariants as L
use Rattle.lookup.specs.chosen_minishard.Chosen.{chosen_checks, chosen_chunk}
use Rattle.settled_form.specs.Form.{settled, settled_length}
use Rattle.settled_form.specs.Content.{content_from}
use Rattle.refusal.specs.declared.CountAnswer.{CountAnswer}
use Rattle.refusal.specs.declared.CountAnswer.TheVariants as S

-- the minishards of a shard, its shard index, and the data behind it
abbrev pub minishards_before : Sharding → ℕ
minishards_before spec = 2 ^ spec.minishard_bits

abbrev pub index_before : Sharding → List ℕ → List ℕ
index_before spec file = take (16 * minishards_before spec) file

abbrev pub data_before : Sharding → List ℕ → List ℕ
data_before spec file = drop (16 * minishards_before spec) file

-- 5 of a shard number
abbrev pub no_shard_before : Sharding → ℕ → Bool
no_shard_before spec shard = leb (2 ^ spec.shard_bits) shard

-- 1, 5 and 6
unfoldable pub file_checks_before : Sharding → Bool → List ℕ → List Check
file_checks_before spec five file =
    check 1 (not (allowed_before spec)) ∷ check 5 five ∷ check 6 (ltb (length file) (16 * minishards_before spec) || ltb 1073741824 (length file)) ∷ []

unfoldable pub check_before : Sharding → ℕ → List ℕ → CheckAnswer
check_before spec shard file =
    answered C.Refused (file_checks_before spec (no_shard_before spec shard) file)
    (check_verdict (first_fault (fault_of spec shard (index_before spec file) (data_before spec file)) 0 (minishards_before spec)))

unfoldable pub lookup_before : Sharding → ℕ → List ℕ → ℕ → LookupAnswer
lookup_before spec shard file id =
    answered_at L.Refused L.Faulty
    (file_checks_before spec (no_shard_before spec shard || not (eqb (shard_of spec id) shard)) file ++ chosen_checks spec shard (index_before spec file) (data_before spec file) id)
    (chosen_chunk spec (index_before spec file) (data_before spec file) id)

unfoldable pub content_before : Sharding → List ℕ → List (List Item)
content_before spec file = content_from spec (index_before spec file) (data_before spec file) 0 (minishards_before spec)

-- settling dropped what was unlisted
unfoldable pub settling_before : Sharding → ℕ → List ℕ → List ℕ → List Check
settling_before spec shard file out =
    (file_checks_before spec (no_shard_before spec shard) file ++ minishards_checks spec shard (index_before spec file) (data_before spec file) 0 (minishards_before spec))
    ++ (check 13 (ltb (length out) (settled_length (content_before spec file)) || ltb 1073741824 (settled_length (content_before spec file))) ∷ [])

unfoldable pub settle_before : Sharding → ℕ → List ℕ → List ℕ → CountAnswer
settle_before spec shard file out = answered_at S.Refused S.Faulty (settling_before spec shard file out) (S.Count (settled_length (content_before spec file)))

unfoldable pub settle_left_before : Sharding → ℕ → List ℕ → List ℕ → List ℕ
settle_left_before spec shard file out = left (settling_before spec shard file out) (over (settled (content_before spec file)) out) out
