-- The refusals of the four calls of an intake, "in that order": 30, 1, 5, 10, 25, 26, 13 (RULES N2 to N5, N8).
use Rattle.std.specs.Prelude.{ℕ, ◌||◌, List, [], ◌∷◌, ltb, length}
use Rattle.refusal.specs.Checks.{Check, check}
use Rattle.sharding.specs.declared.Sharding.{Sharding}
use Rattle.sharding.specs.Specification.{no_such_shard}
use Rattle.shard.specs.File.{index_length_of}
use Rattle.intake.specs.declared.state.Intake.{Intake}
use Rattle.intake.specs.state.State.{most, not_volume}
use Rattle.intake.specs.call_tests.Tests.{other_lengths, foreign, unusable, out_of_order, forged, forged_turn, no_room}

-- ---- the calls: of the output its length counts, of the second buffer also what it holds

-- RULES N2
unfoldable pub open_checks : Sharding → ℕ → ℕ → List Check
open_checks spec shard output =
    check 1 (not_volume spec) ∷ check 5 (no_such_shard spec shard) ∷ check 13 (ltb (most output) (index_length_of spec)) ∷ []

-- RULES N3
unfoldable pub announce_checks : Intake → ℕ → ℕ → ℕ → List ℕ → List Check
announce_checks s id size output w =
    check 30 (other_lengths s output (length w))
    ∷ check 10 (foreign s id)
    ∷ check 25 (unusable s w || (out_of_order s id || forged_turn s id w))
    ∷ check 26 (ltb 0 s.owed)
    ∷ check 13 (no_room s id size)
    ∷ []

-- "26 a part longer than what is still owed" (RULES N4)
unfoldable pub part_checks : Intake → ℕ → ℕ → List ℕ → List Check
part_checks s n output w = check 30 (other_lengths s output (length w)) ∷ check 25 (unusable s w) ∷ check 26 (ltb s.owed n) ∷ []

-- "or an announcement or close while bytes are owed" (RULES N5)
unfoldable pub close_checks : Intake → ℕ → List ℕ → List Check
close_checks s output w =
    check 30 (other_lengths s output (length w)) ∷ check 25 (unusable s w || forged s w) ∷ check 26 (ltb 0 s.owed) ∷ []
