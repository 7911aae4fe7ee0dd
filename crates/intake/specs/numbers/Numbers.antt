-- The state of an intake as a row of 15 numbers, as C has it.
use Rattle.std.specs.Prelude.{ℕ, min, List, [], ◌∷◌, get_or}
use Rattle.sharding.specs.declared.Sharding.{Sharding}
use Rattle.sharding.specs.Specification.{minishard_bits_of, shard_bits_of}
use Rattle.intake.specs.declared.state.Intake.{Intake}

-- a number for which the state has 8 bits; one that has none there is 255, which no specification allows and no call leaves
abbrev pub narrow : ℕ → ℕ
narrow n = min n 255

-- the specification's five numbers, the shard, the lengths of the output and of the second buffer, then what the calls change (RULES N9)
unfoldable pub numbers_of : Intake → List ℕ
numbers_of s =
    s.spec.preshift ∷ s.spec.hash ∷ minishard_bits_of s.spec ∷ shard_bits_of s.spec ∷ s.spec.kind
    ∷ s.shard ∷ s.output ∷ s.waiting
    ∷ s.minishard ∷ s.count ∷ s.last ∷ s.begin ∷ s.next ∷ s.owed ∷ s.phase ∷ []

-- the specification that any 15 numbers are (RULES N9)
unfoldable pub spec_of : List ℕ → Sharding
spec_of xs = record {
  preshift = narrow (get_or xs 0 0);
  hash = narrow (get_or xs 1 0);
  minishard_bits = narrow (get_or xs 2 0);
  shard_bits = narrow (get_or xs 3 0);
  kind = narrow (get_or xs 4 0);
}

-- the state that they are (RULES N9)
unfoldable pub state_of : List ℕ → Intake
state_of xs = record {
  spec = spec_of xs;
  shard = get_or xs 5 0;
  output = get_or xs 6 0;
  waiting = get_or xs 7 0;
  minishard = get_or xs 8 0;
  count = get_or xs 9 0;
  last = get_or xs 10 0;
  begin = get_or xs 11 0;
  next = get_or xs 12 0;
  owed = get_or xs 13 0;
  phase = narrow (get_or xs 14 0);
}
