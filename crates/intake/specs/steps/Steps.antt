-- What the steps of an intake leave, once no test refuses the call (RULES N1 to N5): "Data goes to its final place in the output at once".
-- Places count from the end of the shard index.
use Rattle.std.specs.Prelude.{ℕ, ◌+◌, ◌*◌, ◌-◌, List, eqb}
use Rattle.refusal.specs.Choice.{pick}
use Rattle.endian.specs.Place.{paste}
use Rattle.sharding.specs.declared.Sharding.{Sharding}
use Rattle.sharding.specs.placement.Place.{minishard_of}
use Rattle.shard.specs.File.{index_length_of}
use Rattle.intake.specs.waiting.Held.{pair, index_held}
use Rattle.intake.specs.declared.state.Intake.{Intake}

-- ---- the end of a minishard

-- the output once the open minishard has ended: its minishard index behind its chunks, and its entry in the shard index; one with no chunk keeps the
-- entry 0, 0
unfoldable pub ended_left : Intake → List ℕ → List ℕ → List ℕ
ended_left s out w =
    pick (eqb s.count 0) out
    (paste (16 * s.minishard) (pair s.next (s.next + 24 * s.count))
    (paste (index_length_of s.spec + s.next) (index_held s.begin w s.count) out))

-- the state and the output when chunks of minishard m come: where that is another than the open one, the open one has ended, and m begins behind it
unfoldable pub turned : Intake → ℕ → Intake
turned s m =
    pick (eqb m s.minishard) s
    (record {
      spec = s.spec;
      shard = s.shard;
      output = s.output;
      waiting = s.waiting;
      minishard = m;
      count = 0;
      last = s.last;
      begin = s.next + 24 * s.count;
      next = s.next + 24 * s.count;
      owed = s.owed;
      phase = s.phase;
    })

unfoldable pub turned_left : Intake → ℕ → List ℕ → List ℕ → List ℕ
turned_left s m out w = pick (eqb m s.minishard) out (ended_left s out w)

-- ---- open

abbrev pub opened : Sharding → ℕ → ℕ → ℕ → Intake
opened spec shard output waiting = record {
  spec = spec;
  shard = shard;
  output = output;
  waiting = waiting;
  minishard = 0;
  count = 0;
  last = 0;
  begin = 0;
  next = 0;
  owed = 0;
  phase = 0;
}

-- ---- announce

-- one chunk more
abbrev pub noted : Intake → ℕ → ℕ → Intake
noted s id size = record {
  spec = s.spec;
  shard = s.shard;
  output = s.output;
  waiting = s.waiting;
  minishard = s.minishard;
  count = s.count + 1;
  last = id;
  begin = s.begin;
  next = s.next;
  owed = size;
  phase = s.phase;
}

abbrev pub announced : Intake → ℕ → ℕ → Intake
announced s id size = noted (turned s (minishard_of s.spec id)) id size

-- ---- part

abbrev pub taken : Intake → ℕ → Intake
taken s n = record {
  spec = s.spec;
  shard = s.shard;
  output = s.output;
  waiting = s.waiting;
  minishard = s.minishard;
  count = s.count;
  last = s.last;
  begin = s.begin;
  next = s.next + n;
  owed = s.owed - n;
  phase = s.phase;
}

-- ---- close

abbrev pub closed : Intake → Intake
closed s = record {
  spec = s.spec;
  shard = s.shard;
  output = s.output;
  waiting = s.waiting;
  minishard = s.minishard;
  count = s.count;
  last = s.last;
  begin = s.begin;
  next = s.next;
  owed = s.owed;
  phase = 1;
}
