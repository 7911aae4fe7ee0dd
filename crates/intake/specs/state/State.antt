-- The state of an intake in plain numbers, and tests that every state passes that calls left (RULES N1, N8). Places count from the end of the shard
-- index.
use Rattle.std.specs.Prelude.{ℕ, ◌+◌, ◌*◌, ◌-◌, ◌≤◌, ◌<◌, min, ◌≡◌, Bool, true, not, ◌&&◌, ◌||◌, List, ltb, leb, eqb}
use Rattle.refusal.specs.Choice.{pick}
use Rattle.endian.specs.Range.{sum_to, every}
use Rattle.sharding.specs.declared.Sharding.{Sharding}
use Rattle.sharding.specs.Specification.{is_mesh, allowed, minishard_count_of, no_such_shard}
use Rattle.sharding.specs.placement.Place.{shard_of, minishard_of}
use Rattle.shard.specs.index.Index.{most_shard_bytes}
use Rattle.shard.specs.File.{index_length_of}
use Rattle.intake.specs.waiting.Held.{id_held, size_held}
use Rattle.intake.specs.declared.state.Intake.{Intake}

-- ---- lengths

-- no form may be longer than the output or than 1 GiB
abbrev pub most : ℕ → ℕ
most output = min output most_shard_bytes

-- the length of the settled form of all that was announced: the shard index; the chunks' bytes that came, with the minishard indexes that were
-- written between them, and that are owed; and 24 bytes of minishard index for each chunk of the open minishard
abbrev pub announced_length : Intake → ℕ
announced_length s = index_length_of s.spec + (s.next + (s.owed + 24 * s.count))

-- ---- a state

-- 1 of a specification, "also for a mesh shard"
unfoldable pub not_volume : Sharding → Bool
not_volume spec = not (allowed spec) || is_mesh spec

-- with no chunk announced, all is as on opening
unfoldable pub fresh : Intake → Bool
fresh s = eqb s.minishard 0 && (eqb s.last 0 && (eqb s.begin 0 && (eqb s.next 0 && eqb s.owed 0)))

-- an id of the shard and of the open minishard
unfoldable pub belongs : Intake → ℕ → Bool
belongs s id = eqb (shard_of s.spec id) s.shard && eqb (minishard_of s.spec id) s.minishard

-- with some, the last id is such a one, and as many ids as chunks are not above it,
unfoldable pub placed : Intake → Bool
placed s = belongs s s.last && leb (s.count - 1) s.last

-- the open minishard began where the next byte goes, or before that: where the data does, or, if it is not the first, behind a minishard index,
unfoldable pub begun : Intake → Bool
begun s = leb s.begin s.next && (eqb s.begin 0 || (ltb 0 s.minishard && leb 24 s.begin))

-- a last chunk of this size is among what came of the open minishard or is owed; an only one is all of that,
unfoldable pub spans : Intake → ℕ → Bool
spans s size = leb (s.begin + size) (s.next + s.owed) && (ltb 1 s.count || eqb (s.begin + size) (s.next + s.owed))

-- and the last pair that waits is the last chunk's: its id, and its size, of which no more is owed
unfoldable pub waits : Intake → List ℕ → Bool
waits s w =
    eqb (id_held w (s.count - 1)) s.last
    && (leb s.owed (size_held w (s.count - 1)) && spans s (size_held w (s.count - 1)))

unfoldable pub going : Intake → List ℕ → Bool
going s w = placed s && (begun s && waits s w)

-- the numbers of the state contradict neither each other, nor the lengths, nor the last pair that waits: every state that calls left passes. Not
-- compared are the pairs before the last one, what stands in the output, and whether a minishard before the open one has any id (RULES N8)
unfoldable pub sane : Intake → List ℕ → Bool
sane s w =
    not (not_volume s.spec)
    && (not (no_such_shard s.spec s.shard)
    && (leb (16 * s.count) s.waiting
    && (leb (announced_length s) (most s.output) && pick (eqb s.count 0) (fresh s) (going s w))))

-- ---- the pairs that wait, all of them: a call that ends the open minishard asks

-- pair i could have been announced behind the pairs before it: "Chunks come by rising minishard, then rising id"
unfoldable pub follows : Intake → List ℕ → ℕ → Bool
follows s w i = belongs s (id_held w i) && (eqb i 0 || ltb (id_held w (i - 1)) (id_held w i))

-- calls could have left the pairs of the open minishard: each could have been announced in its turn, and their sizes together are the bytes that came
-- of the minishard and those that are owed (RULES N8)
unfoldable pub announceable : Intake → List ℕ → Bool
announceable s w =
    every (follows s w) s.count && eqb (s.begin + sum_to (size_held w) s.count) (s.next + s.owed)

-- ---- what a call may rely on

-- of a state that passed, and of the lengths of the buffers that it goes with: what keeps a call within them
pub record Usable (s : Intake) (output waiting : ℕ) : Type 0 where
  pub outputs : s.output ≡ output
  pub waits : s.waiting ≡ waiting
  pub permitted : allowed s.spec ≡ true
  pub below : s.minishard < minishard_count_of s.spec
  pub held : 16 * s.count ≤ s.waiting
  pub room : announced_length s ≤ most s.output
