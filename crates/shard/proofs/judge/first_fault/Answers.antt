use Rattle.std.proofs.Common.{refl, ◌∙◌, rules}
use Rattle.shard.proofs.Split.{index_short}
use Rattle.shard.proofs.Walks.{walk_start, walk_end, ours-turn, span-start, span-turn, span-readable}
use Rattle.shard.proofs.Loops.{search_start, search_end, search_empty, search_next, end_before, end-past, end_ragged, end-twice, test-places, test-next, end-place, end-start, end-size, end-given}
use Rattle.shard.proofs.judge.Room.{rows, minishard-small, rows_inside, size-inside, id-place, start-place}
use Rattle.shard.proofs.judge.first_fault.Goals as goal
use Rattle.shard.proofs.judge.first_fault.Goals.{then-s-e+else-len-e+else-e-s-ne0+else-again-n+else-places-test+else-ends-test+else-bad-ne0, else-s-e}

-- ---- 'minishards: the entry of m in the shard index
pub minishards-init : goal.minishards-init
minishards-init c = (search rules, search_start, search rules, search index_short)

-- e < s: 7
pub entry_fault-found-requires : goal.entry_fault-found-requires
entry_fault-found-requires c = search minishard-small

-- the file ends before e: 7
pub entry_fault-found-requires-then-len-e : goal.entry_fault-found-requires-then-len-e
entry_fault-found-requires-then-len-e c = search minishard-small

-- not whole entries: 8
pub entry_fault-found-requires-then-e-s-ne0 : goal.entry_fault-found-requires-then-e-s-ne0
entry_fault-found-requires-then-e-s-ne0 c = search minishard-small

-- an id twice: 9
pub row_fault-found-requires : goal.row_fault-found-requires
row_fault-found-requires c =
    let v = c.minishards.invariant in
    id-place (rows c.if-s-e.true c.if-len-e.false v.2 v.3) c.if-again-n.true

-- ---- 'places: test 10, one id after the other
pub places-init : goal.places-init
places-init c = (search rules, search test-places, walk_start _ _ _, search rows)

-- a foreign id: 10
pub row_fault-found-requires-then-is_foreign : goal.row_fault-found-requires-then-is_foreign
row_fault-found-requires-then-is_foreign c = search id-place

pub places-preserved : goal.places-preserved
places-preserved c =
    let v = c.places.invariant in (
      v.0,
      v.1,
      ours-turn _ _ _ v.2 c.places-test.true c.read_u64-own.ensures.0 refl c.is_foreign.ensures c.if-is_foreign.false,
      v.3,
    )

-- ---- 'ends: test 11, one chunk after the other
pub ends-init : goal.ends-init
ends-init c =
    let v = c.places.invariant in
    (v.0, test-next v.1 (walk_end v.2 c.places-test.false), span-start _ _ _ _, v.3)

pub read_u64-size-requires : goal.read_u64-size-requires
read_u64-size-requires c = size-inside c.ends.invariant.3 c.ends-test.true

-- a chunk starts past the file: 11
pub row_fault-found-requires-then-len-start : goal.row_fault-found-requires-then-len-start
row_fault-found-requires-then-len-start c =
    start-place c.ends.invariant.3 c.ends-test.true

-- it ends past the file: 11
pub row_fault-found-requires-then-len-start-2 : goal.row_fault-found-requires-then-len-start-2
row_fault-found-requires-then-len-start-2 c =
    start-place c.ends.invariant.3 c.ends-test.true

pub ends-preserved : goal.ends-preserved
ends-preserved c =
    let v = c.ends.invariant in (
      v.0,
      v.1,
      span-turn v.2 c.ends-test.true c.read_u64.ensures.0 refl c.read_u64-size.ensures.0
          c.if-len-start.false c.if-len-start-2.false v.3.short,
      v.3,
    )

-- ---- the tests of a mesh
pub mesh_fault-bad-requires : goal.mesh_fault-bad-requires
mesh_fault-bad-requires c =
    let v = c.ends.invariant in
    span-readable _ _ v.3.near v.3.short (rows_inside v.3) v.2 c.ends-test.false

-- ---- 'minishards: once more, and at its end
pub minishards-preserved : goal.minishards-preserved
minishards-preserved c =
    elim c.if-s-e.branch [
      | then-s-e+else-len-e+else-e-s-ne0+else-again-n+else-places-test+else-ends-test+else-bad-ne0 w ↦
          let v = w.ends.invariant in
          (w.found-is ∙ v.0, search_next v.1 v.2 w.ends-test.false w.mesh_fault-bad.ensures w.if-bad-ne0.false, v.3.short, v.3.near)
      | else-s-e w ↦
          let v = c.minishards.invariant in
          (w.found-is ∙ v.0, search search_empty, v.2, v.3)
    ]

pub returns-after-minishards : goal.returns-after-minishards
returns-after-minishards c = search search_end

pub returns-then-e-s : goal.returns-then-e-s
returns-then-e-s c = search end_before

pub returns-then-len-e : goal.returns-then-len-e
returns-then-len-e c = search end-past

pub returns-then-e-s-ne0 : goal.returns-then-e-s-ne0
returns-then-e-s-ne0 c = search end_ragged

pub returns-then-again-n : goal.returns-then-again-n
returns-then-again-n c = search end-twice

pub returns-then-is_foreign : goal.returns-then-is_foreign
returns-then-is_foreign c =
    let v = c.places.invariant in
    end-place _ _ _ _ _ c.row_fault-found-then-is_foreign.ensures v.1 v.2 c.places-test.true c.read_u64-own.ensures.0 refl
    c.is_foreign.ensures c.if-is_foreign.true

pub returns-then-len-start : goal.returns-then-len-start
returns-then-len-start c =
    let v = c.ends.invariant in
    end-start _ _ _ refl c.row_fault-found-then-len-start.ensures v.1 v.2 c.ends-test.true c.read_u64.ensures.0 refl c.read_u64-size.ensures.0
    c.if-len-start.true

pub returns-then-len-start-2 : goal.returns-then-len-start-2
returns-then-len-start-2 c =
    let v = c.ends.invariant in
    end-size _ _ _ refl c.row_fault-found-then-len-start-2.ensures v.1 v.2 c.ends-test.true c.read_u64.ensures.0 refl c.read_u64-size.ensures.0
    c.if-len-start.false c.if-len-start-2.true

pub returns-then-bad-ne0 : goal.returns-then-bad-ne0
returns-then-bad-ne0 c = search end-given
