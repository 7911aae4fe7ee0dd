use Rattle.std.proofs.Common.{refl, arith, rules}
use Rattle.settle.proofs.chunk_runs.StoredChunks.{inside, room_out, from-fits, to-fits, copying_next, copying}
use Rattle.settle.proofs.chunk_runs.copy_chunks.Goals as goal

pub loop-i-init : goal.loop-i-init
loop-i-init c = search copying

-- chunk i lies in the data, and there is room for it
pub copy_bytes-requires : goal.copy_bytes-requires
copy_bytes-requires c =
    let at_size = c in
    let at-step = at_size in
    let inv = at-step.loop-i.invariant in
    let step = at-step.read_u64.ensures.0 in
    let size = at_size.read_u64-size.ensures.0 in (
      inside (search rules) inv (omega arith) _ _ _ step refl size,
      room_out (search rules) inv (omega arith) _ _ _ step refl size (search rules),
    )

pub overflow_add-from : goal.overflow_add-from
overflow_add-from c =
    let at_size = c in
    let at-step = at_size in
    let inv = at-step.loop-i.invariant in
    let step = at-step.read_u64.ensures.0 in
    let size = at_size.read_u64-size.ensures.0 in
    from-fits (search rules) inv (omega arith) _ _ _ step refl size (search rules)

pub overflow_add-to : goal.overflow_add-to
overflow_add-to c =
    let at_size = c in
    let at-step = at_size in
    let inv = at-step.loop-i.invariant in
    let step = at-step.read_u64.ensures.0 in
    let size = at_size.read_u64-size.ensures.0 in
    to-fits (search rules) inv (omega arith) _ _ _ step refl size (search rules)

pub loop-i-preserved : goal.loop-i-preserved
loop-i-preserved c =
    let at_copy = c in
    let at_size = at_copy in
    let at-step = at_size in
    let inv = at-step.loop-i.invariant in
    let step = at-step.read_u64.ensures.0 in
    let size = at_size.read_u64-size.ensures.0 in
    copying_next (search rules) inv (omega arith) _ _ _ step refl size _ (search rules) (search rules) (search rules) at_copy.copy_bytes.ensures

pub returns : goal.returns
returns c = record { value = search copying; out_after = search copying }
