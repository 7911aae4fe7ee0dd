use Rattle.std.proofs.Common.{arith}
use Rattle.settle.proofs.item_runs.Copying.{rows_inside, rows-lead, rows_out, copying_rows}
use Rattle.settle.proofs.item_runs.copy_items.Goals as goal

pub lead_length-lead-requires : goal.lead_length-lead-requires
lead_length-lead-requires c = search copying_rows

pub overflow_add-len : goal.overflow_add-len
overflow_add-len c = search copying_rows

pub overflow_sub-start : goal.overflow_sub-start
overflow_sub-start c = search copying_rows

-- the item of row i lies in the data, and there is room for it before the index
pub copy_bytes-requires : goal.copy_bytes-requires
copy_bytes-requires c =
    let at-lead = c in
    let at-get = at-lead in
    let at_test = at-get in
    let inv = at_test.loop-i.invariant in
    let pre = at_test.requires in
    let row = at-get.get-e.ensures.0 in
    let lead = at-lead.lead_length-lead.ensures in (
      omega (arith, rows_inside inv pre.in_data.0 (omega arith) _ row, rows-lead inv pre.in_data.0 (omega arith) _ row _ lead),
      omega (arith, rows_out inv pre.in_data.0 (omega arith) _ row _ lead pre.n_bound.0 pre.n_bound.1),
    )

pub overflow_add-place : goal.overflow_add-place
overflow_add-place c = search copying_rows

pub overflow_add-to : goal.overflow_add-to
overflow_add-to c = search copying_rows

pub loop-i-preserved : goal.loop-i-preserved
loop-i-preserved c = search copying_rows

pub returns : goal.returns
returns c = search copying_rows
