-- The entries sorted where they will stand, the items in their order with their start steps, then the id steps.
-- Each call leaves one fact of `out`. The laws of `SortedWhole` hand it to the next call, and join the three at the end.
use Rattle.std.proofs.Common.{refl, arith, rules}
use Rattle.settle.proofs.sorted.SortedWhole.{sorted-inside, sorted_before, copied-room, copied-rising, sorted-written}
use Rattle.settle.proofs.sorted.settle_sorted.Goals as goal

-- the sorted entries lie in the data, and stand behind the room for their items
pub copy_items-requires : goal.copy_items-requires
copy_items-requires c =
    let at-sort = c in
    let sorted = at-sort.sort_index.ensures in
    let len = at-sort.part_length-len.ensures in record { in_data = (sorted-inside _ sorted (search rules) (search rules), search rules); n_bound = (sorted_before _ sorted _ _ refl len (search rules), search rules) }

-- the items copied, the ids still stand in a row and rise
pub put_steps-requires : goal.put_steps-requires
put_steps-requires c =
    let at_copy = c in
    let at-sort = at_copy in
    let sorted = at-sort.sort_index.ensures in
    let len = at-sort.part_length-len.ensures in
    let copied = at_copy.copy_items.ensures in record { n_in_bounds = copied-room _ sorted _ _ refl len (search rules) _ (search rules) copied; rising_row = copied-rising _ sorted _ _ refl len (search rules) _ (search rules) copied (search rules) }

-- the three writes, one after the other
pub returns : goal.returns
returns c =
    let at-steps = c in
    let at_copy = at-steps in
    let at-sort = at_copy in
    let at_length = at-sort in
    let at-start = at_length in
    let len = at_length.part_length-len.ensures in record { value = omega (arith, len); out_after = sorted-written _ at-sort.sort_index.ensures _ _ refl len (search rules) _ (search rules) at_copy.copy_items.ensures at-steps.put_steps.ensures at-start.requires.readable_index.0 (search rules) (search rules) }
