use Rattle.holdings.proofs.Answered.{joining}
use Rattle.holdings.proofs.join.Goals as goal

pub rows_of-totals-requires : goal.rows_of-totals-requires
rows_of-totals-requires c = search joining

pub rows_of-others-requires : goal.rows_of-others-requires
rows_of-others-requires c = search joining

pub slice_bounds-add_rows-end : goal.slice_bounds-add_rows-end
slice_bounds-add_rows-end c = search joining

pub slice_bounds-add_rows-end-2 : goal.slice_bounds-add_rows-end-2
slice_bounds-add_rows-end-2 c = search joining

pub add_rows-requires : goal.add_rows-requires
add_rows-requires c = search joining

pub returns-then-add_rows : goal.returns-then-add_rows
returns-then-add_rows c = search joining

pub from_rows-requires : goal.from_rows-requires
from_rows-requires c = search joining

pub returns : goal.returns
returns c = search joining
