use Rattle.bitmap.proofs.Words.{run_fits}
use Rattle.bitmap.proofs.Marks.{run_marked}
use Rattle.bitmap.proofs.mark_word.Goals as goal

pub overflow_sub-bits : goal.overflow_sub-bits
overflow_sub-bits c = search run_fits

pub returns : goal.returns
returns c = search run_marked
