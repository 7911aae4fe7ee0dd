use Rattle.compressed_segmentation.proofs.packed_values.Packed.{per_some, width-most}
use Rattle.compressed_segmentation.proofs.block.Greatest.{greatest-none}
use Rattle.compressed_segmentation.proofs.block.Runs.{run_product-fits, run_from-fits, run_word-fits, run_word, start_fits, start-sum-fits, start-bits-fit, run_hit, run_still}
use borrow.Author.Rules.{rules}
use Rattle.compressed_segmentation.proofs.packed_runs.run_refusal.Goals as goal

pub nonzero_div-from : goal.nonzero_div-from
nonzero_div-from c = search per_some

pub overflow_mul-from : goal.overflow_mul-from
overflow_mul-from c = search run_product-fits

pub overflow_add-from-2 : goal.overflow_add-from-2
overflow_add-from-2 c = search run_from-fits

pub nonzero_rem-start : goal.nonzero_rem-start
nonzero_rem-start c = search per_some

pub overflow_mul-start : goal.overflow_mul-start
overflow_mul-start c = search start_fits

pub loop-u-init : goal.loop-u-init
loop-u-init c = greatest-none _

pub overflow_add-b : goal.overflow_add-b
overflow_add-b c = search start-sum-fits

pub overflow_mul-b : goal.overflow_mul-b
overflow_mul-b c = search start-bits-fit

pub overflow_add-from-in-loop-u : goal.overflow_add-from-in-loop-u
overflow_add-from-in-loop-u c = search run_word-fits

pub word_at-requires : goal.word_at-requires
word_at-requires c = search run_word

pub bits-v-requires : goal.bits-v-requires
bits-v-requires c = (search rules, search width-most)

pub returns-then-limit-v : goal.returns-then-limit-v
returns-then-limit-v c = search run_hit

pub loop-u-preserved : goal.loop-u-preserved
loop-u-preserved c = search run_still
