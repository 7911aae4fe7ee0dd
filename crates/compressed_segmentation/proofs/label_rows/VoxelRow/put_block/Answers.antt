use borrow.Author.Rules.{rules}
use Rattle.compressed_segmentation.proofs.label_rows.Rows.{row-offset, run_some, run_width, run_readable, run_written}
use Rattle.compressed_segmentation.proofs.label_rows.VoxelRow.put_block.Goals as goal

pub word_at-start-requires : goal.word_at-start-requires
word_at-start-requires c = search row-offset

pub put_run-requires-clause-readable_run : goal.put_run-requires-clause-readable_run
put_run-requires-clause-readable_run c = search run_readable

pub invariant_of-block : goal.invariant_of-block
invariant_of-block c = record { header = record { start = search rules; one = search rules; two = search rules; width = search run_width } }

pub invariant_of-run : goal.invariant_of-run
invariant_of-run c = record { some = search run_some }

pub returns-clause-out_after : goal.returns-clause-out_after
returns-clause-out_after c = search run_written
