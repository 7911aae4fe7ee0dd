use Rattle.compressed_segmentation.proofs.label_rows.Rows.{row-offset, headers_product, headers_twice, headers_sum, headers_are}
use Rattle.compressed_segmentation.proofs.label_rows.VoxelRow.headers.Goals as goal

pub word_at-requires : goal.word_at-requires
word_at-requires c = search row-offset

pub overflow_mul-result : goal.overflow_mul-result
overflow_mul-result c = search headers_product

pub overflow_mul-result-2 : goal.overflow_mul-result-2
overflow_mul-result-2 c = search headers_twice

pub overflow_add-result : goal.overflow_add-result
overflow_add-result c = search headers_sum

pub returns : goal.returns
returns c = search headers_are
