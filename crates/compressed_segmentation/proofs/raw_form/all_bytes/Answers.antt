use Rattle.compressed_segmentation.proofs.raw_form.Lengths.{labels_fit, bytes_fit, bytes-held}
use Rattle.compressed_segmentation.proofs.raw_form.all_bytes.Goals as goal

pub overflow_mul-result : goal.overflow_mul-result
overflow_mul-result c = search labels_fit

pub overflow_mul-result-2 : goal.overflow_mul-result-2
overflow_mul-result-2 c = search bytes_fit

pub returns : goal.returns
returns c = search bytes-held
