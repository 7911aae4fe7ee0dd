use Rattle.names.specs.chunks.Spans.{spans_text}
use Rattle.names.proofs.Texts.{joining}
use Rattle.names.proofs.chunks.inner.put_spans.Goals as goal

pub put_span-m-requires : goal.put_span-m-requires
unfolding spans_text
put_span-m-requires c = search joining

pub put_byte-requires : goal.put_byte-requires
unfolding spans_text
put_byte-requires c = search joining

pub overflow_add-m : goal.overflow_add-m
unfolding spans_text
overflow_add-m c = search joining

pub put_two-requires : goal.put_two-requires
unfolding spans_text
put_two-requires c = search joining

pub shape_of-out : goal.shape_of-out
unfolding spans_text
shape_of-out c = search joining

pub returns : goal.returns
unfolding spans_text
returns c = search joining
