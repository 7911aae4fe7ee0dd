use Rattle.names.specs.chunks.Spans.{span_text}
use Rattle.names.proofs.Texts.{joining}
use Rattle.names.proofs.chunks.inner.put_span.Goals as goal

pub put_signed-m-requires : goal.put_signed-m-requires
unfolding span_text
put_signed-m-requires c = search joining

pub put_byte-requires : goal.put_byte-requires
unfolding span_text
put_byte-requires c = search joining

pub overflow_add-m : goal.overflow_add-m
unfolding span_text
overflow_add-m c = search joining

pub put_signed-requires : goal.put_signed-requires
unfolding span_text
put_signed-requires c = search joining

pub shape_of-out : goal.shape_of-out
unfolding span_text
shape_of-out c = search joining

pub returns : goal.returns
unfolding span_text
returns c = search joining
