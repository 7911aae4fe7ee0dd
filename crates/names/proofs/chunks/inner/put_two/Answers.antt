use Rattle.names.specs.chunks.Spans.{two_text}
use Rattle.names.proofs.Texts.{joining}
use Rattle.names.proofs.chunks.inner.put_two.Goals as goal

pub put_span-m-requires : goal.put_span-m-requires
unfolding two_text
put_span-m-requires c = search joining

pub put_byte-requires : goal.put_byte-requires
unfolding two_text
put_byte-requires c = search joining

pub overflow_add-m : goal.overflow_add-m
unfolding two_text
overflow_add-m c = search joining

pub put_span-requires : goal.put_span-requires
unfolding two_text
put_span-requires c = search joining

pub shape_of-out : goal.shape_of-out
unfolding two_text
shape_of-out c = search joining

pub returns : goal.returns
unfolding two_text
returns c = search joining
