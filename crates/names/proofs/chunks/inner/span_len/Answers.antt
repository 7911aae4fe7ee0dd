use Rattle.names.specs.chunks.Spans.{span_text}
use Rattle.names.proofs.Texts.{joining}
use Rattle.names.proofs.chunks.inner.span_len.Goals as goal

pub signed_len-requires : goal.signed_len-requires
unfolding span_text
signed_len-requires c = search joining

pub overflow_add-result : goal.overflow_add-result
unfolding span_text
overflow_add-result c = search joining

pub signed_len-requires-2 : goal.signed_len-requires-2
unfolding span_text
signed_len-requires-2 c = search joining

pub overflow_add-result-2 : goal.overflow_add-result-2
unfolding span_text
overflow_add-result-2 c = search joining

pub returns : goal.returns
unfolding span_text
returns c = search joining
