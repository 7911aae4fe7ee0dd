use Rattle.names.specs.chunks.Spans.{spans_text}
use Rattle.names.proofs.Texts.{joining}
use Rattle.names.proofs.chunks.inner.spans_len.Goals as goal

pub span_len-requires : goal.span_len-requires
unfolding spans_text
span_len-requires c = search joining

pub overflow_add-result : goal.overflow_add-result
unfolding spans_text
overflow_add-result c = search joining

pub two_len-requires : goal.two_len-requires
unfolding spans_text
two_len-requires c = search joining

pub overflow_add-result-2 : goal.overflow_add-result-2
unfolding spans_text
overflow_add-result-2 c = search joining

pub returns : goal.returns
unfolding spans_text
returns c = search joining
