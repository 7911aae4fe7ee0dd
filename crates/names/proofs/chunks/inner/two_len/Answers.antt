use Rattle.names.specs.chunks.Spans.{two_text}
use Rattle.names.proofs.Texts.{joining}
use Rattle.names.proofs.chunks.inner.two_len.Goals as goal

pub span_len-requires : goal.span_len-requires
unfolding two_text
span_len-requires c = search joining

pub overflow_add-result : goal.overflow_add-result
unfolding two_text
overflow_add-result c = search joining

pub span_len-requires-2 : goal.span_len-requires-2
unfolding two_text
span_len-requires-2 c = search joining

pub overflow_add-result-2 : goal.overflow_add-result-2
unfolding two_text
overflow_add-result-2 c = search joining

pub returns : goal.returns
unfolding two_text
returns c = search joining
