use Rattle.names.proofs.chunks.Chunked.{bounding}
use Rattle.names.proofs.chunks.inner.bounds_name.Goals as goal

pub span_of-requires : goal.span_of-requires
span_of-requires c = search bounding

pub span_of-requires-2 : goal.span_of-requires-2
span_of-requires-2 c = search bounding

pub span_of-requires-3 : goal.span_of-requires-3
span_of-requires-3 c = search bounding

pub spans_name-requires : goal.spans_name-requires
spans_name-requires c = search bounding

pub shape_of-out : goal.shape_of-out
shape_of-out c = search bounding

pub returns : goal.returns
returns c = search bounding
