use Rattle.names.proofs.Texts.{fronting}
use Rattle.names.proofs.chunks.inner.spans_name.Goals as goal

pub spans_len-requires : goal.spans_len-requires
spans_len-requires c = search fronting

pub returns-then-out-spans_len : goal.returns-then-out-spans_len
returns-then-out-spans_len c = search fronting

pub put_spans-requires : goal.put_spans-requires
put_spans-requires c = search fronting

pub shape_of-out : goal.shape_of-out
shape_of-out c = search fronting

pub returns : goal.returns
returns c = search fronting
