use Rattle.holdings.proofs.measures.Answered.{measuring}
use Rattle.holdings.proofs.measures.inner.measured.Goals as goal

pub minishard_count-n-requires : goal.minishard_count-n-requires
minishard_count-n-requires c = search measuring

pub chunk_bytes-bytes-requires : goal.chunk_bytes-bytes-requires
chunk_bytes-bytes-requires c = search measuring

pub returns-then-bytes : goal.returns-then-bytes
returns-then-bytes c = search measuring

pub chunk_count-chunks-requires : goal.chunk_count-chunks-requires
chunk_count-chunks-requires c = search measuring

pub unlisted-unlisted-requires : goal.unlisted-unlisted-requires
unlisted-unlisted-requires c = search measuring

pub form_length-settled-requires : goal.form_length-settled-requires
form_length-settled-requires c = search measuring

pub returns : goal.returns
returns c = search measuring
