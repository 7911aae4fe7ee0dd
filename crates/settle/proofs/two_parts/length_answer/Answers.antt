use Rattle.settle.proofs.two_parts.WriteAnswers.{measuring}
use Rattle.settle.proofs.two_parts.length_answer.Goals as goal

pub loses_bytes-requires : goal.loses_bytes-requires
loses_bytes-requires c = search measuring

pub returns-then-loses_bytes : goal.returns-then-loses_bytes
returns-then-loses_bytes c = search measuring

pub form_length-len-requires : goal.form_length-len-requires
form_length-len-requires c = search measuring

pub returns-then-len-gt-MOST_SHARD_BYTES : goal.returns-then-len-gt-MOST_SHARD_BYTES
returns-then-len-gt-MOST_SHARD_BYTES c = search measuring

pub returns : goal.returns
returns c = search measuring
