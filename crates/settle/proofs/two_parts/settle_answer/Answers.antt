use Rattle.settle.proofs.two_parts.WriteAnswers.{answering}
use Rattle.settle.proofs.two_parts.settle_answer.Goals as goal

pub loses_bytes-requires : goal.loses_bytes-requires
loses_bytes-requires c = search answering

pub returns-then-loses_bytes : goal.returns-then-loses_bytes
returns-then-loses_bytes c = search answering

pub form_length-len-requires : goal.form_length-len-requires
form_length-len-requires c = search answering

pub returns-then-len-gt-MOST_SHARD_BYTES : goal.returns-then-len-gt-MOST_SHARD_BYTES
returns-then-len-gt-MOST_SHARD_BYTES c = search answering

pub returns-then-out-len : goal.returns-then-out-len
returns-then-out-len c = search answering

pub settle_parts-written-requires : goal.settle_parts-written-requires
settle_parts-written-requires c = search answering

pub shape_of-out : goal.shape_of-out
shape_of-out c = search answering

pub returns : goal.returns
returns c = search answering
