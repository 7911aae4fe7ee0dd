-- By what the judge answers.
use Rattle.std.proofs.Common.{◌∙◌}
use Rattle.shard.proofs.manifests.Numbers.{judged_bad, judged_outside, judged-whole, told-sound}
use Rattle.shard.proofs.manifests.manifest_number.Goals as goal

pub fragments_length-requires : goal.fragments_length-requires
fragments_length-requires c = told-sound _ c.in-Ok.ensures

pub returns-in-Err : goal.returns-in-Err
returns-in-Err c = c.number.ensures ∙ judged_bad _ _ c.in-Err.ensures

pub returns-then-start-fragments_length : goal.returns-then-start-fragments_length
returns-then-start-fragments_length c = judged_outside _ _ c.in-Ok.ensures c.fragments_length.ensures c.if-start-fragments_length.true

pub returns-else-start-fragments_length : goal.returns-else-start-fragments_length
returns-else-start-fragments_length c = judged-whole _ _ c.in-Ok.ensures c.fragments_length.ensures c.if-start-fragments_length.false
