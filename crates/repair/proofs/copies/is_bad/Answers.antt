use Rattle.repair.proofs.Files.{measuring}
use Rattle.repair.proofs.copies.is_bad.Goals as goal

pub returns-then-len-index_length : goal.returns-then-len-index_length
returns-then-len-index_length c = search measuring

pub returns : goal.returns
returns c = search measuring
