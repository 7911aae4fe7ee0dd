use Rattle.coronagamba.proofs.Given.{written}
use Rattle.coronagamba.proofs.file_names.coronagamba_chunk_name.Goals as goal

pub returns : goal.returns
returns c = record { answer = search written; out = search written; length = search written }
