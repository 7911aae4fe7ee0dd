use Rattle.coronagamba.proofs.Given.{written}
use Rattle.coronagamba.proofs.manifests.coronagamba_manifest_nodes.Goals as goal

pub returns : goal.returns
returns c = record { answer = search written; out = search written; length = search written }
