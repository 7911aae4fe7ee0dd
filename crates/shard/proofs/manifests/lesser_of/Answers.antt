-- Way by way.
use Rattle.shard.proofs.manifests.Numbers.{lessers}
use Rattle.shard.proofs.manifests.lesser_of.Goals as goal

pub returns-then-number-eq0 : goal.returns-then-number-eq0
returns-then-number-eq0 c = search lessers

pub returns-then-found-number : goal.returns-then-found-number
returns-then-found-number c = search lessers

pub returns-else-found-number : goal.returns-else-found-number
returns-else-found-number c = search lessers

pub returns-else-found-ne0 : goal.returns-else-found-ne0
returns-else-found-ne0 c = search lessers
