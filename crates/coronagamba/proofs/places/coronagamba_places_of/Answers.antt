use Rattle.coronagamba.proofs.Given.{written}
use Rattle.coronagamba.proofs.places.coronagamba_places_of.Goals as goal

pub returns : goal.returns
returns c = record { answer = search written; shards = search written; minishards = search written; length = search written }
