-- `card::reading::card_in` meets its contract.
use Rattle.card.proofs.Parsing.{parsing}
use Rattle.card.proofs.reading.card_in.Goals as goal

pub sharding_in-sharding-requires : goal.sharding_in-sharding-requires
sharding_in-sharding-requires c = search parsing

pub volume_in-volume-requires : goal.volume_in-volume-requires
volume_in-volume-requires c = search parsing

pub returns : goal.returns
returns c = search parsing
