-- `card::reading::volume_in` meets its contract.
use Rattle.card.proofs.Parsing.{parsing}
use Rattle.card.proofs.reading.volume_in.Goals as goal

pub extents_at-size-requires : goal.extents_at-size-requires
extents_at-size-requires c = search parsing

pub extents_at-chunk-requires : goal.extents_at-chunk-requires
extents_at-chunk-requires c = search parsing

pub offset_in-offset-requires : goal.offset_in-offset-requires
offset_in-offset-requires c = search parsing

pub returns : goal.returns
returns c = search parsing
