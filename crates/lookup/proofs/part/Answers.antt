-- The part that the lookup's answer gives.
use Rattle.std.proofs.Common.{rules}
use Rattle.lookup.proofs.Handed.{lookup-inside, lookup-short, same_bytes, same_place}
use Rattle.lookup.proofs.part.Goals as goal

pub part_of-requires : goal.part_of-requires
part_of-requires c = (search lookup-inside, search lookup-short)

pub returns : goal.returns
returns c = record { answer = search same_bytes; place = (search rules, search same_place) }
