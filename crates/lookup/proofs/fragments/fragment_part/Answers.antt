-- The part that the answer gives.
use Rattle.std.proofs.Common.{rules}
use Rattle.lookup.proofs.Handed.{same_bytes, same_place}
use Rattle.lookup.proofs.fragments.Handed.{part-inside, part-short}
use Rattle.lookup.proofs.fragments.fragment_part.Goals as goal

pub part_of-requires : goal.part_of-requires
part_of-requires c = (search part-inside, search part-short)

pub returns : goal.returns
returns c = record { answer = search same_bytes; place = (search rules, search same_place) }
