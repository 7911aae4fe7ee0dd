-- The fragment, by what the lookup gave: refused as it refuses; found, 18 of a volume, else by the manifest.
use Rattle.split_shard.proofs.Fragments.{handing}
use Rattle.split_shard.proofs.fragment.Goals as goal

pub lookup-found-requires : goal.lookup-found-requires
lookup-found-requires c = search handing

pub enum_known-found : goal.enum_known-found
enum_known-found c = search handing

pub is_mesh-requires : goal.is_mesh-requires
is_mesh-requires c = search handing

pub returns-then-not-is_mesh : goal.returns-then-not-is_mesh
returns-then-not-is_mesh c = search handing

pub data_part-requires : goal.data_part-requires
data_part-requires c = record { behind = search handing; found_in_bounds = (search handing, search handing) }

pub fragment_in-requires : goal.fragment_in-requires
fragment_in-requires c = (search handing, search handing)

pub enum_known-found-in-Refused-1 : goal.enum_known-found-in-Refused-1
enum_known-found-in-Refused-1 c = search handing

pub enum_known-found-in-Faulty-1 : goal.enum_known-found-in-Faulty-1
enum_known-found-in-Faulty-1 c = search handing

pub returns-else-not-is_mesh : goal.returns-else-not-is_mesh
returns-else-not-is_mesh c = search handing

pub returns-in-Refused : goal.returns-in-Refused
returns-in-Refused c = search handing

pub returns-in-Faulty : goal.returns-in-Faulty
returns-in-Faulty c = search handing
