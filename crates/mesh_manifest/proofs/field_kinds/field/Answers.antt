-- By the kind of the item.
use Rattle.mesh_manifest.proofs.sound.Sounds.{sound}
use Rattle.mesh_manifest.proofs.Asked.{asked}
use Rattle.mesh_manifest.proofs.field_kinds.field.Goals as goal

pub item-levels-requires : goal.item-levels-requires
item-levels-requires c = search sound

pub overflow_cast-levels : goal.overflow_cast-levels
overflow_cast-levels c = search sound

pub is_real-requires : goal.is_real-requires
is_real-requires c = search sound

pub real-requires : goal.real-requires
real-requires c = search sound

pub returns-then-is_real : goal.returns-then-is_real
returns-then-is_real c = search asked

pub item-requires : goal.item-requires
item-requires c = search sound

pub returns : goal.returns
returns c = search asked
