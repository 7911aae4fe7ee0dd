-- The verdict, test by test.
use Rattle.mesh_manifest.proofs.sound.Sounds.{sound}
use Rattle.mesh_manifest.proofs.sound.Ways.{ways}
use Rattle.mesh_manifest.proofs.judge.judge.Goals as goal

pub returns-then-not-right_length : goal.returns-then-not-right_length
returns-then-not-right_length c = search ways

pub item-levels-requires : goal.item-levels-requires
item-levels-requires c = search sound

pub overflow_cast-levels : goal.overflow_cast-levels
overflow_cast-levels c = search sound

pub reals_fit-requires : goal.reals_fit-requires
reals_fit-requires c = search sound

pub returns-then-not-reals_fit : goal.returns-then-not-reals_fit
returns-then-not-reals_fit c = search ways

pub nodes_rise-requires : goal.nodes_rise-requires
nodes_rise-requires c = search sound

pub returns-then-not-nodes_rise : goal.returns-then-not-nodes_rise
returns-then-not-nodes_rise c = search ways

pub returns : goal.returns
returns c = search ways
