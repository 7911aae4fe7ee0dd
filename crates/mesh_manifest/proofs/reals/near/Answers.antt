-- An f32 holds a position below 2^24; each operation is the rule's, in its order.
use native.Mathlib.Nat.{le_of_lt}
use lib.Dec.{le→leb}
use lib.Ieee.{in_float}
use Rattle.mesh_manifest.specs.reals.Reals.{near_of}
use Rattle.mesh_manifest.proofs.reals.near.Goals as goal

pub int_to_float-result : goal.int_to_float-result
unfolding in_float
int_to_float-result c = le→leb _ _ (le_of_lt c.requires.0)

pub returns : goal.returns
unfolding near_of
returns c = rw c.power.ensures
