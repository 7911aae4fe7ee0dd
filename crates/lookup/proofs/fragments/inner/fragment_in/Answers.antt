use Rattle.lookup.proofs.fragments.Places.{placed}
use Rattle.lookup.proofs.fragments.inner.fragment_in.Goals as goal

pub has_node-requires : goal.has_node-requires
has_node-requires c = search placed

pub returns-then-not-has_node : goal.returns-then-not-has_node
returns-then-not-has_node c = search placed

pub node-found-requires : goal.node-found-requires
node-found-requires c = search placed

pub fragments_length-requires : goal.fragments_length-requires
fragments_length-requires c = search placed

pub overflow_sub-first : goal.overflow_sub-first
overflow_sub-first c = search placed

pub overflow_add-result : goal.overflow_add-result
overflow_add-result c = search placed

pub overflow_cast-result : goal.overflow_cast-result
overflow_cast-result c = search placed

pub returns : goal.returns
returns c = search placed
