use Rattle.coronagamba.proofs.Specified.{specifying}
use Rattle.coronagamba.proofs.numbers.sharding_of.Goals as goal

pub overflow_cast-given : goal.overflow_cast-given
overflow_cast-given c = search specifying

pub capped-requires : goal.capped-requires
capped-requires c = search specifying

pub overflow_cast-given-2 : goal.overflow_cast-given-2
overflow_cast-given-2 c = search specifying

pub capped-requires-2 : goal.capped-requires-2
capped-requires-2 c = search specifying

pub overflow_cast-given-3 : goal.overflow_cast-given-3
overflow_cast-given-3 c = search specifying

pub capped-requires-3 : goal.capped-requires-3
capped-requires-3 c = search specifying

pub overflow_cast-given-4 : goal.overflow_cast-given-4
overflow_cast-given-4 c = search specifying

pub capped-requires-4 : goal.capped-requires-4
capped-requires-4 c = search specifying

pub overflow_cast-given-5 : goal.overflow_cast-given-5
overflow_cast-given-5 c = search specifying

pub capped-requires-5 : goal.capped-requires-5
capped-requires-5 c = search specifying

pub returns : goal.returns
returns c = search specifying
