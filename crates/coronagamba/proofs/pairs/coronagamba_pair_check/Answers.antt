use Rattle.coronagamba.proofs.Given.{checked}
use Rattle.coronagamba.proofs.Paired.{fitting}
use Rattle.coronagamba.proofs.pairs.coronagamba_pair_check.Goals as goal

pub check_word-requires : goal.check_word-requires
check_word-requires c k m p h = (search fitting, search fitting)

pub returns : goal.returns
returns c = search checked
