use Rattle.coronagamba.proofs.Given.{checked}
use Rattle.coronagamba.proofs.Checked.{fitting}
use Rattle.coronagamba.proofs.shards.coronagamba_check.Goals as goal

pub check_word-requires : goal.check_word-requires
check_word-requires c k m p h = (search fitting, search fitting)

pub returns : goal.returns
returns c = search checked
