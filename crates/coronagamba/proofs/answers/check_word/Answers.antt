use Rattle.coronagamba.proofs.Answered.{checking}
use Rattle.coronagamba.proofs.answers.check_word.Goals as goal

pub fault_word-requires : goal.fault_word-requires
fault_word-requires c = c.requires _ _ _ c.in-Faulty.is

pub returns-in-Sound : goal.returns-in-Sound
returns-in-Sound c = search checking

pub returns-in-Refused : goal.returns-in-Refused
returns-in-Refused c = search checking

pub returns-in-Faulty : goal.returns-in-Faulty
returns-in-Faulty c = search checking
