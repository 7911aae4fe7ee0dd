use Rattle.coronagamba.proofs.Answered.{counting}
use Rattle.coronagamba.proofs.answers.put_count.Goals as goal

pub position_word-requires : goal.position_word-requires
position_word-requires c = c.requires _ _ c.in-Faulty.is

pub returns-in-Count : goal.returns-in-Count
returns-in-Count c = record { word = search counting; count = search counting }

pub returns-in-Refused : goal.returns-in-Refused
returns-in-Refused c = record { word = search counting; count = search counting }

pub returns-in-Faulty : goal.returns-in-Faulty
returns-in-Faulty c = record { word = search counting; count = search counting }
