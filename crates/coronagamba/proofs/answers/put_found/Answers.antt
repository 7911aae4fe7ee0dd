use Rattle.coronagamba.proofs.Answered.{looking}
use Rattle.coronagamba.proofs.answers.put_found.Goals as goal

pub position_word-requires : goal.position_word-requires
position_word-requires c = c.requires _ _ c.in-Faulty.is

pub returns-in-Found : goal.returns-in-Found
returns-in-Found c = record { word = search looking; start = search looking; length = search looking }

pub returns-in-Refused : goal.returns-in-Refused
returns-in-Refused c = record { word = search looking; start = search looking; length = search looking }

pub returns-in-Faulty : goal.returns-in-Faulty
returns-in-Faulty c = record { word = search looking; start = search looking; length = search looking }
