use Rattle.coronagamba.proofs.Paired.{ranging}
use Rattle.coronagamba.proofs.pairs.coronagamba_pair_range.Goals as goal

pub returns-in-InIndex : goal.returns-in-InIndex
returns-in-InIndex c = record { answer = search ranging; file = search ranging; place = search ranging; length = search ranging }

pub returns-in-InData : goal.returns-in-InData
returns-in-InData c = record { answer = search ranging; file = search ranging; place = search ranging; length = search ranging }

pub returns-in-Refused : goal.returns-in-Refused
returns-in-Refused c = record { answer = search ranging; file = search ranging; place = search ranging; length = search ranging }
