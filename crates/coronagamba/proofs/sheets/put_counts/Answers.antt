use Rattle.coronagamba.proofs.Sheeted.{measuring}
use Rattle.coronagamba.proofs.sheets.put_counts.Goals as goal

pub fault_word-requires : goal.fault_word-requires
fault_word-requires c = c.requires _ _ _ c.in-Faulty.is

pub returns-in-Sound : goal.returns-in-Sound
returns-in-Sound c = record { value = search measuring; counts_after = search measuring }

pub returns-in-Refused : goal.returns-in-Refused
returns-in-Refused c = record { value = search measuring; counts_after = search measuring }

pub returns-in-Faulty : goal.returns-in-Faulty
returns-in-Faulty c = record { value = search measuring; counts_after = search measuring }
