-- `card::judge::judge` meets its contract.
use Rattle.card.proofs.Judged.{judging}
use Rattle.card.proofs.judge.judge.Goals as goal

pub is_allowed-requires : goal.is_allowed-requires
is_allowed-requires c = search judging

pub returns-then-not-is_allowed : goal.returns-then-not-is_allowed
returns-then-not-is_allowed c = search judging

pub zero_extent-requires : goal.zero_extent-requires
zero_extent-requires c = search judging

pub returns-then-zero_extent : goal.returns-then-zero_extent
returns-then-zero_extent c = search judging

pub volume_key_bits-requires : goal.volume_key_bits-requires
volume_key_bits-requires c = search judging

pub returns-then-volume_key_bits-gt64 : goal.returns-then-volume_key_bits-gt64
returns-then-volume_key_bits-gt64 c = search judging

pub returns : goal.returns
returns c = search judging
