use Rattle.std.proofs.Common.{rules}
use Rattle.bitmap.proofs.window.Windows.{clear_zeros, zeros-long}
use Rattle.unlisted.proofs.windows.count_window.Goals as goal

pub count_in-requires : goal.count_in-requires
count_in-requires c = record { map_len = (zeros-long 65040, search rules, clear_zeros 65040, search rules); ranged_shard = search rules }
