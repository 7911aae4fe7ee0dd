use Rattle.std.proofs.Common.{rules}
use Rattle.unlisted.proofs.stretches.Covering.{read_ranged}
use Rattle.unlisted.proofs.windows.Noting.{minishard-none, minishard-some}
use Rattle.unlisted.proofs.windows.note_minishard.Goals as goal

pub returns-then-s-e : goal.returns-then-s-e
returns-then-s-e c = search minishard-none

pub note_items-requires : goal.note_items-requires
note_items-requires c = record { map_len = (search rules, search rules); ranged = search read_ranged }

pub returns : goal.returns
returns c = search minishard-some
