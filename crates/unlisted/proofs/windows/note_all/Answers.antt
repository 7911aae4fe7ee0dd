use Rattle.std.proofs.Common.{rules}
use Rattle.unlisted.proofs.windows.Noting.{covering}
use Rattle.unlisted.proofs.windows.note_all.Goals as goal

pub limit_of-limit-requires : goal.limit_of-limit-requires
limit_of-limit-requires c = search covering

pub loop-m-init : goal.loop-m-init
loop-m-init c = search covering

pub note_minishard-requires : goal.note_minishard-requires
note_minishard-requires c = record { map_len = (search rules, search rules); ranged_in = search covering }

pub loop-m-preserved : goal.loop-m-preserved
loop-m-preserved c = search covering

pub shape_of-map : goal.shape_of-map
shape_of-map c = search covering

pub returns : goal.returns
returns c = search covering
