-- A level's nodes, by what the judge gave, by whether there is such a level, and by the numbers lent.
use borrow.Author.Rules.{rules}
use Rattle.mesh_manifest.proofs.nodes.Levels.{sound}
use Rattle.mesh_manifest.proofs.sound.Judged.{told-sound}
use Rattle.mesh_manifest.proofs.level.Asked.{nodes-refused, nodes-refused-kept, listing}
use Rattle.std.proofs.Common.{◌∙◌}
use Rattle.refusal.proofs.Passed.{handed}
use Rattle.mesh_manifest.proofs.level.nodes_of.Goals as goal

pub returns-in_err-judge : goal.returns-in_err-judge
returns-in_err-judge c = record { answer = handed c.from_residual.ensures ∙ nodes-refused _ _ _ c.in_err-judge.ensures; out = nodes-refused-kept _ _ _ c.in_err-judge.ensures }

pub item-levels-requires : goal.item-levels-requires
item-levels-requires c = search (told-sound, sound)

pub returns-then-l-levels : goal.returns-then-l-levels
returns-then-l-levels c = record { answer = search listing; out = search listing }

pub count-n-requires : goal.count-n-requires
count-n-requires c = search (told-sound, sound)

pub returns-then-out-n : goal.returns-then-out-n
returns-then-out-n c = record { answer = search listing; out = search listing }

pub put_level-requires : goal.put_level-requires
put_level-requires c = record { levels_value = search (told-sound, sound); n_value = search rules }

pub returns : goal.returns
returns c = record { answer = search listing; out = search listing }
