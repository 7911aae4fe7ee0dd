use Rattle.bitmap.proofs.visited.Noted.{sees_marked, sees_none}
use Rattle.bitmap.proofs.visited.see.Goals as goal

pub returns-then-i-map : goal.returns-then-i-map
returns-then-i-map c = search sees_marked

pub returns-else-i-map : goal.returns-else-i-map
returns-else-i-map c = search sees_none
