use mathlib.Core.Path.{◌∙◌}
use borrow.Author.Tests.{le-ltb}
use Rattle.bitmap.proofs.visited.Noted.{bit_past}
use Rattle.bitmap.proofs.visited.is_seen.Goals as goal

pub returns-else-i-map : goal.returns-else-i-map
returns-else-i-map c = le-ltb _ _ c.if-i-map.false ∙ bit_past c.args.map.now c.args.o c.if-i-map.false
