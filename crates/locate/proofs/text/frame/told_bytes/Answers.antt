-- `locate::text::frame::told_bytes` meets its contract.
use native.Mathlib.Omega.{arith}
use Rattle.locate.proofs.text.Printing.{ending}
use Rattle.locate.proofs.text.frame.told_bytes.Goals as goal

pub returns-then-readable : goal.returns-then-readable
returns-then-readable c = (search ending, omega arith)

pub returns : goal.returns
returns c = (search ending, omega arith)
