-- `locate::text::blocks::cells_text` meets its contract.
use native.Mathlib.Omega.{arith}
use borrow.Author.Rules.{rules}
use Rattle.locate.proofs.text.Printing.{judged, text-length, text-put}
use Rattle.locate.proofs.text.blocks.cells_text.Goals as goal

pub put_text-requires : goal.put_text-requires
put_text-requires c = search judged

pub returns : goal.returns
returns c = record { value = (search (text-length, rules), omega arith); out_after = search (text-put, rules) }
