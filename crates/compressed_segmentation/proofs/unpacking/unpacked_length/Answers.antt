-- `compressed_segmentation::unpacking::unpacked_length` meets its contract.
use native.Mathlib.Omega.{arith}
use borrow.Author.Rules.{rules}
use Rattle.compressed_segmentation.proofs.raw_form.Lengths.{length-refused, length_2, length-tested, length_13, length-few, length-told}
use Rattle.compressed_segmentation.proofs.unpacking.unpacked_length.Goals as goal

ruleset entry = (length_2, length-tested, length_13, length-few, length-told, rules)

pub returns-then-has_none : goal.returns-then-has_none
returns-then-has_none c = record { answer = length-refused _ 2 (omega arith) (search entry) }

pub returns-then-not-has_room : goal.returns-then-not-has_room
returns-then-not-has_room c = record { answer = length-refused _ 13 (omega arith) (search entry) }

pub returns : goal.returns
returns c = search entry
