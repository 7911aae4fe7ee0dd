-- `compressed_segmentation::unpacking::unpack` meets its contract: each way out is a check's number, or none.
use native.Mathlib.Omega.{arith}
use borrow.Author.Rules.{rules}
use Rattle.std.proofs.Common.{◌∙◌}
use Rattle.refusal.proofs.Passed.{handed}
use Rattle.compressed_segmentation.proofs.unpacking.Entry.{unpack-refused, unpack-kept, unpack_2, unpack-voxel, voxel-kept, unpack_13, all_read, room-told, unpack-all, left-all}
use Rattle.compressed_segmentation.proofs.unpacking.unpack.Goals as goal

ruleset entry = (unpack_2, unpack_13, all_read, room-told, unpack-all, left-all, rules)

pub returns-then-has_none : goal.returns-then-has_none
returns-then-has_none c = record { answer = unpack-refused _ _ _ 2 (omega arith) (search entry); out = unpack-kept _ _ _ 2 (omega arith) (search entry) }

pub returns-in_err-judge : goal.returns-in_err-judge
returns-in_err-judge c =
    let refused = c.in_err-judge.ensures in
    record {
      answer = handed c.from_residual.ensures ∙ unpack-voxel _ _ _ c.has_none.ensures c.if-has_none.false refused;
      out = voxel-kept _ _ _ c.has_none.ensures c.if-has_none.false refused;
    }

pub returns-then-not-has_room : goal.returns-then-not-has_room
returns-then-not-has_room c =
    let passed = c.in_ok-judge.ensures in
    record { answer = unpack-refused _ _ _ 13 (omega arith) (search (entry, passed)); out = unpack-kept _ _ _ 13 (omega arith) (search (entry, passed)) }

pub put_all-requires-clause-all_readable : goal.put_all-requires-clause-all_readable
put_all-requires-clause-all_readable c = all_read _ _ c.args.out.now c.has_none.ensures c.if-has_none.false c.in_ok-judge.ensures

pub returns : goal.returns
returns c =
    let passed = c.in_ok-judge.ensures in
    record { answer = search (entry, passed); out = search (entry, passed) }
