-- The first fault of rows: test after test.
use Rattle.lookup.proofs.row_judge.Laws.{fault-twice, fault-foreign, fault_outside, fault-none}
use Rattle.lookup.proofs.row_judge.rows_fault.Goals as goal

pub returns-then-again-n : goal.returns-then-again-n
returns-then-again-n c = search fault-twice

pub returns-then-foreign-n : goal.returns-then-foreign-n
returns-then-foreign-n c = search fault-foreign

pub returns-then-ends_past-n : goal.returns-then-ends_past-n
returns-then-ends_past-n c = search fault_outside

pub returns : goal.returns
returns c = search fault-none
