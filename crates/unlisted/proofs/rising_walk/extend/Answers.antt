use Rattle.unlisted.proofs.rising_walk.Runs.{range_none, range-broken, range_gap, range-on, range-in}
use Rattle.unlisted.proofs.rising_walk.extend.Goals as goal

pub returns-then-b-a : goal.returns-then-b-a
returns-then-b-a c = search range_none

pub returns-then-a-run : goal.returns-then-a-run
returns-then-a-run c = search range-broken

pub returns-then-run-a : goal.returns-then-run-a
returns-then-run-a c = search range_gap

pub returns-then-run-b : goal.returns-then-run-b
returns-then-run-b c = search range-on

pub returns : goal.returns
returns c = search range-in
