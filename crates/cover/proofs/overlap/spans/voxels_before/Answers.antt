-- `cover::overlap::spans::voxels_before` meets its contract.
use borrow.Author.Rules.{rules}
use Rattle.morton.proofs.bounds.Signed.{widened}
use Rattle.cover.proofs.overlap.Voxels.{end_fits, none_before, all-before, apart_fits, apart_pos, apart-fit, apart-is}
use Rattle.cover.proofs.overlap.spans.voxels_before.Goals as goal

ruleset voxels = (widened, end_fits, none_before, all-before, apart_fits, apart_pos, apart-fit, apart-is, rules)

pub overflow_cast-begin : goal.overflow_cast-begin
overflow_cast-begin c = search voxels

pub returns-then-place-begin : goal.returns-then-place-begin
returns-then-place-begin c = search voxels

pub overflow_cast-size : goal.overflow_cast-size
overflow_cast-size c = search voxels

pub overflow_add-begin : goal.overflow_add-begin
overflow_add-begin c = search voxels

pub returns-then-begin-size : goal.returns-then-begin-size
returns-then-begin-size c = search voxels

pub overflow_sub-result : goal.overflow_sub-result
overflow_sub-result c = search voxels

pub overflow_cast-result : goal.overflow_cast-result
overflow_cast-result c = search voxels

pub returns : goal.returns
returns c = search voxels
