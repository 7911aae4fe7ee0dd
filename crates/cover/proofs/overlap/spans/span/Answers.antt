-- `cover::overlap::spans::span` meets its contract.
use Rattle.cover.proofs.overlap.Ways.{none_spanned, some_spanned}
use Rattle.cover.proofs.overlap.spans.span.Goals as goal

pub returns-then-end-begin : goal.returns-then-end-begin
returns-then-end-begin c = search none_spanned

pub returns : goal.returns
returns c = search some_spanned
