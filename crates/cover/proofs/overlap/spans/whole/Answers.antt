-- `cover::overlap::spans::whole` meets its contract.
use Rattle.cover.proofs.overlap.Ways.{spanning}
use Rattle.cover.proofs.overlap.spans.whole.Goals as goal

pub span-requires : goal.span-requires
span-requires c = search spanning

pub span-requires-2 : goal.span-requires-2
span-requires-2 c = search spanning

pub span-requires-3 : goal.span-requires-3
span-requires-3 c = search spanning

pub returns : goal.returns
returns c = search spanning
