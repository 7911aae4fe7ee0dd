use borrow.Author.Rules.{rules}
use Rattle.names.proofs.chunks.Chunked.{span-is}
use Rattle.names.proofs.chunks.inner.span_of.Goals as goal

pub signed_of-b-requires : goal.signed_of-b-requires
signed_of-b-requires c = search (span-is, rules)

pub signed_of-e-requires : goal.signed_of-e-requires
signed_of-e-requires c = search (span-is, rules)

pub returns : goal.returns
returns c = search (span-is, rules)
