use Rattle.cover.proofs.descent.Ways.{walking, alone, parting, lower, upper, joining}
use Rattle.cover.proofs.descent.+descend.Goals as goal

pub put_keys-requires : goal.put_keys-requires
put_keys-requires t c = search walking

pub returns-then-bits-eq0-clause-next : goal.returns-then-bits-eq0-clause-next
returns-then-bits-eq0-clause-next t c = search walking

pub returns-then-bits-eq0-clause-out : goal.returns-then-bits-eq0-clause-out
returns-then-bits-eq0-clause-out t c = search walking

pub full-requires : goal.full-requires
full-requires t c = search walking

pub overflow_add-high : goal.overflow_add-high
overflow_add-high t c = search walking

pub put_keys-requires-then-full : goal.put_keys-requires-then-full
put_keys-requires-then-full t c = search walking

pub returns-then-full-clause-next : goal.returns-then-full-clause-next
returns-then-full-clause-next t c = search walking

pub returns-then-full-clause-out : goal.returns-then-full-clause-out
returns-then-full-clause-out t c = search walking

pub halve-halves-requires : goal.halve-halves-requires
halve-halves-requires t c = search walking

pub descend-requires : goal.descend-requires
descend-requires t c = (search alone, (search alone, search alone))

pub descend-requires-then-upper : goal.descend-requires-then-upper
descend-requires-then-upper t c = (search alone, (search alone, search alone))

pub cut_box-parts-requires : goal.cut_box-parts-requires
cut_box-parts-requires t c = search parting

pub descend-next-requires : goal.descend-next-requires
descend-next-requires t c = (search lower, (search lower, search lower))

pub descend-requires-2 : goal.descend-requires-2
descend-requires-2 t c = (search upper, (search upper, search upper))

pub returns-clause-next : goal.returns-clause-next
returns-clause-next t c = search joining

pub returns-clause-out : goal.returns-clause-out
returns-clause-out t c = search joining
