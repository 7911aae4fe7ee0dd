-- An id from the one before it, modulo 2^64.
use Rattle.duplicate_ids.proofs.ids.Ids.{id_next}
use Rattle.duplicate_ids.proofs.ids.next_id.Goals as goal

pub returns : goal.returns
returns c = search id_next
