use Rattle.repair.proofs.same_listing.Entries.{reading}
use Rattle.repair.proofs.same_listing.read_entry.Goals as goal

pub returns : goal.returns
returns c = search reading
