-- The count of a minishard of two parts: judged, then counted.
use Rattle.std.proofs.Common.{rules}
use Rattle.lookup.proofs.listings.Listings.{in_fault, in_count, in_entry, in_order}
use Rattle.lookup.proofs.listings.inner.count_parts.Goals as goal

pub judge-fault-requires : goal.judge-fault-requires
judge-fault-requires c = record { spec_value = search rules; index_len = search rules; m_bound = search rules }

pub returns-then-fault-ne0 : goal.returns-then-fault-ne0
returns-then-fault-ne0 c = search in_fault

pub count_in-requires : goal.count_in-requires
count_in-requires c = (search in_entry, search in_order)

pub returns : goal.returns
returns c = search in_count
