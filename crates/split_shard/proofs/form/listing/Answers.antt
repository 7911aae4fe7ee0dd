-- The listing: refused, too long, or written whole.
use Rattle.split_shard.proofs.form.Listed.{listing}
use Rattle.split_shard.proofs.form.listing.Goals as goal

pub listed_count-requires : goal.listed_count-requires
listed_count-requires c = search listing

pub enum_known-count : goal.enum_known-count
enum_known-count c = search listing

pub returns-then-out-count : goal.returns-then-out-count
returns-then-out-count c = record { answer = search listing; out = search listing }

pub put_listing-requires : goal.put_listing-requires
put_listing-requires c = (search listing, search listing)

pub overflow_mul-result : goal.overflow_mul-result
overflow_mul-result c = search listing

pub enum_known-number : goal.enum_known-number
enum_known-number c = search listing

pub enum_known-number-in-Faulty-1 : goal.enum_known-number-in-Faulty-1
enum_known-number-in-Faulty-1 c = search listing

pub shape_of-out : goal.shape_of-out
shape_of-out c = search listing

pub returns-else-out-count : goal.returns-else-out-count
returns-else-out-count c = record { answer = search listing; out = search listing }

pub returns-in-Refused : goal.returns-in-Refused
returns-in-Refused c = record { answer = search listing; out = search listing }

pub returns-in-Faulty : goal.returns-in-Faulty
returns-in-Faulty c = record { answer = search listing; out = search listing }
