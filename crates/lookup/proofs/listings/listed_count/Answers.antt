-- The count of a listing: the refusals 1, 5, 33 and 6, then over two parts.
use Rattle.std.proofs.Common.{rules}
use Rattle.refusal.proofs.Tests.{told-yes}
use Rattle.lookup.proofs.listings.Listings.{count_spec, count-shard, count-minishard, count-short, count_long, count-parts}
use Rattle.lookup.proofs.listings.listed_count.Goals as goal

pub returns-then-not-is_allowed : goal.returns-then-not-is_allowed
returns-then-not-is_allowed c = search count_spec

pub shard_count-requires : goal.shard_count-requires
shard_count-requires c = search told-yes

pub returns-then-shard_count-shard : goal.returns-then-shard_count-shard
returns-then-shard_count-shard c = search count-shard

pub minishard_count-requires : goal.minishard_count-requires
minishard_count-requires c = search told-yes

pub returns-then-minishard_count-minishard : goal.returns-then-minishard_count-minishard
returns-then-minishard_count-minishard c = search count-minishard

pub index_length-requires : goal.index_length-requires
index_length-requires c = search told-yes

pub returns-then-file-index_length : goal.returns-then-file-index_length
returns-then-file-index_length c = search count-short

pub returns-then-file-gt-MOST_SHARD_BYTES : goal.returns-then-file-gt-MOST_SHARD_BYTES
returns-then-file-gt-MOST_SHARD_BYTES c = search count_long

pub count_file-requires : goal.count_file-requires
count_file-requires c = record { spec_value = search told-yes; spec_in_bounds = search rules; m_bound = search rules }

pub returns : goal.returns
returns c = search count-parts
