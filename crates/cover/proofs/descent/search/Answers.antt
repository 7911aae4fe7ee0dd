-- `cover::descent::search` meets its contract.
use Rattle.cover.proofs.descent.Ways.{searching, whole-none}
use Rattle.cover.proofs.descent.search.Goals as goal

pub misses-requires : goal.misses-requires
misses-requires c = search searching

-- a grid without marked cells has no keys, and nothing is written
pub returns-then-misses : goal.returns-then-misses
returns-then-misses c = record { count = whole-none _ c.misses.ensures c.if-misses.true; out = search searching }

pub key-x-requires : goal.key-x-requires
key-x-requires c = search searching

pub key-y-requires : goal.key-y-requires
key-y-requires c = search searching

pub key-z-requires : goal.key-z-requires
key-z-requires c = search searching

pub first-requires : goal.first-requires
first-requires c = search searching

pub key-low-requires : goal.key-low-requires
key-low-requires c = search searching

pub last-requires : goal.last-requires
last-requires c = search searching

pub key-high-requires : goal.key-high-requires
key-high-requires c = search searching

pub key_bits-requires : goal.key_bits-requires
key_bits-requires c = search searching

pub descend-requires : goal.descend-requires
descend-requires c = search searching

pub shape_of-out : goal.shape_of-out
shape_of-out c = search searching

pub returns : goal.returns
returns c = search searching
