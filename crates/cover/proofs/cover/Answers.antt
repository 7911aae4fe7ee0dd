-- `cover::cover` meets its contract: each way out is a check's number, or none.
use native.Mathlib.Omega.{arith}
use Rattle.cover.proofs.Entry.{cover-refused, cover-kept, entry}
use Rattle.cover.proofs.cover.Goals as goal

pub zero_extent-requires : goal.zero_extent-requires
zero_extent-requires c = search entry

pub returns-then-zero_extent : goal.returns-then-zero_extent
returns-then-zero_extent c = record { answer = cover-refused _ _ _ _ 2 (omega arith) (search entry); out = cover-kept _ _ _ _ 2 (omega arith) (search entry) }

pub volume_key_bits-requires : goal.volume_key_bits-requires
volume_key_bits-requires c = search entry

pub returns-then-volume_key_bits-gt64 : goal.returns-then-volume_key_bits-gt64
returns-then-volume_key_bits-gt64 c = record { answer = cover-refused _ _ _ _ 3 (omega arith) (search entry); out = cover-kept _ _ _ _ 3 (omega arith) (search entry) }

pub whole-whole-requires : goal.whole-whole-requires
whole-whole-requires c = search entry

pub face-face-requires : goal.face-face-requires
face-face-requires c = search entry

pub depth-deep-requires : goal.depth-deep-requires
depth-deep-requires c = search entry

pub exceeds-requires : goal.exceeds-requires
exceeds-requires c = search entry

pub returns-then-exceeds : goal.returns-then-exceeds
returns-then-exceeds c = record { answer = cover-refused _ _ _ _ 13 (omega arith) (search entry); out = cover-kept _ _ _ _ 13 (omega arith) (search entry) }

pub grid-requires : goal.grid-requires
grid-requires c = search entry

pub search-requires : goal.search-requires
search-requires c = (search entry, search entry, search entry, search entry)

pub shape_of-out : goal.shape_of-out
shape_of-out c = search entry

pub returns : goal.returns
returns c = record { answer = search entry; out = search entry }
