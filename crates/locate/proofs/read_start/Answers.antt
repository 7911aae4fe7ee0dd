-- The card as the program reads it: two bytes say how many follow; the part of `bytes` lent for them has that length.
use Prim.Native.Nat.{◌≤◌}
use mathlib.Core.Path.{◌≡◌}
use native.Mathlib.Omega.{arith}
use lib.ListN.{length, take}
use Rattle.locate.proofs.Handed.{handed, part-long, started_by}
use Rattle.locate.proofs.read_start.Goals as goal

pub read_full-got-requires : goal.read_full-got-requires
read_full-got-requires c = search handed

pub is_readable-readable-requires : goal.is_readable-readable-requires
is_readable-readable-requires c = search handed

pub slice_bounds-card_length-end : goal.slice_bounds-card_length-end
slice_bounds-card_length-end c = search handed

pub slice_bounds-card_length-end-2 : goal.slice_bounds-card_length-end-2
slice_bounds-card_length-end-2 c = search handed

pub card_length-n-requires : goal.card_length-n-requires
card_length-n-requires c = search handed

pub slice_bounds-read_body-end : goal.slice_bounds-read_body-end
slice_bounds-read_body-end c = search handed

pub slice_bounds-read_body-end-2 : goal.slice_bounds-read_body-end-2
slice_bounds-read_body-end-2 c =
    let bytes = c.args.bytes.now in
    part-long c.card_length-n.result bytes (omega arith)

pub read_body-body-requires : goal.read_body-body-requires
read_body-body-requires c = search handed

pub shape_of-head : goal.shape_of-head
shape_of-head c = search handed

pub shape_of-bytes : goal.shape_of-bytes
shape_of-bytes c = search handed

pub returns : goal.returns
returns c =
    let got = c.read_full-got.result in
    let said = c.card_length-n in
    let bytes = c.args.bytes.now in
    let n = said.result in
    let h : n ≤ 65 = said.ensures.1 in
    let k : n ≡ length (take n bytes) = part-long n bytes (omega arith) in
    started_by _ _ _ got c.is_readable-readable.ensures said.ensures.0 (omega arith) c.read_body-body.ensures
