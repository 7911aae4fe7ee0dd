-- One word of the filter.
use Rattle.std.proofs.Common.{refl, rules}
use Rattle.duplicate_ids.proofs.filter.Filters.{word-is, bits_is, noting}
use Rattle.duplicate_ids.proofs.filter.note.Goals as goal

pub returns : goal.returns
returns c =
    let h = c.hash-h.ensures in
    noting _ (word-is _ h) (bits_is _ h c.six_bits.ensures) (search rules) refl refl
