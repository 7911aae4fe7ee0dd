-- `morton::spread::spread_byte` meets its contract.
use Rattle.morton.proofs.spread.Bytes.{entry-is, byte_most}
use Rattle.morton.proofs.spread.spread_byte.Goals as goal

pub returns : goal.returns
returns c =
    let e = entry-is c.requires.0 _ c.requires.1 c.from.ensures in
    (e, byte_most _ e)
