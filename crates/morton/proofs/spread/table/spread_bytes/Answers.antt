-- `morton::spread::table::spread_bytes` meets its contract: all entries are computed here.
use mathlib.Core.Path.{refl}
use Rattle.morton.specs.axis.Axis.{bit_of}
use Rattle.morton.specs.spread.Spread.{spread}
use Rattle.morton.proofs.spread.Entries.{spreads}
use Rattle.morton.proofs.spread.table.spread_bytes.Goals as goal

pub returns : goal.returns
unfolding spread bit_of
returns c = spreads _ refl tt
