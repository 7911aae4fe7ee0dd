-- `morton::steps::volume_key_bits` meets its contract.
use mathlib.Core.Path.{ap, ◌∙◌}
use Rattle.morton.specs.Key.{key_bits_of}
use Rattle.morton.proofs.steps.volume_key_bits.Goals as goal

pub returns : goal.returns
returns c = c.key_bits.ensures ∙ ap key_bits_of c.grid.ensures
