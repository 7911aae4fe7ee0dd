-- `card::optional_fields::offset_len` meets its contract.
use Rattle.card.proofs.Composing.{composing}
use Rattle.card.proofs.optional_fields.offset_len.Goals as goal

pub no_offset-requires : goal.no_offset-requires
no_offset-requires c = search composing

pub returns-then-no_offset : goal.returns-then-no_offset
returns-then-no_offset c = search composing

pub returns-else-no_offset : goal.returns-else-no_offset
returns-else-no_offset c = search composing
