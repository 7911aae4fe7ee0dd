-- `card::optional_fields::put_kind` meets its contract.
use Rattle.card.proofs.Composing.{composing}
use Rattle.card.proofs.optional_fields.put_kind.Goals as goal

pub is_mesh-requires : goal.is_mesh-requires
is_mesh-requires c = search composing

pub returns-then-not-is_mesh : goal.returns-then-not-is_mesh
returns-then-not-is_mesh c = search composing

pub put_one-requires : goal.put_one-requires
put_one-requires c = search composing

pub shape_of-out : goal.shape_of-out
shape_of-out c = search composing

pub returns : goal.returns
returns c = search composing
