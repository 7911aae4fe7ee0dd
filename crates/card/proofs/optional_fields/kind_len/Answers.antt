-- `card::optional_fields::kind_len` meets its contract.
use Rattle.card.proofs.Composing.{volume-length, composing}
use Rattle.card.proofs.optional_fields.kind_len.Goals as goal

pub is_mesh-requires : goal.is_mesh-requires
is_mesh-requires c = search composing

pub returns-then-is_mesh : goal.returns-then-is_mesh
returns-then-is_mesh c = search composing

pub returns-else-is_mesh : goal.returns-else-is_mesh
returns-else-is_mesh c = (volume-length _ c.is_mesh.ensures c.if-is_mesh.false, search composing)
