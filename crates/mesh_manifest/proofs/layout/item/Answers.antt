-- An item is a u32 at four times its number.
use borrow.Author.Rules.{rules}
use Rattle.mesh_manifest.specs.layout.Layout.{manifest_item}
use Rattle.mesh_manifest.proofs.layout.item.Goals as goal

pub returns : goal.returns
unfolding manifest_item
returns c = search rules
