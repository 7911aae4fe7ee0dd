use borrow.Author.Rules.{rules}
use Rattle.json_text.proofs.members.Items.{four_none, four_room, four_some}
use Rattle.json_text.proofs.members.four_members.Goals as goal

pub returns-in_default : goal.returns-in_default
returns-in_default c = search four_none

pub four_from-requires : goal.four_from-requires
four_from-requires c = search (four_room, rules)

pub returns : goal.returns
returns c = search four_some
