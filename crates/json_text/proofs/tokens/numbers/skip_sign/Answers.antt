use borrow.Author.Rules.{rules}
use Rattle.json_text.proofs.tokens.Steps.{sign_room}
use Rattle.json_text.proofs.tokens.numbers.skip_sign.Goals as goal

pub overflow_add-result : goal.overflow_add-result
overflow_add-result c = search (sign_room, rules)
