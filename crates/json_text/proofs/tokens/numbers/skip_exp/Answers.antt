use borrow.Author.Rules.{rules}
use Rattle.json_text.proofs.tokens.Steps.{exp-room}
use Rattle.json_text.proofs.tokens.numbers.skip_exp.Goals as goal

pub overflow_add-at : goal.overflow_add-at
overflow_add-at c = search (exp-room, rules)
