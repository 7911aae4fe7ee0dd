use borrow.Author.Rules.{rules}
use Rattle.json_text.specs.tokens.Bytes.{is_digit}
use Rattle.json_text.proofs.tokens.Laws.{span_found}
use Rattle.json_text.proofs.tokens.numbers.skip_digits.Goals as goal

pub returns : goal.returns
returns c =
    let e = c.skip_class.ensures in
    span_found is_digit c.args.s.now c.args.at e.range (λ k a l. let x = e.passed k a l in search rules) (λ l. let x = e.stopped l in search rules)
