use borrow.Author.Rules.{rules}
use Rattle.json_text.specs.characters.Chars.{is_plain}
use Rattle.json_text.proofs.tokens.Laws.{span_found}
use Rattle.json_text.proofs.characters.skip_plain.Goals as goal

pub returns : goal.returns
returns c =
    let e = c.skip_class.ensures in
    span_found is_plain c.args.s.now c.args.at e.range (λ k a l. let x = e.passed k a l in search rules) (λ l. let x = e.stopped l in search rules)
