-- What is kept: the text from `at` on says the name just if the text from i on says what is left of it.
use Rattle.json_text.proofs.strings.Steps.{Agreeing}
use Rattle.json_text.proofs.strings.says.Given as goal

abbrev pub invariant-loop-b : goal.invariant-loop-b
invariant-loop-b l = Agreeing l.s l.name l.at l.i l.b-index
