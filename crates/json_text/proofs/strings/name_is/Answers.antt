use Rattle.json_text.proofs.strings.Steps.{name-differs}
use Rattle.json_text.proofs.strings.name_is.Goals as goal

pub returns-then-differs : goal.returns-then-differs
returns-then-differs c = search name-differs
