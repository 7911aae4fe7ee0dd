use Rattle.settle.proofs.answers.Writers.{telling}
use Rattle.settle.proofs.answers.answer_of.Goals as goal

pub returns-in-Err : goal.returns-in-Err
returns-in-Err c = search telling
