use Rattle.bitmap.proofs.Marks.{bit-read}
use Rattle.bitmap.proofs.is_marked.Goals as goal

pub returns : goal.returns
returns c = search bit-read
