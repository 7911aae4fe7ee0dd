use Rattle.bitmap.proofs.Marks.{Open}
use Rattle.bitmap.proofs.zeros_of.Given as goal

abbrev pub invariant-loop-word : goal.invariant-loop-word
invariant-loop-word l = Open l.map l.k l.word-index l.total
