-- `card::fields::twos::bits` meets its contract.
use Rattle.card.proofs.fields.Words.{words}
use Rattle.card.proofs.fields.twos.bits.Goals as goal

pub overflow_sub-result : goal.overflow_sub-result
overflow_sub-result c = search words

pub overflow_cast-result : goal.overflow_cast-result
overflow_cast-result c = search words

pub overflow_sub-result-then-z-lt0 : goal.overflow_sub-result-then-z-lt0
overflow_sub-result-then-z-lt0 c = search words

pub overflow_cast-result-else-z-lt0 : goal.overflow_cast-result-else-z-lt0
overflow_cast-result-else-z-lt0 c = search words

pub returns-then-z-lt0 : goal.returns-then-z-lt0
returns-then-z-lt0 c = search words

pub returns-else-z-lt0 : goal.returns-else-z-lt0
returns-else-z-lt0 c = search words
