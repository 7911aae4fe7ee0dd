-- `card::fields::twos::signed` meets its contract.
use Rattle.card.proofs.fields.Words.{words}
use Rattle.card.proofs.fields.twos.signed.Goals as goal

pub overflow_cast-result : goal.overflow_cast-result
overflow_cast-result c = search words

pub overflow_sub-result : goal.overflow_sub-result
overflow_sub-result c = search words

pub overflow_cast-result-else-v-lt2147483648 : goal.overflow_cast-result-else-v-lt2147483648
overflow_cast-result-else-v-lt2147483648 c = search words

pub overflow_sub-result-else-v-lt2147483648 : goal.overflow_sub-result-else-v-lt2147483648
overflow_sub-result-else-v-lt2147483648 c = search words

pub returns-then-v-lt2147483648 : goal.returns-then-v-lt2147483648
returns-then-v-lt2147483648 c = search words

pub returns-else-v-lt2147483648 : goal.returns-else-v-lt2147483648
returns-else-v-lt2147483648 c = search words
