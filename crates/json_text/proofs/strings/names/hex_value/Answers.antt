use Rattle.json_text.proofs.strings.Steps.{digit_least, upper-least}
use Rattle.json_text.proofs.strings.names.hex_value.Goals as goal

pub overflow_sub-result : goal.overflow_sub-result
overflow_sub-result c = search digit_least

pub overflow_sub-result-then-b : goal.overflow_sub-result-then-b
overflow_sub-result-then-b c = search upper-least
