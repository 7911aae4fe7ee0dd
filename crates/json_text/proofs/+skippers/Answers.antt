-- A step of the loops of an array and an object is one law, `list-step` of `proofs.Steps`, over the item and the closing bracket.
use Rattle.std.proofs.Common.{rules}
use Rattle.json_text.proofs.Steps.{list-empty, array-start, object-start, list_on, list_less, list-end, member_unnamed, member_unmarked, member_valued, value_none, value-object, value-array, value_scalar}
use Rattle.json_text.proofs.+skippers.Goals as goal

-- ---- an array

pub skip_array-returns-then-byte-eq93 : goal.skip_array-returns-then-byte-eq93
skip_array-returns-then-byte-eq93 t c = search list-empty

pub skip_array-loop-j-init : goal.skip_array-loop-j-init
skip_array-loop-j-init t c = search array-start

pub skip_array-loop-j-smaller : goal.skip_array-loop-j-smaller
skip_array-loop-j-smaller t c = search (list_less, rules)

pub skip_array-loop-j-preserved : goal.skip_array-loop-j-preserved
skip_array-loop-j-preserved t c = search (list_on, rules)

pub skip_array-returns-in-Break : goal.skip_array-returns-in-Break
skip_array-returns-in-Break t c = search (list-end, rules)

-- ---- a member of an object

pub skip_member-returns-in_default : goal.skip_member-returns-in_default
skip_member-returns-in_default t c = search member_unnamed

pub skip_member-returns-in_default-skip_mark : goal.skip_member-returns-in_default-skip_mark
skip_member-returns-in_default-skip_mark t c = search member_unmarked

pub skip_member-returns : goal.skip_member-returns
skip_member-returns t c = search member_valued

-- ---- an object

pub skip_object-returns-then-byte-eq125 : goal.skip_object-returns-then-byte-eq125
skip_object-returns-then-byte-eq125 t c = search list-empty

pub skip_object-loop-j-init : goal.skip_object-loop-j-init
skip_object-loop-j-init t c = search object-start

pub skip_object-loop-j-smaller : goal.skip_object-loop-j-smaller
skip_object-loop-j-smaller t c = search (list_less, rules)

pub skip_object-loop-j-preserved : goal.skip_object-loop-j-preserved
skip_object-loop-j-preserved t c = search (list_on, rules)

pub skip_object-returns-in-Break : goal.skip_object-returns-in-Break
skip_object-returns-in-Break t c = search (list-end, rules)

-- ---- a value

pub skip_value-returns-then-depth-eq0 : goal.skip_value-returns-then-depth-eq0
skip_value-returns-then-depth-eq0 t c = search value_none

pub skip_value-returns-then-b-eq123 : goal.skip_value-returns-then-b-eq123
skip_value-returns-then-b-eq123 t c = search value-object

pub skip_value-returns-then-b-eq91 : goal.skip_value-returns-then-b-eq91
skip_value-returns-then-b-eq91 t c = search value-array

pub skip_value-returns : goal.skip_value-returns
skip_value-returns t c = search value_scalar
