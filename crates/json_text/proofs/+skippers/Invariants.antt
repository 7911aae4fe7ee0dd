-- The four skippers, which call each other.
-- The measure of a call is three times the depth that remains, and a rank: an object asks for its members, and a member or an array for values, at its own depth but a lower rank; a value asks for objects and arrays one level down.
-- The loops of an array and an object fall by the length that remains. What they keep is `Listing` of `proofs.Steps`: the list ends where its items from i on end.
use Rattle.std.proofs.Common.{◌+◌, ◌*◌, ◌-◌, length}
use Rattle.json_text.specs.Grammar.{value_at, member_at}
use Rattle.json_text.proofs.Steps.{Listing}
use Rattle.json_text.proofs.+skippers.Given as goal

abbrev pub decreases-skip_array : goal.decreases-skip_array
decreases-skip_array l = 3 * l.depth + 1

abbrev pub decreases-skip_member : goal.decreases-skip_member
decreases-skip_member l = 3 * l.depth + 1

abbrev pub decreases-skip_object : goal.decreases-skip_object
decreases-skip_object l = 3 * l.depth + 2

abbrev pub decreases-skip_value : goal.decreases-skip_value
decreases-skip_value l = 3 * l.depth

abbrev pub invariant-skip_array-loop-j : goal.invariant-skip_array-loop-j
invariant-skip_array-loop-j l = Listing (value_at l.depth l.s) 93 l.s l.at l.i

abbrev pub decreases-skip_array-loop-j : goal.decreases-skip_array-loop-j
decreases-skip_array-loop-j l = length l.s - l.i

abbrev pub invariant-skip_object-loop-j : goal.invariant-skip_object-loop-j
invariant-skip_object-loop-j l = Listing (member_at (value_at l.depth l.s) l.s) 125 l.s l.at l.i

abbrev pub decreases-skip_object-loop-j : goal.decreases-skip_object-loop-j
decreases-skip_object-loop-j l = length l.s - l.i
