-- What is kept: for each name, the members from m on come to what is known of it, with the members from i on. The length that remains falls.
use Prim.Native.Nat.{◌-◌}
use lib.ListN.{length}
use Rattle.json_text.proofs.members.Items.{Walking}
use Rattle.json_text.proofs.members.four_from.Given as goal

abbrev pub invariant-loop-j : goal.invariant-loop-j
invariant-loop-j l = Walking l.a l.b l.c l.d l.s l.m l.i l.w l.x l.y l.z

abbrev pub decreases-loop-j : goal.decreases-loop-j
decreases-loop-j l = length l.s - l.i
