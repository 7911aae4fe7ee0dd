-- The loop keeps `Filling`: the entries before i stand in the rows at q with absolute numbers; id and end are those of the entry before i.
use Rattle.settle.proofs.sorted.Filling.{Filling}
use Rattle.settle.proofs.sorted.put_rows.Given as goal

abbrev pub invariant-loop-i : goal.invariant-loop-i
invariant-loop-i l = Filling l.data l.s l.n l.initial.out l.q l.out l.i l.id l.end
