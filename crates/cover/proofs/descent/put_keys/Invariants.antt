-- What is left to write, over what stands there now, gives what is to stand there.
use Rattle.std.proofs.Common.{◌≡◌, ◌+◌, ◌-◌}
use Rattle.endian.specs.Place.{paste}
use Rattle.cover.specs.halves.Box.{counting}
use Rattle.cover.proofs.descent.put_keys.Given as goal

abbrev pub invariant-loop-i : goal.invariant-loop-i
invariant-loop-i l = paste (l.at + l.i) (counting (l.first + l.i) (l.n - l.i)) l.out ≡ paste l.at (counting l.first l.n) l.initial.out
