-- The digits before i are left to write, those of w.
use Rattle.std.proofs.Common.{◌≡◌, ◌-◌}
use Rattle.endian.specs.Place.{paste}
use Rattle.names.specs.digits.Digits.{digits}
use Rattle.names.proofs.digits.put_digits.Given as goal

abbrev pub invariant-loop-i : goal.invariant-loop-i
invariant-loop-i l = paste l.at (digits l.base (l.i - l.at) l.w) l.out ≡ paste l.at (digits l.base l.count l.v) l.initial.out
