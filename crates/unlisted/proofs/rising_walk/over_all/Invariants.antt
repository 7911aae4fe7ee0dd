use Rattle.unlisted.specs.rising_walk.Order.{Extends, part_at}
use Rattle.unlisted.proofs.rising_walk.over_all.Given as goal

abbrev pub invariant-loop-m : goal.invariant-loop-m
invariant-loop-m l = Extends (part_at l.items l.rows l.spec l.index l.data l.m) l.initial.at l.at
